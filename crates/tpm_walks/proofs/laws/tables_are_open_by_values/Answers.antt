use Rattle.tpm_walks.proofs.OpenTables.{opens_by_values, opens_joined}
use Rattle.tpm_walks.proofs.laws.tables_are_open_by_values.Goals as goal

pub returns : goal.returns
returns c = record { values = λ table banks pcrs valid has. (opens_by_values table banks pcrs valid has, opens_joined table banks pcrs has) }
