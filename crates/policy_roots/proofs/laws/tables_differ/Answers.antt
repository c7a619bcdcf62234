use Rattle.std.specs.Prelude.{Contains}
use Rattle.policy_digest.specs.Plain.{plain_table}
use Rattle.policy_roots.proofs.Tables.{same_tables}
use Rattle.policy_roots.proofs.Valid.{valid_has_rows}
use Rattle.policy_roots.proofs.laws.tables_differ.Goals as goal

pub returns-clause-valid : goal.returns-clause-valid
returns-clause-valid c = λ hashed a b safe held kept valid fine e.
    same_tables (Contains hashed) safe (plain_table a) (plain_table b) held kept (valid_has_rows a valid) (valid_has_rows b fine) e

pub returns-clause-plain : goal.returns-clause-plain
returns-clause-plain c = λ hashed a b safe held kept has keeps e. same_tables (Contains hashed) safe a b held kept has keeps e
