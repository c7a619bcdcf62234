use Rattle.std.proofs.Common.{ap, ◌∙◌, ◌≤◌, arith}
use Rattle.tpm_model.specs.Fresh.{fresh_parts}
use Rattle.tpm_model.specs.Pcrs.{bank_count}
use Rattle.tpm_state.specs.Storing.{all_banks}
use Rattle.tpm_state.proofs.Stores.{banks_all}
use Rattle.tpm_state.proofs.file_tpm.fresh_state.Goals as goal

pub fresh-requires : goal.fresh-requires
fresh-requires c = rw (banks_all c.all.result c.all.ensures) (omega arith)

pub returns : goal.returns
returns c = c.fresh.ensures.value ∙ ap fresh_parts (banks_all c.all.result c.all.ensures)
