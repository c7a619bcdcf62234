use Rattle.std.proofs.Common.{sym, ◌∙◌}
use Rattle.tpm_model.proofs.KeepsIndices.{table_kept}
use Rattle.tpm_model.proofs.FromParts.{none_broken, values_bound}
use Rattle.tpm_model.proofs.state.State.from_parts.Goals as goal

pub from_slice-requires : goal.from_slice-requires
from_slice-requires c = rw c.as_slice.ensures (values_bound c.args.parts.banks c.args.parts.pcrs c.requires.values)

pub from_entries-requires : goal.from_entries-requires
from_entries-requires c = table_kept c.args.parts (none_broken c.args.parts c.requires (sym c.broken_rule.ensures ∙ c.in_default.is))

pub invariant_of-result : goal.invariant_of-result
invariant_of-result c = rw (c.from_slice.ensures, c.as_slice.ensures, c.from_entries.ensures) (none_broken c.args.parts c.requires (sym c.broken_rule.ensures ∙ c.in_default.is))
