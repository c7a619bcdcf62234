use Rattle.std.proofs.Common.{◌≡◌, drop}
use Rattle.component_tree.specs.Taken.{with_variant_entries}
use Rattle.component_tree.proofs.taken.note_variants.Given as goal

-- what is left makes of the files so far what all make of those at the start
abbrev pub invariant-loop-entry : goal.invariant-loop-entry
invariant-loop-entry l =
    with_variant_entries l.taken.first.entries l.id l.folder (drop l.entry-index l.entries) ≡ with_variant_entries l.fn.taken.first.entries l.id l.folder l.entries
