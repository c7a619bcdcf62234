use Rattle.std.proofs.Common.{take}
use Rattle.std.specs.List.{All}
use Rattle.component_tree.specs.PlainTree.{plain_variant}
use Rattle.record_match.specs.Noted.{Lowers, NotesVariant}
use Rattle.record_match.proofs.noting.note_variants.Given as goal

abbrev pub invariant-loop-variant : goal.invariant-loop-variant
invariant-loop-variant l = record {
  lowers : Lowers l.fn.numbers l.numbers;
  so_far : All (λ v. NotesVariant l.numbers l.number (plain_variant v)) (take l.variant-index l.variants);
}
