use Rattle.std.proofs.Common.{◌≡◌, ◌++◌, take, flat_map, string_bytes}
use Rattle.std.specs.Prelude.{◌==◌, filter}
use Rattle.component_tree.specs.PlainTree.{plain}
use Rattle.pcrlock_words.specs.PredictText.{left_text}
use Rattle.pcrlock_words.proofs.predict.write_left_of.Given as goal

abbrev pub invariant-loop-one : goal.invariant-loop-one
invariant-loop-one l = string_bytes l.text ≡ string_bytes l.fn.text ++ flat_map (left_text (plain l.tree.components)) (filter (λ left. left.pcr == l.pcr) (take l.one-index l.left))
