use Rattle.std.proofs.Common.{◌≡◌}
use Rattle.component_tree.specs.PlainTree.{plain}
use Rattle.record_match.specs.Choices.{chosen}
use Rattle.record_match.specs.Extends.{variants_of}
use Rattle.predict_proof.specs.Proved.{some_lacks}
use Rattle.predict_proof.proofs.Walks.{chosen_from}
use Rattle.predict_proof.proofs.reaching.lacks_some.Given as goal

abbrev pub invariant-loop-place : goal.invariant-loop-place
invariant-loop-place l = some_lacks l.bank l.pcrs (chosen_from l.components l.choice l.place) ≡ some_lacks l.bank l.pcrs (chosen (variants_of (plain l.components)) l.choice)
