use Rattle.std.proofs.Common.{◌≡◌, length}
use Rattle.component_tree.specs.PlainTree.{plain}
use Rattle.record_match.specs.Extends.{variants_of}
use Rattle.predict_proof.specs.Chosen.{is_choice}
use Rattle.predict_proof.proofs.Walks.{choice_from}
use Rattle.predict_proof.proofs.reaching.is_choice.Given as goal

abbrev pub invariant-loop-place : goal.invariant-loop-place
invariant-loop-place l = record {
  long : length l.choice ≡ length l.components;
  rest : choice_from l.components l.choice l.place ≡ is_choice (variants_of (plain l.components)) l.choice;
}
