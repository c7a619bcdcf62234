use Rattle.std.proofs.Common.{◌≡◌, length}
use Rattle.std.specs.List.{flat_map}
use Rattle.hash_bank.specs.Hash.{size_in}
use Rattle.component_tree.specs.PlainTree.{plain}
use Rattle.pcr_replay.specs.Measured.{extended_by}
use Rattle.record_match.specs.Extends.{digests_in, reached_by}
use Rattle.predict_proof.proofs.Walks.{chosen_from}
use Rattle.predict_proof.proofs.reaching.reached.Given as goal

abbrev pub invariant-loop-place : goal.invariant-loop-place
invariant-loop-place l = record {
  size : length l.held ≡ size_in l.bank;
  rest : extended_by l.bank l.held (flat_map (λ v. digests_in l.bank l.pcr v.records) (chosen_from l.components l.choice l.place)) ≡ reached_by l.bank l.pcr l.locality (plain l.components) l.choice;
}
