use Rattle.std.proofs.Common.{◌≡◌, ◌+◌, length, drop}
use Rattle.component_tree.specs.PlainTree.{plain}
use Rattle.policy_digest.specs.Mask.{pcrs_of}
use Rattle.policy_digest.proofs.Masks.{pcrs_from}
use Rattle.record_match.specs.Extends.{reached_by}
use Rattle.predict_proof.specs.Fault.{first_differing}
use Rattle.predict_proof.proofs.checking.difference.Given as goal

abbrev pub invariant-loop-pcr : goal.invariant-loop-pcr
invariant-loop-pcr l = record {
  count : l.place + length (pcrs_from l.pcrs l.pcr) ≡ length l.values;
  rest : first_differing (λ p. reached_by l.bank p l.locality (plain l.components) l.choice) (pcrs_from l.pcrs l.pcr) (drop l.place l.values)
      ≡ first_differing (λ p. reached_by l.bank p l.locality (plain l.components) l.choice) (pcrs_of l.pcrs) l.values;
}
