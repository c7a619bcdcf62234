use Rattle.std.proofs.Common.{◌≡◌, ◌≤◌, ◌+◌, length}
use Rattle.policy_digest.specs.Mask.{pcrs_of}
use Rattle.policy_digest.proofs.Masks.{pcrs_from}
use Rattle.policy_digest.proofs.mask.pcr_count.Given as goal

abbrev pub invariant-loop-pcr : goal.invariant-loop-pcr
invariant-loop-pcr l = record {
  small : l.count ≤ l.pcr;
  rest : l.count + length (pcrs_from l.mask l.pcr) ≡ length (pcrs_of l.mask);
}
