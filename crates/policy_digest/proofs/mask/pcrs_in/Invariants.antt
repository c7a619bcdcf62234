use Rattle.std.proofs.Common.{◌≡◌, ◌≤◌, ◌++◌, length}
use Rattle.std.specs.List.{All}
use Rattle.policy_digest.specs.Mask.{pcrs_of}
use Rattle.policy_digest.proofs.Masks.{pcrs_from}
use Rattle.policy_digest.proofs.mask.pcrs_in.Given as goal

abbrev pub invariant-loop-pcr : goal.invariant-loop-pcr
invariant-loop-pcr l = record {
  rest : l.pcrs ++ pcrs_from l.mask l.pcr ≡ pcrs_of l.mask;
  few : length l.pcrs ≤ l.pcr;
  in_range : All (λ p. p ≤ 23) l.pcrs;
}
