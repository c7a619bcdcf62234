use Rattle.std.proofs.Common.{◌≡◌, take}
use Rattle.policy_digest.specs.Mask.{mask_of}
use Rattle.predictor.proofs.protecting.mask_with.Given as goal

abbrev pub invariant-loop-pcr : goal.invariant-loop-pcr
invariant-loop-pcr l = l.mask ≡ mask_of (take l.pcr-index l.pcrs)
