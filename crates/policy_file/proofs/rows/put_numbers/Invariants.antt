use Rattle.std.proofs.Common.{◌≡◌, ◌++◌}
use Rattle.policy_digest.specs.Mask.{pcrs_of}
use Rattle.policy_digest.proofs.Masks.{pcrs_from}
use Rattle.policy_file.proofs.rows.put_numbers.Given as goal

-- what is written, and what is left
abbrev pub invariant-loop-pcr : goal.invariant-loop-pcr
invariant-loop-pcr l = l.out.items ++ pcrs_from l.mask l.pcr ≡ l.initial.out.items ++ pcrs_of l.mask
