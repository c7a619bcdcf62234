use Rattle.std.proofs.Common.{List, ℕ, ◌++◌, ap, arith}
use Rattle.policy_digest.proofs.Masks.{from_first}
use Rattle.policy_file.proofs.Masks.{one_more}
use Rattle.policy_file.proofs.rows.put_numbers.Goals as goal

pub loop-pcr-init : goal.loop-pcr-init
loop-pcr-init c = ap (λ (l : List ℕ). c.args.out.now.items ++ l) (from_first c.args.mask)

pub loop-pcr-preserved : goal.loop-pcr-preserved
loop-pcr-preserved c = one_more c.args.mask c.loop-pcr.pcr c.loop-pcr.out.items _ _ (omega arith) c.loop-pcr.invariant c.in_ok-put_number.ensures
