use Rattle.std.proofs.Common.{length, ap, arith, sym, ◌∙◌}
use Rattle.policy_digest.specs.Mask.{pcrs_of}
use Rattle.policy_digest.proofs.Masks.{from_first, counted_in, counted_out}
use Rattle.policy_digest.proofs.mask.pcr_count.Goals.{then-is_in_mask, else-is_in_mask}
use Rattle.policy_digest.proofs.mask.pcr_count.Goals as goal

pub loop-pcr-init : goal.loop-pcr-init
loop-pcr-init c = record { small = omega arith; rest = omega (arith, ap length (from_first c.args.mask)) }

pub loop-pcr-preserved : goal.loop-pcr-preserved
loop-pcr-preserved c =
    let total = length (pcrs_of c.args.mask) in
    elim c.if-is_in_mask.branch [
      | then-is_in_mask w ↦ record { small = omega arith; rest = rw w.count-is (counted_in c.args.mask c.loop-pcr.pcr c.loop-pcr.count total (omega arith) (sym w.if-is_in_mask.true ∙ c.is_in_mask.ensures) c.loop-pcr.invariant.rest) }
      | else-is_in_mask w ↦ record { small = omega arith; rest = rw w.count-is (counted_out c.args.mask c.loop-pcr.pcr c.loop-pcr.count total (omega arith) (sym w.if-is_in_mask.false ∙ c.is_in_mask.ensures) c.loop-pcr.invariant.rest) }
    ]
