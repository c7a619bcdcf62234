use Rattle.std.proofs.Common.{arith}
use Rattle.record_match.proofs.FirstChoice.{more_noted}
use Rattle.record_match.proofs.choosing.note_all.Goals as goal

pub loop-done-preserved : goal.loop-done-preserved
loop-done-preserved c =
    rw c.in_ok-push-2.ensures (more_noted c.args.steps.now c.args.list.now c.loop-done.done c.loop-done.sets c.index-steps-steps.result c.index-as_slice-done.result c.in_ok-before.before
    (omega arith) c.index-steps-steps.is (rw c.as_slice.ensures at c.index-as_slice-done.is) c.loop-done.invariant
    (rw (c.as_slice-alternatives.ensures, c.as_slice-in-loop-done.ensures) at c.in_ok-before.ensures))
