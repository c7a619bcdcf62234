use Rattle.std.proofs.Common.{arith}
use Rattle.predictor.proofs.StateKeys.{shorter_first}
use Rattle.predictor.proofs.state_key.compare_states.Goals as goal

pub returns-else-a-b : goal.returns-else-a-b
returns-else-a-b c =
    shorter_first c.args.a.now c.args.b.now c.loop-place.place (omega (arith, c.loop-place-test.false)) (omega (arith, c.loop-place-test.false, c.loop-place.invariant.within, c.if-a-b.false)) c.loop-place.invariant.rest
