use Rattle.std.proofs.Common.{◌<◌, length, drop, ◌+◌, arith}
use Rattle.predictor.specs.Distinct.{put_all}
use Rattle.predictor.specs.Foreseen.{value_limit}
use Rattle.predictor.specs.Reaching.{same_values}
use Rattle.predictor.proofs.Puttings.{put_full, put_one}
use Rattle.predictor.proofs.spreading.put_cut.Goals as goal

pub returns-then-len-gt-LIMIT : goal.returns-then-len-gt-LIMIT
returns-then-len-gt-LIMIT c =
    let longer : value_limit < length c.put_copy.new.self = omega (arith, c.len.ensures) in
    rw c.loop-state.invariant.cut (put_full c.put_copy.new.self (drop (c.loop-state.state-index + 1) c.args.states.now) (put_all same_values c.args.list.now c.args.states.now) longer
    (put_one c.loop-state.list c.put_copy.new.self (put_all same_values c.args.list.now c.args.states.now) c.args.states.now c.loop-state.state-index c.state-item.result c.loop-state-test.true c.state-item.is c.in-Ok.ensures c.loop-state.invariant.rest))
