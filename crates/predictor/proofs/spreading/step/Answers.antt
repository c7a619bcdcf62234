use Rattle.std.proofs.Common.{map}
use Rattle.component_tree.specs.PlainTree.{plain_variant}
use Rattle.predictor.proofs.Puttings.{step_stops}
use Rattle.predictor.proofs.spreading.step.Goals as goal

pub returns-in-Err-clause-collects : goal.returns-in-Err-clause-collects
returns-in-Err-clause-collects c =
    step_stops c.args.bank c.args.pcrs.now c.args.cut (map plain_variant c.args.variants.now) c.loop-state.list c.put_after.new.list c.args.states.now c.loop-state.state-index c.state-item.result c.in-Err.stop
    c.loop-state-test.true c.state-item.is c.in-Err.ensures.puts c.loop-state.invariant.rest
