use Rattle.std.proofs.Common.{◌≡◌, take}
use Rattle.predictor.specs.Reaching.{values_in}
use Rattle.predictor.proofs.foreseeing.values_of.Given as goal

abbrev pub invariant-loop-state : goal.invariant-loop-state
invariant-loop-state l = l.list ≡ values_in (take l.state-index l.states)
