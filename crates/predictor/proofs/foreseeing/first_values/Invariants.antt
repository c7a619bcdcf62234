use Rattle.std.proofs.Common.{◌≡◌, map, take}
use Rattle.policy_digest.specs.Levels.{first_of}
use Rattle.predictor.specs.Reaching.{values_in}
use Rattle.predictor.proofs.foreseeing.first_values.Given as goal

abbrev pub invariant-loop-state : goal.invariant-loop-state
invariant-loop-state l = l.list ≡ map first_of (values_in (take l.state-index l.states))
