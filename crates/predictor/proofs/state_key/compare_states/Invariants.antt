use Rattle.std.proofs.Common.{◌≡◌, ◌≤◌, length, drop}
use Rattle.predictor.specs.StateOrder.{state_cmp}
use Rattle.predictor.proofs.state_key.compare_states.Given as goal

abbrev pub invariant-loop-place : goal.invariant-loop-place
invariant-loop-place l = record {
  within : l.place ≤ length l.b;
  rest : state_cmp (drop l.place l.a) (drop l.place l.b) ≡ state_cmp l.a l.b;
}
