use Rattle.std.proofs.Common.{◌≡◌, ◌≤◌, length, drop, true}
use Rattle.predictor.specs.Distinct.{put_all}
use Rattle.predictor.specs.Foreseen.{value_limit}
use Rattle.predictor.specs.Reaching.{same_values}
use Rattle.predictor.proofs.spreading.put_cut.Given as goal

abbrev pub invariant-loop-state : goal.invariant-loop-state
invariant-loop-state l = record {
  cut : l.is_cut ≡ true;
  rest : put_all same_values l.list (drop l.state-index l.states) ≡ put_all same_values l.fn.list l.states;
  within : length l.list ≤ value_limit;
}
