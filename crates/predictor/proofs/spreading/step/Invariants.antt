use Rattle.std.proofs.Common.{◌≡◌, ◌≤◌, length, drop, map}
use Rattle.std.specs.List.{All}
use Rattle.component_tree.specs.PlainTree.{plain_variant}
use Rattle.predictor.specs.Distinct.{put_all, distinct}
use Rattle.predictor.specs.Foreseen.{value_limit}
use Rattle.predictor.specs.Reaching.{same_values}
use Rattle.predictor.specs.Spread.{next_states, HasState}
use Rattle.predictor.proofs.spreading.step.Given as goal

abbrev pub invariant-loop-state : goal.invariant-loop-state
invariant-loop-state l = record {
  rest : put_all same_values l.list (next_states l.bank l.pcrs l.cut (map plain_variant l.variants) (drop l.state-index l.states)) ≡ distinct same_values (next_states l.bank l.pcrs l.cut (map plain_variant l.variants) l.states);
  within : length l.list ≤ value_limit;
  all_fit : All (HasState l.bank (length l.pcrs)) l.list;
}
