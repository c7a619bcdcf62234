use Rattle.std.proofs.Common.{◌≡◌, ◌≤◌, length, drop, map}
use Rattle.std.specs.List.{All}
use Rattle.component_tree.specs.PlainTree.{plain_variant}
use Rattle.predictor.specs.Distinct.{put_all}
use Rattle.predictor.specs.Foreseen.{value_limit}
use Rattle.predictor.specs.Reaching.{same_values}
use Rattle.predictor.specs.Spread.{nexts_from, HasState}
use Rattle.predictor.proofs.spreading.put_after.Given as goal

abbrev pub invariant-loop-number : goal.invariant-loop-number
invariant-loop-number l = record {
  rest : put_all same_values l.list (nexts_from l.bank l.pcrs l.cut l.number (map plain_variant (drop l.number l.variants)) l.state) ≡ put_all same_values l.fn.list (nexts_from l.bank l.pcrs l.cut 0 (map plain_variant l.variants) l.state);
  within : length l.list ≤ value_limit;
  all_fit : All (HasState l.bank (length l.pcrs)) l.list;
}
