use Rattle.std.proofs.Common.{◌≡◌, ◌≤◌, ◌++◌, drop, map, Ok}
use Rattle.serde_json.specs.View.{items_view}
use Rattle.cel_record.specs.ComponentText.{records_from}
use Rattle.cel_record.specs.Spelled.{spelled}
use Rattle.cel_record.specs.Step.{◌>>=◌}
use Rattle.cel_record.proofs.component.records_of.Given as goal

abbrev pub invariant-loop-number : goal.invariant-loop-number
invariant-loop-number l = record {
  within : l.number ≤ 256;
  rest : (records_from l.number (items_view (drop l.number l.values)) >>= λ rs. Ok (map spelled l.records ++ rs)) ≡ records_from 0 (items_view l.values);
}
