use Rattle.std.proofs.Common.{◌≡◌, ◌++◌, length, drop, map}
use Rattle.std.specs.List.{All}
use Rattle.hash_bank.specs.Hash.{size_in}
use Rattle.cel_record.specs.Spelled.{spelled}
use Rattle.predictor.specs.Spread.{extended_state}
use Rattle.predictor.proofs.spreading.next_values.Given as goal

abbrev pub invariant-loop-place : goal.invariant-loop-place
invariant-loop-place l = record {
  rest : l.list ++ extended_state l.bank (drop l.place l.pcrs) (drop l.place l.values) (map spelled l.records) ≡ extended_state l.bank l.pcrs l.values (map spelled l.records);
  long : length l.list ≡ l.place;
  sized : All (λ d. length d ≡ size_in l.bank) l.list;
}
