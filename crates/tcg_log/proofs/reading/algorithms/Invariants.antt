use Rattle.std.proofs.Common.{◌≡◌, ◌-◌, ◌≤◌, [], length}
use Rattle.pl_layout.specs.Reading.{repeat_at}
use Rattle.tcg_log.specs.Allowed.{AreSized}
use Rattle.tcg_log.specs.Reading.{algorithm_at}
use Rattle.tcg_log.proofs.reading.algorithms.Given as goal

abbrev pub invariant-loop : goal.invariant-loop
invariant-loop l = record {
  exact : repeat_at (algorithm_at l.all) (l.count - l.counter) l.read.items l.rest ≡ repeat_at (algorithm_at l.all) l.count [] l.bytes;
  sized : AreSized l.read.items;
  few : length l.read.items ≤ l.counter;
}
