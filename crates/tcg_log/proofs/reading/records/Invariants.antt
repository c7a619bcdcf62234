use Rattle.std.proofs.Common.{◌≡◌, ◌-◌, []}
use Rattle.tcg_log.specs.Reading.{records_at}
use Rattle.tcg_log.proofs.reading.records.Given as goal

abbrev pub invariant-loop : goal.invariant-loop
invariant-loop l = records_at l.all l.algorithms (l.limit - l.counter) l.read.items l.rest ≡ records_at l.all l.algorithms l.limit [] l.bytes
