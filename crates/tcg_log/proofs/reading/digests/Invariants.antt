use Rattle.std.proofs.Common.{◌≡◌, ◌-◌, []}
use Rattle.pl_layout.specs.Reading.{repeat_at}
use Rattle.tcg_log.specs.Reading.{tagged_at}
use Rattle.tcg_log.proofs.reading.digests.Given as goal

abbrev pub invariant-loop : goal.invariant-loop
invariant-loop l = repeat_at (tagged_at l.all l.algorithms) (l.count - l.counter) l.read.items l.rest ≡ repeat_at (tagged_at l.all l.algorithms) l.count [] l.bytes
