use Rattle.std.proofs.Common.{◌≡◌, ◌-◌, []}
use Rattle.pl_layout.specs.Reading.{repeat_at}
use Rattle.policy_file.specs.PolicyReading.{table_at}
use Rattle.policy_file.proofs.tables.read_some.Given as goal

-- the items that are left
abbrev pub invariant-loop : goal.invariant-loop
invariant-loop l = repeat_at (λ before. table_at l.all l.version) (l.count - l.counter) l.tables l.rest ≡ repeat_at (λ before. table_at l.all l.version) l.count [] l.bytes
