use Rattle.std.proofs.Common.{◌≡◌, ◌-◌, []}
use Rattle.pl_layout.specs.Reading.{repeat_at}
use Rattle.policy_file.specs.PolicyReading.{row_at}
use Rattle.policy_file.proofs.tables.read_rows.Given as goal

-- the items that are left
abbrev pub invariant-loop : goal.invariant-loop
invariant-loop l = repeat_at (row_at l.all l.version l.bank) (l.count - l.counter) l.rows l.rest ≡ repeat_at (row_at l.all l.version l.bank) l.count [] l.bytes
