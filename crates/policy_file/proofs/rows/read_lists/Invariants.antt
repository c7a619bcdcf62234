use Rattle.std.proofs.Common.{◌≡◌, ◌-◌, []}
use Rattle.pl_layout.specs.Reading.{repeat_at}
use Rattle.policy_file.specs.PolicyReading.{list_at}
use Rattle.policy_file.proofs.rows.read_lists.Given as goal

-- the items that are left
abbrev pub invariant-loop : goal.invariant-loop
invariant-loop l = repeat_at (list_at l.all l.bank l.count) (l.number - l.counter) l.lists l.rest ≡ repeat_at (list_at l.all l.bank l.count) l.number [] l.bytes
