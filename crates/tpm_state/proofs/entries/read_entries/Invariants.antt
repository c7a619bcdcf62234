use Rattle.std.proofs.Common.{◌≡◌, ◌-◌, ◌≤◌, [], length}
use Rattle.pl_layout.specs.Reading.{repeat_at}
use Rattle.tpm_state.specs.Entries.{entry_at}
use Rattle.tpm_state.proofs.entries.read_entries.Given as goal

abbrev pub invariant-loop : goal.invariant-loop
invariant-loop l = record {
  exact : repeat_at (λ before. entry_at l.all l.hash) (l.count - l.counter) l.trail l.rest ≡ repeat_at (λ before. entry_at l.all l.hash) l.count [] l.bytes;
  few : length l.trail ≤ l.counter;
}
