use Rattle.std.proofs.Common.{◌≡◌, ◌-◌, []}
use Rattle.pl_layout.specs.Reading.{repeat_at}
use Rattle.tpm_state.specs.Objects.{object_at}
use Rattle.tpm_state.proofs.objects.read_some.Given as goal

abbrev pub invariant-loop : goal.invariant-loop
invariant-loop l = repeat_at (λ before. object_at l.all l.version) (l.count - l.counter) l.objects.items l.rest ≡ repeat_at (λ before. object_at l.all l.version) l.count [] l.bytes
