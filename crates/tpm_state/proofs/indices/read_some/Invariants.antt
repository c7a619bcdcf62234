use Rattle.std.proofs.Common.{◌≡◌, ◌-◌, []}
use Rattle.pl_layout.specs.Reading.{repeat_at}
use Rattle.tpm_state.specs.Indices.{index_at}
use Rattle.tpm_state.proofs.indices.read_some.Given as goal

abbrev pub invariant-loop : goal.invariant-loop
invariant-loop l = repeat_at (λ before. index_at l.all) (l.count - l.counter) l.indices.items l.rest ≡ repeat_at (λ before. index_at l.all) l.count [] l.bytes
