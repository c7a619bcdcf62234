use Rattle.std.proofs.Common.{◌≡◌, ◌-◌, ◌+◌, length}
use Rattle.hash_bank.specs.Hash.{size_in}
use Rattle.pl_layout.specs.Reading.{bytes_at, repeat_at}
use Rattle.tpm_state.specs.Field.{fault}
use Rattle.tpm_state.proofs.field.read_digests.Given as goal

abbrev pub invariant-loop : goal.invariant-loop
invariant-loop l = record {
  exact : repeat_at (λ b. bytes_at (fault l.all) (size_in l.bank)) (l.count - l.counter) l.read.items l.rest ≡ repeat_at (λ b. bytes_at (fault l.all) (size_in l.bank)) l.count l.fn.before.items l.bytes;
  count : length l.read.items ≡ length l.fn.before.items + l.counter;
}
