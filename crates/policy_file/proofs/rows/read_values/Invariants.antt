use Rattle.std.proofs.Common.{◌≡◌, ◌-◌, length}
use Rattle.hash_bank.specs.Hash.{size_in}
use Rattle.pl_layout.specs.Reading.{bytes_at, repeat_at}
use Rattle.policy_file.specs.declared.error.FileKind.TheVariants.{Cut}
use Rattle.policy_file.specs.PolicyReading.{fault, values_at}
use Rattle.policy_file.proofs.rows.read_values.Given as goal

-- the values that are left
abbrev pub invariant-loop : goal.invariant-loop
invariant-loop l = record {
  exact : repeat_at (λ before. bytes_at (fault Cut l.all) (size_in l.bank)) (l.count - l.counter) l.values.items l.rest ≡ values_at l.all l.bank l.count l.bytes;
  count : length l.values.items ≡ l.counter;
}
