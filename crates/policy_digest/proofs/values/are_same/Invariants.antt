use Rattle.std.proofs.Common.{◌≡◌, drop, length}
use Rattle.policy_digest.specs.Table.{values_eq}
use Rattle.policy_digest.proofs.values.are_same.Given as goal

abbrev pub invariant-loop-place : goal.invariant-loop-place
invariant-loop-place l = record {
  long : length l.some ≡ length l.others;
  rest : values_eq (drop l.place l.some) (drop l.place l.others) ≡ values_eq l.some l.others;
}
