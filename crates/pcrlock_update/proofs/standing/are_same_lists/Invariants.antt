use Rattle.std.proofs.Common.{◌≡◌, drop, length}
use Rattle.std.specs.Cmp.Lexicographic.{pointwise}
use Rattle.policy_digest.specs.Table.{values_eq}
use Rattle.pcrlock_update.proofs.standing.are_same_lists.Given as goal

abbrev pub invariant-loop-place : goal.invariant-loop-place
invariant-loop-place l = record {
  long : length l.some ≡ length l.others;
  rest : pointwise values_eq (drop l.place l.some) (drop l.place l.others) ≡ pointwise values_eq l.some l.others;
}
