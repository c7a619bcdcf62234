use Rattle.std.proofs.Common.{◌≡◌, drop, length}
use Rattle.std.specs.Cmp.Lexicographic.{pointwise}
use Rattle.pcrlock_update.specs.Standing.{same_row}
use Rattle.pcrlock_update.proofs.standing.are_same_rows.Given as goal

abbrev pub invariant-loop-place : goal.invariant-loop-place
invariant-loop-place l = record {
  long : length l.some ≡ length l.others;
  rest : pointwise same_row (drop l.place l.some) (drop l.place l.others) ≡ pointwise same_row l.some l.others;
}
