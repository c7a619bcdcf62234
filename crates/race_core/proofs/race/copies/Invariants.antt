use Rattle.std.proofs.Common.{◌≡◌, take}
use Rattle.race_core.proofs.race.copies.Given as goal

abbrev pub invariant-loop-table : goal.invariant-loop-table
invariant-loop-table l = l.list ≡ take l.table-index l.tables
