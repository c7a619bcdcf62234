-- How many rows and lists a table has.
use Rattle.std.specs.Prelude.{◌≤◌, length}
use Rattle.std.specs.List.{AllByRecursion}
use Rattle.policy_digest.specs.PlainTable.{PlainRow, PlainTable}

-- a row has 1 to 512 lists
pub record HasLists (row : PlainRow) : Type 0 where
  pub some : 1 ≤ length row.lists
  pub few : length row.lists ≤ 512

-- a table has a row at least, and each has its lists
pub record HasRows (table : PlainTable) : Type 0 where
  pub some : 1 ≤ length table.rows
  pub rows : AllByRecursion HasLists table.rows
