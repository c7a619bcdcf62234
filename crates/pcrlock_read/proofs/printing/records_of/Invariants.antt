use Rattle.std.proofs.Common.{◌≡◌, ◌++◌, drop, map}
use Rattle.std.specs.Prelude.{length}
use Rattle.cel_record.specs.Spelled.{spelled}
use Rattle.pcr_replay.specs.Row.{rows}
use Rattle.pcrlock_read.specs.Cel.{measured}
use Rattle.pcrlock_read.proofs.printing.records_of.Given as goal

-- the records so far, and those that are left, are those of the log
abbrev pub invariant-loop-entry : goal.invariant-loop-entry
invariant-loop-entry l = record {
  told : map spelled l.records ++ map measured (rows (drop l.entry-index l.list)) ≡ map measured (rows l.list);
  as_many : length l.records ≡ l.entry-index;
}
