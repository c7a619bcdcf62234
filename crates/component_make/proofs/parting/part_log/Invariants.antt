use Rattle.std.proofs.Common.{take}
use Rattle.pcr_replay.specs.Combined.{firmware_rows}
use Rattle.component_make.specs.Parting.{IsParted, IsMarked}
use Rattle.component_make.proofs.parting.part_log.Given as goal

abbrev pub invariant-loop-measured : goal.invariant-loop-measured
invariant-loop-measured l = record {
  parted : IsParted l.pcrs (firmware_rows (take l.measured-index l.log.records)) l.locked;
  marked : IsMarked (firmware_rows (take l.measured-index l.log.records)) l.marks;
}
