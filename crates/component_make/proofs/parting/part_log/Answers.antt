use Rattle.std.proofs.Common.{List, take, sym, subst}
use Rattle.pcr_replay.specs.Row.{Row}
use Rattle.pcr_replay.specs.Combined.{firmware_rows}
use Rattle.pcr_replay.proofs.Firmware.{each_allowed}
use Rattle.component_make.specs.EarlyLate.{early_of, late_of}
use Rattle.component_make.specs.Parting.{IsParted, IsMarked}
use Rattle.component_make.proofs.Rows.{rows_next, short}
use Rattle.component_make.proofs.parting.part_log.Goals as goal

pub part_record-requires : goal.part_record-requires
part_record-requires c =
    let rows = firmware_rows (take c.loop-measured.measured-index c.args.log.now.records) in
    let a = each_allowed c.args.log.now c.loop-measured.measured-index c.measured-item.result c.requires.writable.allowed (rw c.as_slice-measured-items.ensures at c.loop-measured-test.true) (rw c.as_slice-measured-items.ensures at c.measured-item.is) in
    record {
      sized = a.sized;
      in_range = a.in_range;
      early_short = short c.loop-measured.locked.early (early_of c.args.pcrs rows) c.loop-measured.invariant.parted.early;
      late_short = short c.loop-measured.locked.late (late_of c.args.pcrs rows) c.loop-measured.invariant.parted.late;
    }

pub loop-measured-preserved : goal.loop-measured-preserved
loop-measured-preserved c =
    let rows = firmware_rows (take c.loop-measured.measured-index c.args.log.now.records) in
    let next = rows_next c.args.log.now.records c.loop-measured.measured-index c.measured-item.result (rw c.as_slice-measured-items.ensures at c.loop-measured-test.true) (rw c.as_slice-measured-items.ensures at c.measured-item.is) in
    let both = c.in_ok-part_record.ensures rows c.loop-measured.invariant.parted c.loop-measured.invariant.marked in
    record {
      parted = subst (λ (rs : List Row). IsParted c.args.pcrs rs c.part_record.new.locked) (sym next) both.0;
      marked = subst (λ (rs : List Row). IsMarked rs c.part_record.new.marks) (sym next) both.1;
    }
