use Rattle.std.proofs.Common.{◌++◌}
use Rattle.pcr_replay.specs.Row.{rows}
use Rattle.pcr_replay.specs.Combined.{firmware_rows}
use Rattle.pcr_replay.proofs.Firmware.{firmware_next, each_allowed}
use Rattle.pcr_replay.proofs.combining.put_firmware.Goals as goal

pub put_extended-requires : goal.put_extended-requires
put_extended-requires c =
    let a = each_allowed c.args.log.now c.loop-measured.measured-index c.measured-item.result c.requires.allowed (rw c.as_slice-measured-items.ensures at c.loop-measured-test.true) (rw c.as_slice-measured-items.ensures at c.measured-item.is) in
    record { sized = a.sized; in_range = a.in_range }

pub loop-measured-preserved : goal.loop-measured-preserved
loop-measured-preserved c =
    firmware_next c.loop-measured.list c.put_extended.new.list c.args.log.now.records c.loop-measured.measured-index c.measured-item.result (rows c.args.list.now ++ firmware_rows c.args.log.now.records) (rw c.as_slice-measured-items.ensures at c.loop-measured-test.true) (rw c.as_slice-measured-items.ensures at c.measured-item.is) c.in_ok-put_extended.ensures c.loop-measured.invariant
