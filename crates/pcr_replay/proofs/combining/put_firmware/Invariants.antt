use Rattle.std.proofs.Common.{◌≡◌, ◌++◌, drop}
use Rattle.pcr_replay.specs.Row.{rows}
use Rattle.pcr_replay.specs.Combined.{firmware_rows}
use Rattle.pcr_replay.proofs.combining.put_firmware.Given as goal

abbrev pub invariant-loop-measured : goal.invariant-loop-measured
invariant-loop-measured l = rows l.list ++ firmware_rows (drop l.measured-index l.log.records) ≡ rows l.fn.list ++ firmware_rows l.log.records
