use Rattle.std.proofs.Common.{◌≡◌, drop}
use Rattle.pcr_replay.specs.Row.{rows}
use Rattle.pcr_replay.specs.Measured.{measured_in}
use Rattle.pcr_replay.proofs.Steps.{measure_from}
use Rattle.pcr_replay.proofs.measuring.measured.Given as goal

abbrev pub invariant-loop-record : goal.invariant-loop-record
invariant-loop-record l = measure_from l.bank l.pcr l.digests (rows (drop l.record-index l.list)) ≡ measured_in l.bank l.pcr (rows l.list)
