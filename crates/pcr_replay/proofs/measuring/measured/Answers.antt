use Rattle.std.proofs.Common.{sym, ◌∙◌, eq-eqb}
use Rattle.pcr_replay.specs.Row.{rows}
use Rattle.pcr_replay.specs.Measured.{measured_in}
use Rattle.pcr_replay.proofs.Steps.{measure_takes, listed_is}
use Rattle.pcr_replay.proofs.measuring.measured.Goals as goal

pub loop-record-preserved : goal.loop-record-preserved
loop-record-preserved c =
    rw c.in_ok-push-in-Some.ensures (measure_takes c.args.bank c.args.pcr c.loop-record.digests c.in-Some.digest c.args.list.now c.loop-record.record-index c.record-item.result (measured_in c.args.bank c.args.pcr (rows c.args.list.now)) c.loop-record-test.true c.record-item.is (eq-eqb _ _ c.if-record-pcr.false) (listed_is c.args.bank c.record-item.result.digests ∙ sym c.in-Some.ensures.value) c.loop-record.invariant)
