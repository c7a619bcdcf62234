use Rattle.std.proofs.Common.{◌≤◌, length, take, subst, arith}
use Rattle.std.proofs.lemmas.List.{length-map}
use Rattle.pcr_replay.specs.Row.{rows}
use Rattle.pcrlock_tpm.specs.Boot.{measured}
use Rattle.pcrlock_line.specs.Running.{Runs}
use Rattle.pcrlock_tpm.proofs.Boots.{free_after, no_end, one_more, part_way}
use Rattle.pcrlock_tpm.proofs.boot.extend_all.Goals as goal

pub returns-in-Ok-false-clause-told : goal.returns-in-Ok-false-clause-told
returns-in-Ok-false-clause-told g c = λ s runs zero.
    let few : length (rows c.args.list.now) ≤ 20480 = rw length-map c.requires.few in
    let told = c.in-Ok-false.ensures.told (measured (take c.loop-record.record-index (rows c.args.list.now)) s) (c.loop-record.invariant.told s runs zero)
    (free_after (rows c.args.list.now) c.loop-record.record-index s few zero) in
    no_end c.in-Ok-false.field-0 c.in-Ok-false.field-0-test told.0

pub returns-in-Err-clause-stops : goal.returns-in-Err-clause-stops
returns-in-Err-clause-stops g c = λ s runs zero.
    let few : length (rows c.args.list.now) ≤ 20480 = rw length-map c.requires.few in
    part_way (g.T.Tpm.stored c.extend.new.tpm) c.args.list.now c.loop-record.record-index c.record-item.result s c.loop-record-test.true c.record-item.is
    (c.in-Err.ensures.stops (measured (take c.loop-record.record-index (rows c.args.list.now)) s) (c.loop-record.invariant.told s runs zero)
    (free_after (rows c.args.list.now) c.loop-record.record-index s few zero))

pub loop-record-preserved : goal.loop-record-preserved
loop-record-preserved g c = record {
  readiness = c.in-Ok-true.ensures.readiness;
  later = omega (arith, c.loop-record.invariant.later, c.extend.ensures.causes.tpm);
  told = λ s runs zero.
      let few : length (rows c.args.list.now) ≤ 20480 = rw length-map c.requires.few in
      let told = c.in-Ok-true.ensures.told (measured (take c.loop-record.record-index (rows c.args.list.now)) s) (c.loop-record.invariant.told s runs zero)
      (free_after (rows c.args.list.now) c.loop-record.record-index s few zero) in
      subst (Runs (g.T.Tpm.live c.extend.new.tpm) (g.T.Tpm.stored c.extend.new.tpm))
      (one_more c.args.list.now c.loop-record.record-index c.record-item.result s c.loop-record-test.true c.record-item.is) told.1;
}
