use Rattle.std.proofs.Common.{sym, ◌∙◌, subst, refl}
use Rattle.std.proofs.lemmas.List.Elements.{All-more}
use Rattle.tcg_log.specs.Allowed.{RecordFits}
use Rattle.tcg_log.proofs.WritableSteps.{all_taken, records_next}
use Rattle.tcg_log.proofs.writable.records_fit.Goals as goal

pub loop-record-preserved : goal.loop-record-preserved
loop-record-preserved c = record {
  value = sym (records_next c.args.algorithms.now c.args.records.now c.loop-record.record-index c.record-item.result c.record-item.result c.record_size-size.result c.loop-record.left c.loop-record-test.true c.record-item.is (sym c.if-not-is_record.ensures.value) c.record_size-size.ensures c.if-left-size.false) ∙ c.loop-record.invariant.value;
  fits = All-more RecordFits c.args.records.now c.loop-record.record-index c.record-item.result c.loop-record-test.true c.loop-record.invariant.fits (subst RecordFits c.record-item.is (c.if-not-is_record.ensures.fits refl));
}

pub returns-clause-fits : goal.returns-clause-fits
returns-clause-fits c = λ _. all_taken RecordFits c.args.records.now c.loop-record.record-index c.loop-record-test.false c.loop-record.invariant.fits
