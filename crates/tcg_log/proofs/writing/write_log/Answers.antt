use Rattle.tcg_log.specs.Text.{spec_text}
use Rattle.tcg_log.proofs.Appends.{append_record}
use Rattle.tcg_log.proofs.writing.write_log.Goals as goal

pub loop-record-preserved : goal.loop-record-preserved
loop-record-preserved c =
    append_record c.loop-record.out.items c.put_record.new.out.items (spec_text c.args.log.now.spec) c.args.log.now.records c.loop-record.record-index c.record-item.result (rw c.as_slice-record-items.ensures at c.loop-record-test.true) (rw c.as_slice-record-items.ensures at c.record-item.is) c.loop-record.invariant c.in_ok-put_record.ensures
