use Rattle.std.proofs.Common.{[], sym, ◌∙◌}
use Rattle.std.proofs.lemmas.Result.{err_from_is_err_and}
use Rattle.tcg_log.specs.Reading.{records_at}
use Rattle.tcg_log.proofs.Loops.{records_done, records_too_many, records_go_on, records_end}
use Rattle.tcg_log.proofs.reading.records.Goals as goal

pub returns-then-is_empty : goal.returns-then-is_empty
returns-then-is_empty c =
    records_done c.args.all c.args.algorithms.now _ c.loop.read.items c.loop.rest.now (records_at c.args.all c.args.algorithms.now c.args.limit [] c.args.bytes.now) (sym c.is_empty.ensures ∙ c.if-is_empty.true) c.loop.invariant

pub returns-in_err-next : goal.returns-in_err-next
returns-in_err-next c =
    let p = err_from_is_err_and c.from_residual.result c.from_residual.ensures.1 in
    rw (p.1, p.2) (records_end c.in_err-next.field-0.0 c.args.all c.args.algorithms.now c.args.limit c.loop.counter c.loop.read.items c.loop.rest.now (records_at c.args.all c.args.algorithms.now c.args.limit [] c.args.bytes.now) c.loop-test.true (sym c.is_empty.ensures ∙ c.if-is_empty.false) c.loop.invariant c.in_err-next.ensures)

pub loop-preserved : goal.loop-preserved
loop-preserved c =
    rw c.in_ok-push.ensures.items (records_go_on c.args.all c.args.algorithms.now c.args.limit c.loop.counter c.loop.read.items c.loop.rest.now c.in_ok-next.next c.in_ok-next.after.now (records_at c.args.all c.args.algorithms.now c.args.limit [] c.args.bytes.now) c.loop-test.true (sym c.is_empty.ensures ∙ c.if-is_empty.false) c.loop.invariant c.in_ok-next.ensures)

pub returns-then-is_empty-2 : goal.returns-then-is_empty-2
returns-then-is_empty-2 c =
    records_done c.args.all c.args.algorithms.now _ c.loop.read.items c.loop.rest.now (records_at c.args.all c.args.algorithms.now c.args.limit [] c.args.bytes.now) (sym c.is_empty-2.ensures ∙ c.if-is_empty-2.true) c.loop.invariant

pub returns-else-is_empty-2 : goal.returns-else-is_empty-2
returns-else-is_empty-2 c =
    records_too_many c.args.all c.args.algorithms.now c.args.limit c.loop.counter c.loop.read.items c.loop.rest.now (records_at c.args.all c.args.algorithms.now c.args.limit [] c.args.bytes.now) c.loop-test.false (sym c.is_empty-2.ensures ∙ c.if-is_empty-2.false) c.loop.invariant
