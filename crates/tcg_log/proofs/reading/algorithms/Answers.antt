use Rattle.std.proofs.Common.{◌≤◌, [], ◌∷◌, arith, length-append}
use Rattle.std.proofs.lemmas.Result.{err_from_is_err_and}
use Rattle.std.proofs.lemmas.List.Elements.{All-push}
use Rattle.pl_layout.specs.Reading.{repeat_at}
use Rattle.pl_layout.proofs.Loops.{go_on, finish}
use Rattle.tcg_log.specs.Reading.{algorithm_at}
use Rattle.tcg_log.proofs.Loops.{end}
use Rattle.tcg_log.proofs.reading.algorithms.Goals as goal

pub returns-in_err-next-clause-exact : goal.returns-in_err-next-clause-exact
returns-in_err-next-clause-exact c =
    let p = err_from_is_err_and c.from_residual.result c.from_residual.ensures.1 in
    rw (p.1, p.2) (end c.in_err-next.field-0.0 (algorithm_at c.args.all) c.args.count c.loop.counter c.loop.read.items c.loop.rest.now (repeat_at (algorithm_at c.args.all) c.args.count [] c.args.bytes.now) c.loop-test.true c.loop.invariant.exact (rw c.deref.ensures.value at c.in_err-next.ensures.exact))

pub loop-preserved : goal.loop-preserved
loop-preserved c = record {
  exact = rw c.in_ok-push.ensures.items (go_on (algorithm_at c.args.all) c.args.count c.loop.counter c.loop.read.items c.loop.rest.now c.in_ok-next.next c.in_ok-next.after.now (repeat_at (algorithm_at c.args.all) c.args.count [] c.args.bytes.now) c.loop-test.true c.loop.invariant.exact (rw c.deref.ensures.value at c.in_ok-next.ensures.exact));
  sized = rw c.in_ok-push.ensures.items (All-push (λ a. (1 ≤ a.size) × (a.size ≤ 64)) c.loop.read.items c.in_ok-next.next c.loop.invariant.sized c.in_ok-next.ensures.sized);
  few = rw c.in_ok-push.ensures.items (omega (arith, length-append c.loop.read.items (c.in_ok-next.next ∷ []), c.loop.invariant.few));
}

pub returns-clause-exact : goal.returns-clause-exact
returns-clause-exact c = finish (algorithm_at c.args.all) c.args.count c.loop.counter c.loop.read.items c.loop.rest.now (repeat_at (algorithm_at c.args.all) c.args.count [] c.args.bytes.now) c.loop-test.false c.loop.invariant.exact
