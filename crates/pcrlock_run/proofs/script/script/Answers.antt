use Rattle.std.proofs.Common.{◌≡◌, length, true, rules, arith}
use Rattle.std.specs.Prelude.{◌==◌, Ok, Err}
use Rattle.std.proofs.lemmas.Grind.{common_steps}
use Rattle.pcrlock_line.proofs.Composed.{then_ends}
use Rattle.pcrlock_run.proofs.Widened.{then_same_stop}
use Rattle.pcrlock_run.proofs.Firsts.{stopped_so, stop_of}
use Rattle.pcrlock_run.proofs.Folds.{begins, continues, ends, halts}
use Rattle.pcrlock_run.proofs.Halts.{breaks_off, keeps_on, sets_out}
use Rattle.pcrlock_run.proofs.Parts.{nothing_left}
use Rattle.pcrlock_run.proofs.script.script.Goals as goal

pub lines-init : goal.lines-init
lines-init g c = record {
  text = search rules;
  causes = search rules;
  told = λ m tells safe. begins _ _ _ _ _ _ _ _ 0 m tells safe;
  onward = λ m tells safe. sets_out _ _ _ _ _ _ _ _ 0 m tells safe;
}

pub returns-in_err-status-clause-causes : goal.returns-in_err-status-clause-causes
returns-in_err-status-clause-causes g c =
    let was : c.step.result ≡ Err c.in_err-status.field-0.0 = search rules in
    let is : c.from_residual.result ≡ Err c.in_err-status.field-0.0 = search rules in
    then_same_stop _ _ _ (Ok tt) c.step.result c.from_residual.result c.in_err-status.field-0.0 c.lines.invariant.causes c.step.ensures.causes was is

pub returns-in_err-status-clause-stops : goal.returns-in_err-status-clause-stops
returns-in_err-status-clause-stops g c = λ m tells safe.
    let was : c.step.result ≡ Err c.in_err-status.field-0.0 = search rules in
    let is : c.from_residual.result ≡ Err c.in_err-status.field-0.0 = search rules in
    stopped_so _ c.from_residual.result c.in_err-status.field-0.0 is
    (halts _ _ _ _ _ _ _ _ _ _ _ _ _ _ _ _ _ c.next_line.ensures.split (c.lines.invariant.told m tells safe)
    (λ n t free. stop_of _ c.step.result c.in_err-status.field-0.0 was (c.step.ensures.stops n t free)))

pub returns-in_err-status-clause-halts : goal.returns-in_err-status-clause-halts
returns-in_err-status-clause-halts g c = λ m tells safe.
    let was : c.step.result ≡ Err c.in_err-status.field-0.0 = search rules in
    let is : c.from_residual.result ≡ Err c.in_err-status.field-0.0 = search rules in
    stopped_so _ c.from_residual.result c.in_err-status.field-0.0 is
    (breaks_off _ _ _ _ _ _ _ _ _ _ _ _ _ _ _ _ _ _ _ _ _ _ _ _ c.next_line.ensures.split c.lines.invariant.causes.out (c.lines.invariant.onward m tells safe)
    (λ n t free. stop_of _ c.step.result c.in_err-status.field-0.0 was (c.step.ensures.halts n t free)))

pub lines-preserved : goal.lines-preserved
lines-preserved g c = record {
  text = search rules;
  causes = then_ends _ _ _ (Ok tt) c.step.result tt c.lines.invariant.causes c.step.ensures.causes;
  told = λ m tells safe.
      continues _ _ _ _ _ _ _ _ _ _ _ _ _ _ _ _ _ _ _ _ _ _ c.next_line.ensures.split (c.lines.invariant.told m tells safe) c.in_ok-status.ensures.told;
  onward = λ m tells safe.
      keeps_on _ _ _ _ _ _ _ _ _ _ _ _ _ _ _ _ _ _ _ _ _ _ _ c.next_line.ensures.split (c.lines.invariant.onward m tells safe) c.in_ok-status.ensures.told;
}

pub returns-clause-told : goal.returns-clause-told
returns-clause-told g c = λ m tells safe.
    let empty : (length c.lines.rest.now == 0) ≡ true = grind (arith, common_steps) in
    ends _ _ _ _ _ _ _ _ _ _ _ _ _ (nothing_left c.lines.rest.now empty) (c.lines.invariant.told m tells safe)
