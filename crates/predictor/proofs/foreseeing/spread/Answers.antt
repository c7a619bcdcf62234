use Rattle.std.proofs.Common.{◌≡◌, List, length, take, sym, subst, None, Ok, arith}
use Rattle.component_tree.specs.PlainTree.{plain}
use Rattle.policy_digest.specs.Table.{values_eq}
use Rattle.predictor.specs.declared.error.ForeseeError.{ForeseeError}
use Rattle.predictor.specs.declared.reached.Reached.{Reached}
use Rattle.predictor.specs.States.{states_after}
use Rattle.predictor.specs.Foreseen.{Refuses, foreseen_by}
use Rattle.predictor.specs.Reaching.{values_in}
use Rattle.predictor.proofs.Spreads.{step_refused, cut_refused, next_spread, all_spread}
use Rattle.predictor.proofs.foreseeing.spread.Goals as goal

pub returns-in-Err-step-clause-states : goal.returns-in-Err-step-clause-states
returns-in-Err-step-clause-states c =
    let last = length c.args.components.now in
    subst (λ (e : ForeseeError). Refuses e (foreseen_by values_eq (λ k. states_after c.args.bank c.args.locality c.args.pcrs.now (take k (plain c.args.components.now))) c.args.first last None)) (sym c.stopped-in-Err-step.ensures)
    (step_refused c.args.bank c.args.locality c.args.pcrs.now c.args.components.now c.args.first c.loop-number.number c.index-components-number.result c.loop-number-test.true c.index-components-number.is c.loop-number.states c.loop-number.reached c.loop-number.invariant.spread
    last c.in-Err-step.stop c.loop-number-test.true (rw (c.as_slice-in-loop-number.ensures, c.as_slice-in-loop-number-2.ensures) at c.in-Err-step.ensures.collects))

pub returns-in-Err-put_cut-clause-states : goal.returns-in-Err-put_cut-clause-states
returns-in-Err-put_cut-clause-states c =
    let last = length c.args.components.now in
    subst (λ (e : ForeseeError). Refuses e (foreseen_by values_eq (λ k. states_after c.args.bank c.args.locality c.args.pcrs.now (take k (plain c.args.components.now))) c.args.first last None)) (sym c.stopped-in-Err-put_cut.ensures)
    (cut_refused c.args.bank c.args.locality c.args.pcrs.now c.args.components.now c.args.first c.loop-number.number c.index-components-number.result c.loop-number-test.true c.index-components-number.is c.loop-number.states c.loop-number.reached c.loop-number.invariant.spread
    last c.in-Err-put_cut.stop c.in-Ok-step.next c.put_cut-in-loop-number.new.list c.loop-number-test.true (rw (c.as_slice-in-loop-number.ensures, c.as_slice-in-loop-number-2.ensures) at c.in-Ok-step.ensures.collects)
    (rw c.as_slice-in-loop-number-3.ensures at c.in-Err-put_cut.ensures))

pub loop-number-preserved : goal.loop-number-preserved
loop-number-preserved c = record {
  spread = next_spread c.args.bank c.args.locality c.args.pcrs.now c.args.components.now c.args.first c.loop-number.number c.index-components-number.result c.loop-number-test.true c.index-components-number.is c.loop-number.states c.loop-number.reached c.loop-number.invariant.spread
      c.in-Ok-step.next c.put_cut-in-loop-number.new.list (rw (c.as_slice-in-loop-number.ensures, c.as_slice-in-loop-number-2.ensures) at c.in-Ok-step.ensures.collects) (rw c.as_slice-in-loop-number-3.ensures at c.in-Ok-put_cut.ensures);
  all_fit = c.in-Ok-step.ensures.all_fit;
}

pub returns-clause-states : goal.returns-clause-states
returns-clause-states c =
    let last = length c.args.components.now in
    subst (λ (l : List Reached). foreseen_by values_eq (λ k. states_after c.args.bank c.args.locality c.args.pcrs.now (take k (plain c.args.components.now))) c.args.first last None ≡ Ok (values_in l)) (sym c.into_list.ensures)
    (all_spread c.args.bank c.args.locality c.args.pcrs.now c.args.components.now c.args.first c.loop-number.number last c.loop-number.states c.loop-number.reached (omega arith) c.loop-number.invariant.spread)
