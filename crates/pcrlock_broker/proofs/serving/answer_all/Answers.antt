use Rattle.std.proofs.Common.{ap, arith, take, ◌∙◌, ◌≡◌, length, subst, sym}
use Rattle.std.proofs.lemmas.List.{take_all}
use Rattle.tpm_broker.specs.Lists.{clients_left, state_left}
use Rattle.tpm_broker.specs.Served.{served}
use Rattle.tpm_broker.proofs.InOrder.{clients_next}
use Rattle.pcrlock_line.specs.Running.{Runs}
use Rattle.pcrlock_line.proofs.Composed.{later_stops}
use Rattle.pcrlock_broker.specs.Broker.{answers_text}
use Rattle.pcrlock_broker.proofs.Turns.{served_next, served_way, text_next}
use Rattle.pcrlock_broker.proofs.serving.answer_all.Goals as goal

pub returns-in-Err-clause-causes : goal.returns-in-Err-clause-causes
returns-in-Err-clause-causes g c =
    later_stops (g.T.Tpm.faults c.args.tpm.now) (g.T.Tpm.faults c.loop-one.tpm) (g.T.Tpm.faults c.answer_one.new.tpm) c.answer_one.result c.in-Err.stop
    c.loop-one.invariant.later c.answer_one.ensures.causes c.in-Err.is

pub returns-in-Err-clause-stops : goal.returns-in-Err-clause-stops
returns-in-Err-clause-stops g c = λ s runs.
    let i = c.loop-one.one-index in
    served_way (g.T.Tpm.stored c.answer_one.new.tpm) c.args.asked.now i c.one-item.result c.args.broker.now c.loop-one.broker s c.loop-one-test.true c.one-item.is
    (c.loop-one.invariant.left s runs) (c.in-Err.ensures.stops (state_left (take i c.args.asked.now) c.args.broker.now s) (c.loop-one.invariant.runs s runs))

pub loop-one-preserved : goal.loop-one-preserved
loop-one-preserved g c =
    let i = c.loop-one.one-index in
    let asked = c.args.asked.now in
    let before = c.args.broker.now in
    record {
      readiness = c.in-Ok.ensures.readiness;
      later = omega (arith, c.loop-one.invariant.later, c.answer_one.ensures.causes.tpm);
      count = c.in-Ok.ensures.count ∙ c.loop-one.invariant.count;
      runs = λ s runs.
          let told = c.in-Ok.ensures.told (state_left (take i asked) before s) (c.loop-one.invariant.runs s runs) in
          served_next (g.T.Tpm.live c.answer_one.new.tpm) (g.T.Tpm.stored c.answer_one.new.tpm) asked i c.one-item.result before c.loop-one.broker s c.loop-one-test.true c.one-item.is
          (c.loop-one.invariant.left s runs) told.0;
      left = λ s runs.
          let told = c.in-Ok.ensures.told (state_left (take i asked) before s) (c.loop-one.invariant.runs s runs) in
          told.1 ∙ clients_next asked i c.one-item.result before c.loop-one.broker s c.loop-one-test.true c.one-item.is (c.loop-one.invariant.left s runs);
      text = λ s runs.
          let told = c.in-Ok.ensures.told (state_left (take i asked) before s) (c.loop-one.invariant.runs s runs) in
          text_next asked i c.one-item.result before c.loop-one.broker s c.loop-one.text.items c.answer_one.new.text.items c.loop-one-test.true c.one-item.is
          (c.loop-one.invariant.left s runs) (c.loop-one.invariant.text s runs) told.2;
    }

pub returns-clause-told : goal.returns-clause-told
returns-clause-told g c = λ s runs.
    let every : take c.loop-one.one-index c.args.asked.now ≡ c.args.asked.now = take_all c.loop-one.one-index c.args.asked.now c.loop-one-test.false in (
      subst (λ xs. Runs (g.T.Tpm.live c.loop-one.tpm) (g.T.Tpm.stored c.loop-one.tpm) (state_left xs c.args.broker.now s)) every (c.loop-one.invariant.runs s runs),
      c.loop-one.invariant.left s runs ∙ ap (λ xs. clients_left xs c.args.broker.now s) every,
      c.loop-one.invariant.text s runs ∙ ap (λ xs. answers_text xs c.args.broker.now s) every,
    )
