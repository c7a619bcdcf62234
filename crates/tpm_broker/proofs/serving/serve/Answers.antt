use Rattle.std.proofs.Common.{◌≡◌, ℕ, inl, inr, ◌+◌, ◌<◌, ◌≤◌, length, take, ap, ◌∙◌, subst, arith}
use Rattle.std.specs.Prelude.{Some, IfSome}
use Rattle.std.proofs.lemmas.List.{take_all}
use Rattle.std.proofs.lemmas.List.Elements.{recursion_from_All}
use Rattle.tpm_model.specs.declared.command.Command.{Command}
use Rattle.tpm_model.specs.Rules.{HasRules}
use Rattle.tpm_device.specs.Stored.{Holds}
use Rattle.tpm_broker.specs.Alone.{at_places, sessions_started}
use Rattle.tpm_broker.specs.Lists.{answers_to, state_left}
use Rattle.tpm_broker.proofs.AsAlone.{clients_alone}
use Rattle.tpm_broker.proofs.InOrder.{clients_next, so_far_next, state_next}
use Rattle.tpm_broker.proofs.serving.serve.Goals as goal

pub returns-in-Err-clause-stopped : goal.returns-in-Err-clause-stopped
returns-in-Err-clause-stopped g c = λ s live.
    let i = c.loop-one.one-index in
    let asked = c.args.asked.now in
    let so_far = c.loop-one.invariant.told s live in
    let within : i < length asked = c.loop-one-test.true in
    elim (c.in-Err.ensures.stopped (state_left (take i asked) c.args.broker.now s) so_far.state) [
      | inl same ↦ (i, omega arith, same.0 ∙ so_far.clients_are, same.1)
      | inr done ↦ (
        i + 1,
        omega arith,
        done.0 ∙ clients_next asked i c.one-item.result c.args.broker.now c.loop-one.broker s within c.one-item.is so_far.clients_are,
        λ _. done.1 ∙ ap Some (state_next asked i c.one-item.result c.args.broker.now c.loop-one.broker s within c.one-item.is so_far.clients_are),
      )
    ]

pub loop-one-preserved : goal.loop-one-preserved
loop-one-preserved g c =
    let i = c.loop-one.one-index in
    let asked = c.args.asked.now in
    record {
      ready = c.in-Ok.ensures.readiness;
      later = omega (arith, c.loop-one.invariant.later, c.in-Ok.ensures.cause.later);
      count = c.in-Ok.ensures.count ∙ c.loop-one.invariant.count;
      rules = λ s live.
          let so_far = c.loop-one.invariant.told s live in
          c.in-Ok.ensures.rules (state_left (take i asked) c.args.broker.now s) so_far.state (subst (λ o. IfSome o HasRules) so_far.state (c.loop-one.invariant.rules s live));
      stored = λ s live holds.
          let so_far = c.loop-one.invariant.told s live in
          c.in-Ok.ensures.stored (state_left (take i asked) c.args.broker.now s) so_far.state (c.loop-one.invariant.stored s live holds)
          ∙ ap (λ t. Some (Holds t)) (state_next asked i c.one-item.result c.args.broker.now c.loop-one.broker s c.loop-one-test.true c.one-item.is so_far.clients_are);
      told = λ s live.
          let so_far = c.loop-one.invariant.told s live in
          so_far_next asked i c.one-item.result c.args.broker.now c.loop-one.broker c.serve_next.new.broker s c.loop-one.responses c.serve_next.new.responses (g.T.Tpm.live c.loop-one.tpm)
          (g.T.Tpm.live c.serve_next.new.tpm) c.loop-one-test.true c.one-item.is so_far (c.in-Ok.ensures.told (state_left (take i asked) c.args.broker.now s) so_far.state);
    }

pub returns-clause-as_alone : goal.returns-clause-as_alone
returns-clause-as_alone g c = λ s live new room limit k low.
    let n = length c.args.broker.now in
    let asked = c.args.asked.now in
    let all = recursion_from_All (λ (one : ℕ × Command). one.0 < n) asked c.requires.clients in
    let so_far = c.loop-one.invariant.told s live in
    let every : take c.loop-one.one-index asked ≡ asked = take_all c.loop-one.one-index asked c.loop-one-test.false in
    ap (at_places k asked) (so_far.answers ∙ ap (λ xs. answers_to xs c.args.broker.now s) every ∙ ap (λ cs. answers_to asked cs s) new)
    ∙ clients_alone k n asked s (c.is_ready-ready.ensures.rules s live) low all room (subst (λ cs. s.next_session + sessions_started asked cs s ≤ 0x01000000) new limit)

pub returns-in-Err-clause-rules : goal.returns-in-Err-clause-rules
returns-in-Err-clause-rules g c = λ s live.
    let so_far = c.loop-one.invariant.told s live in
    c.in-Err.ensures.rules (state_left (take c.loop-one.one-index c.args.asked.now) c.args.broker.now s) so_far.state
    (subst (λ o. IfSome o HasRules) so_far.state (c.loop-one.invariant.rules s live))

pub returns-in-Err-clause-stored : goal.returns-in-Err-clause-stored
returns-in-Err-clause-stored g c = λ s live holds.
    let i = c.loop-one.one-index in
    let asked = c.args.asked.now in
    let so_far = c.loop-one.invariant.told s live in
    let within : i < length asked = c.loop-one-test.true in
    elim (c.in-Err.ensures.stored (state_left (take i asked) c.args.broker.now s) so_far.state (c.loop-one.invariant.stored s live holds)) [
      | inl before ↦ (i, omega arith, before)
      | inr after ↦ (
        i + 1,
        omega arith,
        after ∙ ap (λ t. Some (Holds t)) (state_next asked i c.one-item.result c.args.broker.now c.loop-one.broker s within c.one-item.is so_far.clients_are),
      )
    ]

pub returns-clause-stored : goal.returns-clause-stored
returns-clause-stored g c = λ s live holds.
    c.loop-one.invariant.stored s live holds
    ∙ ap (λ xs. Some (Holds (state_left xs c.args.broker.now s))) (take_all c.loop-one.one-index c.args.asked.now c.loop-one-test.false)
