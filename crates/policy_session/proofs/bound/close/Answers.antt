use Rattle.std.proofs.Common.{◌≡◌, sym, ap, ◌∙◌, subst, refl, true, false, true≢false}
use Rattle.std.specs.Prelude.{Ok, Err}
use Rattle.tpm_model.specs.declared.command.Command.TheVariants as command
use Rattle.tpm_model.specs.declared.response.Response.{Response}
use Rattle.tpm_model.specs.declared.response.Response.TheVariants as answer
use Rattle.tpm_model.specs.declared.parts.Parts.{Parts}
use Rattle.tpm_model.specs.Respond.{respond}
use Rattle.policy_session.specs.Kept.{IsKept}
use Rattle.policy_session.specs.OpenSession.{closed, with_open}
use Rattle.policy_session.specs.Responses.{done}
use Rattle.policy_session.proofs.KeptStates.{kept_closed}
use Rattle.policy_session.proofs.OpenSteps.{flushed}
use Rattle.policy_session.specs.Ran.{Gives}
use Rattle.policy_session.proofs.Runs.{answers_with, ran_closed, ran_err, ran_known}
use Rattle.policy_session.proofs.bound.close.Goals as goal

pub returns-then-ended-clause-ran : goal.returns-then-ended-clause-ran
returns-then-ended-clause-ran g c = λ s x keeps at o.
    let asked = command.FlushSession c.args.stopped.session in
    let e = flushed c.args.stopped.session x s o in
    let kept = kept_closed c.args.stopped.session x s o in
    let next : IsKept s (respond asked (with_open x s)).1 = subst (IsKept s) (sym (ap (λ (r : Response × Parts). r.1) e)) kept in
    let known = ran_known asked c.command.result answer.Done (closed s) s (with_open x s) keeps (Ok c.in-Ok.response) _ _ _ c.command.ensures e
    (c.in-Ok.ensures.told (with_open x s) at.now c.requires.readiness)
    (λ k. c.in-Ok.ensures.stored s (with_open x s) at.now c.requires.readiness (at.same k) o.kept (subst (λ q. IsKept s (respond q (with_open x s)).1) (sym c.command.ensures) next)) in
    ran_closed s (closed s) keeps (answers_with answer.Done) c.in-Ok.response c.args.answer _ _ _ known kept

pub returns-else-ended-clause-ran : goal.returns-else-ended-clause-ran
returns-else-ended-clause-ran g c = λ s x keeps at o.
    let asked = command.FlushSession c.args.stopped.session in
    let e = flushed c.args.stopped.session x s o in
    let kept = kept_closed c.args.stopped.session x s o in
    let next : IsKept s (respond asked (with_open x s)).1 = subst (IsKept s) (sym (ap (λ (r : Response × Parts). r.1) e)) kept in
    let known = ran_known asked c.command.result answer.Done (closed s) s (with_open x s) keeps (Ok c.in-Ok.response) _ _ _ c.command.ensures e
    (c.in-Ok.ensures.told (with_open x s) at.now c.requires.readiness)
    (λ k. c.in-Ok.ensures.stored s (with_open x s) at.now c.requires.readiness (at.same k) o.kept (subst (λ q. IsKept s (respond q (with_open x s)).1) (sym c.command.ensures) next)) in
    let a = known.answered refl in
    let same : c.in-Ok.response ≡ answer.Done = cc in
    let met : done c.in-Ok.response ≡ true = ap done same in
    let unmet : done c.in-Ok.response ≡ false = sym c.is_done-ended.ensures ∙ c.if-ended.false in
    absurd (true≢false (sym met ∙ unmet))

pub returns-in-Err-clause-ran : goal.returns-in-Err-clause-ran
returns-in-Err-clause-ran g c = λ s x keeps at o.
    let asked = command.FlushSession c.args.stopped.session in
    let e = flushed c.args.stopped.session x s o in
    let kept = kept_closed c.args.stopped.session x s o in
    let next : IsKept s (respond asked (with_open x s)).1 = subst (IsKept s) (sym (ap (λ (r : Response × Parts). r.1) e)) kept in
    let known = ran_known asked c.command.result answer.Done (closed s) s (with_open x s) keeps (Err c.in-Err.error) _ _ _ c.command.ensures e
    (c.in-Err.ensures.told (with_open x s) at.now c.requires.readiness)
    (λ k. c.in-Err.ensures.stored s (with_open x s) at.now c.requires.readiness (at.same k) o.kept (subst (λ q. IsKept s (respond q (with_open x s)).1) (sym c.command.ensures) next)) in
    ran_err s keeps (Gives (answers_with answer.Done) (closed s)) _ c.in-Err.error _ _ _ known (λ after good. cc)
