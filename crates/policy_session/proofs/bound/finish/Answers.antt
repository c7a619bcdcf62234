use Rattle.std.proofs.Common.{◌≡◌, sym, ap, ◌∙◌, subst, refl}
use Rattle.std.specs.Prelude.{Ok, Err}
use Rattle.tpm_model.specs.declared.command.Command.TheVariants as command
use Rattle.tpm_model.specs.declared.response.Response.{Response}
use Rattle.tpm_model.specs.declared.parts.Parts.{Parts}
use Rattle.tpm_model.specs.Respond.{respond}
use Rattle.policy_walk.specs.Walking.{secret_in, why_in}
use Rattle.policy_session.specs.BoundUnseal.{secret_or}
use Rattle.policy_session.specs.Kept.{IsKept}
use Rattle.policy_session.specs.OpenSession.{IsOpen, closed, with_open}
use Rattle.policy_session.specs.Ran.{Gives}
use Rattle.policy_session.proofs.OpenSteps.{unsealing}
use Rattle.policy_session.proofs.Runs.{AsksSo, live_as, ran_err, ran_of, ran_same}
use Rattle.policy_session.proofs.bound.finish.Goals as goal

pub returns-in-Ok-clause-ran : goal.returns-in-Ok-clause-ran
returns-in-Ok-clause-ran g c = λ s x keeps at o noted.
    let session = c.args.authorised.session in
    let asked = command.Unseal session c.args.object in
    let w = with_open x s in
    let m = unsealing session x s o c.args.object c.requires.object noted in
    let next : IsKept s (respond asked w).1 = subst (IsKept s) (sym m.1) o.kept in
    let ran = ran_of asked c.command.result s w keeps (Ok c.in-Ok.response) _ _ _ c.command.ensures (c.in-Ok.ensures.told w at.now c.requires.readiness)
    (λ k. c.in-Ok.ensures.stored s w at.now c.requires.readiness (at.same k) o.kept (subst (λ q. IsKept s (respond q w).1) (sym c.command.ensures) next)) in
    let a = ran.answered refl in
    let same : c.in-Ok.response ≡ (respond asked w).0 = cc in
    let still = live_as keeps a.after w _ _ a.is (a.good.1 ∙ m.1) in
    let opened : IsOpen c.take-secret.result.stopped.session x s = subst (λ n. IsOpen n x s) (sym c.take-secret.ensures.session) o in
    let secret = c.take-secret.ensures.secret ∙ ap secret_in same in
    let reason = c.why.ensures ∙ c.take-secret.ensures.why ∙ ap (why_in session c.args.object) same in
    let given = c.secret_or-answer.ensures.value ∙ ap (λ v. secret_or v c.why.result) secret ∙ ap (secret_or (secret_in (respond asked w).0)) reason ∙ m.0 in
    ran_same s (closed s) keeps _ _ c.close.result _ _ _ (c.close.ensures.ran s x keeps still opened) given

pub returns-in-Err-clause-ran : goal.returns-in-Err-clause-ran
returns-in-Err-clause-ran g c = λ s x keeps at o noted.
    let session = c.args.authorised.session in
    let asked = command.Unseal session c.args.object in
    let w = with_open x s in
    let m = unsealing session x s o c.args.object c.requires.object noted in
    let next : IsKept s (respond asked w).1 = subst (IsKept s) (sym m.1) o.kept in
    let ran = ran_of asked c.command.result s w keeps (Err c.in-Err.error) _ _ _ c.command.ensures (c.in-Err.ensures.told w at.now c.requires.readiness)
    (λ k. c.in-Err.ensures.stored s w at.now c.requires.readiness (at.same k) o.kept (subst (λ q. IsKept s (respond q w).1) (sym c.command.ensures) next)) in
    ran_err s keeps (AsksSo asked w) _ c.in-Err.error _ _ _ ran (λ after good. cc)
