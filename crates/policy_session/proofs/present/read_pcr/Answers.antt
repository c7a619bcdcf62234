use Rattle.std.proofs.Common.{◌≡◌, ℕ, List, sym, ap, ◌∙◌, subst, refl}
use Rattle.std.specs.Prelude.{Ok, Err}
use Rattle.tpm_model.specs.declared.command.Command.TheVariants as command
use Rattle.tpm_model.specs.declared.parts.Parts.{Parts}
use Rattle.tpm_model.specs.Respond.{respond}
use Rattle.policy_session.specs.Kept.{IsKept}
use Rattle.policy_session.specs.OpenSession.{with_open}
use Rattle.policy_session.specs.Responses.{value_read}
use Rattle.policy_session.specs.Ran.{Gives}
use Rattle.policy_session.proofs.Runs.{AsksSo, ran_err, ran_of, ran_view}
use Rattle.policy_session.proofs.StepAnswers.{reads_value}
use Rattle.policy_session.proofs.present.read_pcr.Goals as goal

pub returns-in-Ok-clause-ran : goal.returns-in-Ok-clause-ran
returns-in-Ok-clause-ran g c = λ s x session keeps now at o found.
    let asked = command.PcrRead c.args.bank c.args.pcr in
    let m = reads_value c.args.bank c.args.pcr now x s c.requires.pcr found in
    let next : IsKept s (respond asked (with_open x s)).1 = subst (IsKept s) (sym m.1) o.kept in
    let ran = ran_of asked asked s (with_open x s) keeps (Ok c.in-Ok.response) _ _ _ refl (c.in-Ok.ensures.told (with_open x s) at.now c.requires.readiness)
    (λ k. c.in-Ok.ensures.stored s (with_open x s) at.now c.requires.readiness (at.same k) o.kept next) in
    ran_view s keeps (AsksSo asked (with_open x s)) c.in-Ok.response (Ok now) c.pcr_value.result (with_open x s) _ _ _ ran
    (λ after good.
    let same : c.in-Ok.response ≡ (respond asked (with_open x s)).0 = cc in
    (c.pcr_value.ensures.value ∙ ap value_read same ∙ m.0, good.1 ∙ m.1))
    refl

pub returns-in-Err-clause-ran : goal.returns-in-Err-clause-ran
returns-in-Err-clause-ran g c = λ s x session keeps now at o found.
    let asked = command.PcrRead c.args.bank c.args.pcr in
    let m = reads_value c.args.bank c.args.pcr now x s c.requires.pcr found in
    let next : IsKept s (respond asked (with_open x s)).1 = subst (IsKept s) (sym m.1) o.kept in
    let ran = ran_of asked asked s (with_open x s) keeps (Err c.in-Err.error) _ _ _ refl (c.in-Err.ensures.told (with_open x s) at.now c.requires.readiness)
    (λ k. c.in-Err.ensures.stored s (with_open x s) at.now c.requires.readiness (at.same k) o.kept next) in
    ran_err s keeps (AsksSo asked (with_open x s)) _ c.in-Err.error _ _ _ ran (λ after good. cc)
