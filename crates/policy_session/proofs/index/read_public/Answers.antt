use Rattle.std.proofs.Common.{◌≡◌, sym, ap, ◌∙◌, subst, refl}
use Rattle.std.specs.Prelude.{Ok, Err}
use Rattle.tpm_model.specs.declared.command.Command.TheVariants as command
use Rattle.tpm_model.specs.declared.parts.Parts.{Parts}
use Rattle.tpm_model.specs.IndexCommands.{nv_read_public}
use Rattle.tpm_model.specs.Respond.{respond}
use Rattle.policy_session.specs.IndexReads.{public_in}
use Rattle.policy_session.specs.Kept.{IsKept}
use Rattle.policy_session.specs.Ran.{Gives}
use Rattle.policy_session.proofs.IndexLaws.{leaves_public}
use Rattle.policy_session.proofs.KeptStates.{kept_self}
use Rattle.policy_session.proofs.Runs.{AsksSo, ran_err, ran_of, ran_ok}
use Rattle.policy_session.proofs.index.read_public.Goals as goal

pub returns-in-Ok-clause-ran : goal.returns-in-Ok-clause-ran
returns-in-Ok-clause-ran g c = λ s keeps at.
    let asked = command.NvReadPublic c.args.index in
    let same = leaves_public c.args.index s in
    let next : IsKept s (respond asked s).1 = subst (IsKept s) (sym same) (kept_self s (c.in-Ok.ensures.rules s at.now)) in
    let ran = ran_of asked asked s s keeps (Ok c.in-Ok.response) _ _ _ refl (c.in-Ok.ensures.told s at.now c.requires)
    (λ k. c.in-Ok.ensures.stored s s at.now c.requires (at.same k) (kept_self s (c.in-Ok.ensures.rules s at.now)) next) in
    ran_ok s keeps (AsksSo asked s) (Gives (Ok (public_in (nv_read_public c.args.index s).0)) s) c.in-Ok.response c.public_in.result _ _ _ ran
    (λ after good.
    let is : c.in-Ok.response ≡ (respond asked s).0 = cc in
    (ap Ok (c.public_in.ensures ∙ ap public_in is), good.1 ∙ same))

pub returns-in-Err-clause-ran : goal.returns-in-Err-clause-ran
returns-in-Err-clause-ran g c = λ s keeps at.
    let asked = command.NvReadPublic c.args.index in
    let same = leaves_public c.args.index s in
    let next : IsKept s (respond asked s).1 = subst (IsKept s) (sym same) (kept_self s (c.in-Err.ensures.rules s at.now)) in
    let ran = ran_of asked asked s s keeps (Err c.in-Err.error) _ _ _ refl (c.in-Err.ensures.told s at.now c.requires)
    (λ k. c.in-Err.ensures.stored s s at.now c.requires (at.same k) (kept_self s (c.in-Err.ensures.rules s at.now)) next) in
    ran_err s keeps (AsksSo asked s) (Gives (Ok (public_in (nv_read_public c.args.index s).0)) s) c.in-Err.error _ _ _ ran (λ after good. cc)
