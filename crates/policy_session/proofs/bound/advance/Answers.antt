use Rattle.std.proofs.Common.{◌≡◌, sym, ap, ◌∙◌, subst, refl}
use Rattle.std.specs.Prelude.{Ok, Err}
use Rattle.policy_walk.specs.Walking.{walk_command, walked_by}
use Rattle.tpm_model.specs.declared.response.Response.{Response}
use Rattle.tpm_model.specs.declared.parts.Parts.{Parts}
use Rattle.tpm_model.specs.Respond.{respond}
use Rattle.policy_session.specs.Kept.{IsKept}
use Rattle.policy_session.proofs.Runs.{AsksSo, ran_err, ran_of, ran_ok}
use Rattle.policy_session.proofs.bound.advance.Goals as goal

pub returns-in-Ok-clause-ran : goal.returns-in-Ok-clause-ran
returns-in-Ok-clause-ran g c = λ base s keeps at kept next.
    let command = walk_command c.args.started in
    let asked = ran_of command c.command.result base s keeps (Ok c.in-Ok.response) _ _ _ c.command.ensures (c.in-Ok.ensures.told s at.now c.requires)
    (λ k. c.in-Ok.ensures.stored base s at.now c.requires (at.same k) kept (subst (λ q. IsKept base (respond q s).1) (sym c.command.ensures) next)) in
    ran_ok base keeps (AsksSo command s) _ c.in-Ok.response c.take.result _ _ _ asked
    (λ after good.
    let same : c.in-Ok.response ≡ (respond command s).0 = cc in
    (ap Ok (c.take.ensures ∙ ap (walked_by c.args.started) same), good.1))

pub returns-in-Err-clause-ran : goal.returns-in-Err-clause-ran
returns-in-Err-clause-ran g c = λ base s keeps at kept next.
    let command = walk_command c.args.started in
    let asked = ran_of command c.command.result base s keeps (Err c.in-Err.error) _ _ _ c.command.ensures (c.in-Err.ensures.told s at.now c.requires)
    (λ k. c.in-Err.ensures.stored base s at.now c.requires (at.same k) kept (subst (λ q. IsKept base (respond q s).1) (sym c.command.ensures) next)) in
    ran_err base keeps (AsksSo command s) _ c.in-Err.error _ _ _ asked (λ after good. cc)
