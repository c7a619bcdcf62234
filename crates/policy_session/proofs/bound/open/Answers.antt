use Rattle.std.proofs.Common.{◌≡◌, sym, ap, ◌∙◌, subst, refl, rules}
use Rattle.std.specs.Prelude.{Ok, Err}
use Rattle.policy_walk.specs.Places.{Past}
use Rattle.tpm_model.specs.Sessions.{object_at}
use Rattle.policy_session.specs.Answers.{is_answer}
use Rattle.policy_session.specs.LiteralUnseal.{opened_by}
use Rattle.policy_session.specs.OpenSession.{IsOpen, closed, with_open}
use Rattle.policy_session.specs.Ran.{Gives, Ran}
use Rattle.policy_session.specs.Standing.{IsAuthorised}
use Rattle.policy_session.proofs.Runs.{live_as, ran_err, ran_same}
use Rattle.policy_session.proofs.bound.open.Goals as goal

pub returns-in-Ok-Ok-clause-ran : goal.returns-in-Ok-Ok-clause-ran
returns-in-Ok-Ok-clause-ran g c = λ s x keeps public written at stands found content.
    let b = c.args.branched in
    let ran = c.authorise.ensures.ran s x keeps public written at stands found content in
    let was : c.authorise.result ≡ Ok (Ok c.in-Ok-Ok.authorised) = search rules in
    let a = ran.answered (ap is_answer was) in
    let y = a.good.x in
    let is = a.good.is in
    let same : c.in-Ok-Ok.authorised ≡ b = cc in
    let opened : IsOpen c.in-Ok-Ok.authorised.session y s = subst (λ (p : Past). IsOpen p.session y s) (sym same) a.good.opened in
    let still = live_as keeps a.after (with_open y s) _ _ a.is a.good.left in
    ran_same s (closed s) keeps _ _ c.finish.result _ _ _ (c.finish.ensures.ran s y keeps still opened a.good.noted)
    (ap (λ d. opened_by d c.args.object (object_at c.args.object s.objects)) a.good.digest)

pub returns-in-Ok-Err-clause-ran : goal.returns-in-Ok-Err-clause-ran
returns-in-Ok-Err-clause-ran g c = λ s x keeps public written at stands found content.
    let ran = c.authorise.ensures.ran s x keeps public written at stands found content in
    let was : c.authorise.result ≡ Ok (Err c.in-Ok-Err.stopped) = search rules in
    let a = ran.answered (ap is_answer was) in
    let is = a.good.is in
    absurd (cc (was, is))

pub returns-in-Err-clause-ran : goal.returns-in-Err-clause-ran
returns-in-Err-clause-ran g c = λ s x keeps public written at stands found content.
    let ran = c.authorise.ensures.ran s x keeps public written at stands found content in
    let was : c.authorise.result ≡ Err c.in-Err.error = search rules in
    ran_err s keeps (IsAuthorised c.args.branched public s) _ c.in-Err.error _ _ _ (subst (λ r. Ran s keeps (IsAuthorised c.args.branched public s) r (g.T.Tpm.ready c.authorise.new.tpm) (g.T.Tpm.live c.authorise.new.tpm) (g.T.Tpm.stored c.authorise.new.tpm)) was ran)
    (λ after good. let is = good.is in absurd (cc is))
