use Rattle.std.proofs.Common.{◌≡◌, true, sym, ap, ◌∙◌, subst, refl, rules}
use Rattle.std.specs.Prelude.{IfSome, Some, Ok, Err}
use Rattle.hash_bank.specs.Banks.{has_bank}
use Rattle.policy_session.specs.declared.error.UnsealError.TheVariants as error
use Rattle.policy_session.specs.BoundUnseal.{present_values, shown, stopped_with, unmet_in}
use Rattle.policy_session.specs.OpenSession.{closed, with_open}
use Rattle.policy_session.specs.Ran.{Gives}
use Rattle.policy_session.proofs.Runs.{live_as, ran_err, ran_same}
use Rattle.policy_session.proofs.bound.refuse.Goals as goal

pub returns-in-Ok-clause-ran : goal.returns-in-Ok-clause-ran
returns-in-Ok-clause-ran g c = λ s x keeps at o met.
    let reason = c.args.stopped.why in
    let unmet : unmet_in reason ≡ Some c.in-Some.pcrs = search rules in
    let present : has_bank s.banks c.args.bank ≡ true = subst (λ u. IfSome u (λ _. has_bank s.banks c.args.bank ≡ true)) unmet met in
    let a = (c.in-Ok.ensures.ran s x c.args.stopped.session keeps at o present).answered refl in
    let same : c.in-Ok.now ≡ shown (present_values c.args.bank s c.in-Some.pcrs) = cc in
    let still = live_as keeps a.after (with_open x s) _ _ a.is a.good.1 in
    ran_same s (closed s) keeps _ _ c.close.result _ _ _ (c.close.ensures.ran s x keeps still o)
    (ap (λ n. Err (error.NotForeseen c.in-Some.pcrs n)) same ∙ sym (ap (λ u. Err (stopped_with c.args.bank s reason u)) unmet))

pub returns-in-Err-clause-ran : goal.returns-in-Err-clause-ran
returns-in-Err-clause-ran g c = λ s x keeps at o met.
    let reason = c.args.stopped.why in
    let unmet : unmet_in reason ≡ Some c.in-Some.pcrs = search rules in
    let present : has_bank s.banks c.args.bank ≡ true = subst (λ u. IfSome u (λ _. has_bank s.banks c.args.bank ≡ true)) unmet met in
    ran_err s keeps _ _ c.in-Err.error _ _ _ (c.in-Err.ensures.ran s x c.args.stopped.session keeps at o present) (λ after good. cc)
