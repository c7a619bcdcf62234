use Rattle.std.proofs.Common.{◌≡◌, ◌<◌, length, sym, ap, ◌∙◌, subst, refl, arith}
use Rattle.std.specs.Prelude.{Ok, Err}
use Rattle.hash_bank.specs.declared.bank.Bank.TheVariants.{Sha256}
use Rattle.nv_index.specs.IndexName.{index_name_of}
use Rattle.policy_digest.specs.Policies.{policy_authorize_nv_of}
use Rattle.policy_walk.specs.Walking.{authorised_by}
use Rattle.tpm_model.specs.declared.command.Command.TheVariants as command
use Rattle.tpm_model.specs.declared.response.Response.{Response}
use Rattle.tpm_model.specs.declared.response.Response.TheVariants as answer
use Rattle.tpm_model.specs.declared.parts.Parts.{Parts}
use Rattle.tpm_model.specs.Respond.{respond}
use Rattle.policy_session.specs.Kept.{IsKept}
use Rattle.policy_session.specs.OpenSession.{with_open}
use Rattle.policy_session.specs.Standing.{IsAuthorised}
use Rattle.policy_session.proofs.OpenSteps.{authorised, authorised_open, authorises}
use Rattle.policy_session.specs.Ran.{Gives}
use Rattle.policy_session.proofs.Runs.{answers_with, ran_err, ran_known, ran_ok}
use Rattle.policy_session.proofs.bound.authorise.Goals as goal

pub returns-in-Ok-clause-ran : goal.returns-in-Ok-clause-ran
returns-in-Ok-clause-ran g c = λ s x keeps public written at stands held content.
    let b = c.args.branched in
    let asked = command.PolicyAuthorizeNv b.session b.index in
    let o = stands.walking.opened in
    let room : length x.trail < 128 = omega (arith, stands.short) in
    let e = authorises b.session x s o b.index public written stands.walking.hash held content room in
    let y = authorised public written x in
    let opened = authorised_open b.session x s o b.index public written stands.walking.hash e in
    let kept : IsKept s (respond asked (with_open x s)).1 = subst (IsKept s) (sym (ap (λ (r : Response × Parts). r.1) e)) opened.kept in
    let known = ran_known asked c.command.result answer.Done (with_open y s) s (with_open x s) keeps (Ok c.in-Ok.response) _ _ _ c.command.ensures e
    (c.in-Ok.ensures.told (with_open x s) at.now c.requires)
    (λ k. c.in-Ok.ensures.stored s (with_open x s) at.now c.requires (at.same k) o.kept (subst (λ q. IsKept s (respond q (with_open x s)).1) (sym c.command.ensures) kept)) in
    ran_ok s keeps (Gives (answers_with answer.Done) (with_open y s)) (IsAuthorised b public s) c.in-Ok.response c.take.result _ _ _ known
    (λ after good.
    let same : c.in-Ok.response ≡ answer.Done = cc in
    record {
      is = ap Ok (c.take.ensures ∙ ap (authorised_by b) same);
      x = y;
      left = good.1;
      opened = opened;
      digest = ap (λ h. policy_authorize_nv_of h (index_name_of public)) stands.walking.hash;
      noted = stands.looked.noted;
    })

pub returns-in-Err-clause-ran : goal.returns-in-Err-clause-ran
returns-in-Err-clause-ran g c = λ s x keeps public written at stands held content.
    let b = c.args.branched in
    let asked = command.PolicyAuthorizeNv b.session b.index in
    let o = stands.walking.opened in
    let room : length x.trail < 128 = omega (arith, stands.short) in
    let e = authorises b.session x s o b.index public written stands.walking.hash held content room in
    let y = authorised public written x in
    let opened = authorised_open b.session x s o b.index public written stands.walking.hash e in
    let kept : IsKept s (respond asked (with_open x s)).1 = subst (IsKept s) (sym (ap (λ (r : Response × Parts). r.1) e)) opened.kept in
    let known = ran_known asked c.command.result answer.Done (with_open y s) s (with_open x s) keeps (Err c.in-Err.error) _ _ _ c.command.ensures e
    (c.in-Err.ensures.told (with_open x s) at.now c.requires)
    (λ k. c.in-Err.ensures.stored s (with_open x s) at.now c.requires (at.same k) o.kept (subst (λ q. IsKept s (respond q (with_open x s)).1) (sym c.command.ensures) kept)) in
    ran_err s keeps (Gives (answers_with answer.Done) (with_open y s)) (IsAuthorised b public s) c.in-Err.error _ _ _ known (λ after good. cc)
