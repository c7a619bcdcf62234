use Rattle.std.proofs.Common.{◌≡◌, rules}
use Rattle.std.specs.Prelude.{Err, Ok}
use Rattle.tpm_model.specs.ObjectCommands.{unseal}
use Rattle.policy_session.specs.OpenSession.{with_open}
use Rattle.policy_session.proofs.StepAnswers.{unseals}
use Rattle.policy_session.specs.Responses.{unsealed}
use Rattle.policy_session.proofs.Answered.{told_ok, told_err, kept_left, stores_ok, stores_err}
use Rattle.policy_session.proofs.steps.unseal.Goals as goal

pub returns-in_err-response-clause-told : goal.returns-in_err-response-clause-told
returns-in_err-response-clause-told g c = λ s x h noted live ready.
    let now : c.from_residual.result ≡ Err c.in_err-response.field-0.0 = search rules in
    let was : c.ask.result ≡ Err c.in_err-response.field-0.0 = c.in_err-response.was in
    told_err (unseal c.args.session c.args.object (with_open x s)).0 _ (unseal c.args.session c.args.object (with_open x s)).1 _ c.ask.result c.from_residual.result c.in_err-response.field-0.0 _ _ was now (c.ask.ensures.told (with_open x s) live ready)

pub returns-in_err-response-clause-stored : goal.returns-in_err-response-clause-stored
returns-in_err-response-clause-stored g c = λ s x h noted live ready stored.
    let m = unseals c.args.session c.args.object x s h noted in
    let now : c.from_residual.result ≡ Err c.in_err-response.field-0.0 = search rules in
    let was : c.ask.result ≡ Err c.in_err-response.field-0.0 = c.in_err-response.was in
    stores_err s (unseal c.args.session c.args.object (with_open x s)) _ c.ask.result c.from_residual.result c.in_err-response.field-0.0 _ m.1 was now
    (c.ask.ensures.stored s (with_open x s) live ready stored (h.kept) (kept_left s (unseal c.args.session c.args.object (with_open x s)) _ m.1 (h.kept)))

pub returns-clause-told : goal.returns-clause-told
returns-clause-told g c = λ s x h noted live ready.
    told_ok (unsealed c.args.object) (unseal c.args.session c.args.object (with_open x s)) _ _ c.in_ok-response.response c.unsealed.result _ _ (unseals c.args.session c.args.object x s h noted) (c.in_ok-response.ensures.told (with_open x s) live ready) c.unsealed.ensures.value

pub returns-clause-stored : goal.returns-clause-stored
returns-clause-stored g c = λ s x h noted live ready stored.
    let m = unseals c.args.session c.args.object x s h noted in
    let was : c.ask.result ≡ Ok c.in_ok-response.response = c.in_ok-response.was in
    stores_ok s (unseal c.args.session c.args.object (with_open x s)) _ c.ask.result c.in_ok-response.response c.unsealed.result _ m.1 was
    (c.ask.ensures.stored s (with_open x s) live ready stored (h.kept) (kept_left s (unseal c.args.session c.args.object (with_open x s)) _ m.1 (h.kept))) (h.kept)
