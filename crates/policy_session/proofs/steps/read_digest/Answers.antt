use Rattle.std.proofs.Common.{◌≡◌, rules}
use Rattle.std.specs.Prelude.{Err, Ok}
use Rattle.tpm_model.specs.SessionCommands.{policy_get_digest}
use Rattle.policy_session.specs.OpenSession.{with_open}
use Rattle.policy_session.proofs.StepAnswers.{reads_digest}
use Rattle.policy_session.specs.Responses.{digest_read}
use Rattle.policy_session.proofs.Answered.{told_ok, told_err, kept_left, stores_ok, stores_err}
use Rattle.policy_session.proofs.steps.read_digest.Goals as goal

pub returns-in_err-response-clause-told : goal.returns-in_err-response-clause-told
returns-in_err-response-clause-told g c = λ s x h live ready.
    let now : c.from_residual.result ≡ Err c.in_err-response.field-0.0 = search rules in
    let was : c.ask.result ≡ Err c.in_err-response.field-0.0 = c.in_err-response.was in
    told_err (policy_get_digest c.args.session (with_open x s)).0 _ (policy_get_digest c.args.session (with_open x s)).1 _ c.ask.result c.from_residual.result c.in_err-response.field-0.0 _ _ was now (c.ask.ensures.told (with_open x s) live ready)

pub returns-in_err-response-clause-stored : goal.returns-in_err-response-clause-stored
returns-in_err-response-clause-stored g c = λ s x h live ready stored.
    let m = reads_digest c.args.session x s h in
    let now : c.from_residual.result ≡ Err c.in_err-response.field-0.0 = search rules in
    let was : c.ask.result ≡ Err c.in_err-response.field-0.0 = c.in_err-response.was in
    stores_err s (policy_get_digest c.args.session (with_open x s)) _ c.ask.result c.from_residual.result c.in_err-response.field-0.0 _ m.1 was now
    (c.ask.ensures.stored s (with_open x s) live ready stored (h.kept) (kept_left s (policy_get_digest c.args.session (with_open x s)) _ m.1 (h.kept)))

pub returns-clause-told : goal.returns-clause-told
returns-clause-told g c = λ s x h live ready.
    told_ok digest_read (policy_get_digest c.args.session (with_open x s)) _ _ c.in_ok-response.response c.session_digest.result _ _ (reads_digest c.args.session x s h) (c.in_ok-response.ensures.told (with_open x s) live ready) c.session_digest.ensures.value

pub returns-clause-stored : goal.returns-clause-stored
returns-clause-stored g c = λ s x h live ready stored.
    let m = reads_digest c.args.session x s h in
    let was : c.ask.result ≡ Ok c.in_ok-response.response = c.in_ok-response.was in
    stores_ok s (policy_get_digest c.args.session (with_open x s)) _ c.ask.result c.in_ok-response.response c.session_digest.result _ m.1 was
    (c.ask.ensures.stored s (with_open x s) live ready stored (h.kept) (kept_left s (policy_get_digest c.args.session (with_open x s)) _ m.1 (h.kept))) (h.kept)
