use Rattle.std.proofs.Common.{◌≡◌, rules}
use Rattle.std.specs.Prelude.{Err, Ok}
use Rattle.tpm_model.specs.SessionCommands.{flush_session}
use Rattle.policy_session.specs.OpenSession.{with_open}
use Rattle.policy_session.proofs.StepAnswers.{flushes}
use Rattle.policy_session.proofs.KeptStates.{kept_closed}
use Rattle.policy_session.specs.Responses.{ended}
use Rattle.policy_session.proofs.Answered.{told_ok, told_err, kept_left, stores_ok, stores_err}
use Rattle.policy_session.proofs.steps.flush.Goals as goal

pub returns-in_err-response-clause-told : goal.returns-in_err-response-clause-told
returns-in_err-response-clause-told g c = λ s x h live ready.
    let now : c.from_residual.result ≡ Err c.in_err-response.field-0.0 = search rules in
    let was : c.ask.result ≡ Err c.in_err-response.field-0.0 = c.in_err-response.was in
    told_err (flush_session c.args.session (with_open x s)).0 _ (flush_session c.args.session (with_open x s)).1 _ c.ask.result c.from_residual.result c.in_err-response.field-0.0 _ _ was now (c.ask.ensures.told (with_open x s) live ready)

pub returns-in_err-response-clause-stored : goal.returns-in_err-response-clause-stored
returns-in_err-response-clause-stored g c = λ s x h live ready stored.
    let m = flushes c.args.session x s h in
    let now : c.from_residual.result ≡ Err c.in_err-response.field-0.0 = search rules in
    let was : c.ask.result ≡ Err c.in_err-response.field-0.0 = c.in_err-response.was in
    stores_err s (flush_session c.args.session (with_open x s)) _ c.ask.result c.from_residual.result c.in_err-response.field-0.0 _ m.1 was now
    (c.ask.ensures.stored s (with_open x s) live ready stored (h.kept) (kept_left s (flush_session c.args.session (with_open x s)) _ m.1 (kept_closed c.args.session x s h)))

pub returns-clause-told : goal.returns-clause-told
returns-clause-told g c = λ s x h live ready.
    told_ok ended (flush_session c.args.session (with_open x s)) _ _ c.in_ok-response.response c.ended.result _ _ (flushes c.args.session x s h) (c.in_ok-response.ensures.told (with_open x s) live ready) c.ended.ensures.value

pub returns-clause-stored : goal.returns-clause-stored
returns-clause-stored g c = λ s x h live ready stored.
    let m = flushes c.args.session x s h in
    let was : c.ask.result ≡ Ok c.in_ok-response.response = c.in_ok-response.was in
    stores_ok s (flush_session c.args.session (with_open x s)) _ c.ask.result c.in_ok-response.response c.ended.result _ m.1 was
    (c.ask.ensures.stored s (with_open x s) live ready stored (h.kept) (kept_left s (flush_session c.args.session (with_open x s)) _ m.1 (kept_closed c.args.session x s h))) (kept_closed c.args.session x s h)
