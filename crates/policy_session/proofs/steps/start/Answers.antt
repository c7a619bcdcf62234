use Rattle.std.proofs.Common.{◌≡◌, rules}
use Rattle.std.specs.Prelude.{Err, Ok}
use Rattle.tpm_model.specs.SessionCommands.{start_session}
use Rattle.policy_session.proofs.StepAnswers.{starts}
use Rattle.policy_session.proofs.KeptStates.{kept_self, kept_start}
use Rattle.policy_session.specs.Responses.{started}
use Rattle.policy_session.proofs.Answered.{told_ok, told_err, kept_left, stores_ok, stores_err}
use Rattle.policy_session.proofs.steps.start.Goals as goal

pub returns-in_err-response-clause-told : goal.returns-in_err-response-clause-told
returns-in_err-response-clause-told g c = λ s live ready.
    let now : c.from_residual.result ≡ Err c.in_err-response.field-0.0 = search rules in
    let was : c.ask.result ≡ Err c.in_err-response.field-0.0 = c.in_err-response.was in
    told_err (start_session c.args.hash s).0 _ (start_session c.args.hash s).1 _ c.ask.result c.from_residual.result c.in_err-response.field-0.0 _ _ was now (c.ask.ensures.told s live ready)

pub returns-in_err-response-clause-stored : goal.returns-in_err-response-clause-stored
returns-in_err-response-clause-stored g c = λ s live ready stored.
    let h = c.ask.ensures.rules s live in
    let m = starts c.args.hash s c.requires.hash in
    let now : c.from_residual.result ≡ Err c.in_err-response.field-0.0 = search rules in
    let was : c.ask.result ≡ Err c.in_err-response.field-0.0 = c.in_err-response.was in
    stores_err s (start_session c.args.hash s) _ c.ask.result c.from_residual.result c.in_err-response.field-0.0 _ m.1 was now
    (c.ask.ensures.stored s s live ready stored (kept_self s h) (kept_left s (start_session c.args.hash s) _ m.1 (kept_start c.args.hash s c.requires.hash h)))

pub returns-clause-told : goal.returns-clause-told
returns-clause-told g c = λ s live ready.
    told_ok started (start_session c.args.hash s) _ _ c.in_ok-response.response c.started.result _ _ (starts c.args.hash s c.requires.hash) (c.in_ok-response.ensures.told s live ready) c.started.ensures.value

pub returns-clause-stored : goal.returns-clause-stored
returns-clause-stored g c = λ s live ready stored.
    let h = c.ask.ensures.rules s live in
    let m = starts c.args.hash s c.requires.hash in
    let was : c.ask.result ≡ Ok c.in_ok-response.response = c.in_ok-response.was in
    stores_ok s (start_session c.args.hash s) _ c.ask.result c.in_ok-response.response c.started.result _ m.1 was
    (c.ask.ensures.stored s s live ready stored (kept_self s h) (kept_left s (start_session c.args.hash s) _ m.1 (kept_start c.args.hash s c.requires.hash h))) (kept_start c.args.hash s c.requires.hash h)
