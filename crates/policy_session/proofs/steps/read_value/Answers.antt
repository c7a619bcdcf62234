use Rattle.std.proofs.Common.{◌≡◌, rules}
use Rattle.std.specs.Prelude.{Err, Ok}
use Rattle.tpm_model.specs.PcrCommands.{pcr_read}
use Rattle.policy_session.specs.OpenSession.{with_open}
use Rattle.policy_session.proofs.StepAnswers.{reads_value}
use Rattle.policy_session.specs.Responses.{value_read}
use Rattle.policy_session.proofs.Answered.{told_ok, told_err, kept_left, stores_ok, stores_err}
use Rattle.policy_session.proofs.steps.read_value.Goals as goal

pub returns-in_err-response-clause-told : goal.returns-in_err-response-clause-told
returns-in_err-response-clause-told g c = λ s x now e live ready.
    let now : c.from_residual.result ≡ Err c.in_err-response.field-0.0 = search rules in
    let was : c.ask.result ≡ Err c.in_err-response.field-0.0 = c.in_err-response.was in
    told_err (pcr_read c.args.literal.now.bank c.args.literal.now.pcr (with_open x s)).0 _ (pcr_read c.args.literal.now.bank c.args.literal.now.pcr (with_open x s)).1 _ c.ask.result c.from_residual.result c.in_err-response.field-0.0 _ _ was now (c.ask.ensures.told (with_open x s) live ready)

pub returns-in_err-response-clause-stored : goal.returns-in_err-response-clause-stored
returns-in_err-response-clause-stored g c = λ s x now e kept live ready stored.
    let m = reads_value c.args.literal.now.bank c.args.literal.now.pcr now x s c.requires.literal.pcr e in
    let now : c.from_residual.result ≡ Err c.in_err-response.field-0.0 = search rules in
    let was : c.ask.result ≡ Err c.in_err-response.field-0.0 = c.in_err-response.was in
    stores_err s (pcr_read c.args.literal.now.bank c.args.literal.now.pcr (with_open x s)) _ c.ask.result c.from_residual.result c.in_err-response.field-0.0 _ m.1 was now
    (c.ask.ensures.stored s (with_open x s) live ready stored (kept) (kept_left s (pcr_read c.args.literal.now.bank c.args.literal.now.pcr (with_open x s)) _ m.1 (kept)))

pub returns-clause-told : goal.returns-clause-told
returns-clause-told g c = λ s x now e live ready.
    told_ok value_read (pcr_read c.args.literal.now.bank c.args.literal.now.pcr (with_open x s)) _ _ c.in_ok-response.response c.pcr_value.result _ _ (reads_value c.args.literal.now.bank c.args.literal.now.pcr now x s c.requires.literal.pcr e) (c.in_ok-response.ensures.told (with_open x s) live ready) c.pcr_value.ensures.value

pub returns-clause-stored : goal.returns-clause-stored
returns-clause-stored g c = λ s x now e kept live ready stored.
    let m = reads_value c.args.literal.now.bank c.args.literal.now.pcr now x s c.requires.literal.pcr e in
    let was : c.ask.result ≡ Ok c.in_ok-response.response = c.in_ok-response.was in
    stores_ok s (pcr_read c.args.literal.now.bank c.args.literal.now.pcr (with_open x s)) _ c.ask.result c.in_ok-response.response c.pcr_value.result _ m.1 was
    (c.ask.ensures.stored s (with_open x s) live ready stored (kept) (kept_left s (pcr_read c.args.literal.now.bank c.args.literal.now.pcr (with_open x s)) _ m.1 (kept))) (kept)
