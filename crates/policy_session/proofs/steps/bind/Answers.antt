use Rattle.std.proofs.Common.{◌≡◌, rules}
use Rattle.std.specs.Prelude.{Err, Ok}
use Rattle.tpm_model.specs.SessionCommands.{policy_pcr}
use Rattle.policy_session.specs.OpenSession.{with_open, fresh_in}
use Rattle.policy_session.proofs.StepAnswers.{binds_mask}
use Rattle.policy_session.proofs.KeptStates.{kept_bind}
use Rattle.policy_session.specs.Responses.{bound}
use Rattle.policy_session.proofs.Answered.{told_ok, told_err, kept_left, stores_ok, stores_err}
use Rattle.policy_session.proofs.steps.bind.Goals as goal

pub returns-in_err-response-clause-told : goal.returns-in_err-response-clause-told
returns-in_err-response-clause-told g c = λ s h live ready.
    let now : c.from_residual.result ≡ Err c.in_err-response.field-0.0 = search rules in
    let was : c.ask.result ≡ Err c.in_err-response.field-0.0 = c.in_err-response.was in
    told_err (policy_pcr c.args.session c.args.literal.now.bank c.mask_of_pcr-pcrs.result (with_open (fresh_in c.args.literal.now.hash s) s)).0 _ (policy_pcr c.args.session c.args.literal.now.bank c.mask_of_pcr-pcrs.result (with_open (fresh_in c.args.literal.now.hash s) s)).1 _ c.ask.result c.from_residual.result c.in_err-response.field-0.0 _ _ was now (c.ask.ensures.told (with_open (fresh_in c.args.literal.now.hash s) s) live ready)

pub returns-in_err-response-clause-stored : goal.returns-in_err-response-clause-stored
returns-in_err-response-clause-stored g c = λ s h live ready stored.
    let m = binds_mask c.args.session c.args.literal.now c.mask_of_pcr-pcrs.result s h c.requires.literal c.mask_of_pcr-pcrs.ensures.value in
    let now : c.from_residual.result ≡ Err c.in_err-response.field-0.0 = search rules in
    let was : c.ask.result ≡ Err c.in_err-response.field-0.0 = c.in_err-response.was in
    stores_err s (policy_pcr c.args.session c.args.literal.now.bank c.mask_of_pcr-pcrs.result (with_open (fresh_in c.args.literal.now.hash s) s)) _ c.ask.result c.from_residual.result c.in_err-response.field-0.0 _ m.1 was now
    (c.ask.ensures.stored s (with_open (fresh_in c.args.literal.now.hash s) s) live ready stored (h.kept) (kept_left s (policy_pcr c.args.session c.args.literal.now.bank c.mask_of_pcr-pcrs.result (with_open (fresh_in c.args.literal.now.hash s) s)) _ m.1 (kept_bind c.args.session c.args.literal.now s h c.requires.literal)))

pub returns-clause-told : goal.returns-clause-told
returns-clause-told g c = λ s h live ready.
    told_ok bound (policy_pcr c.args.session c.args.literal.now.bank c.mask_of_pcr-pcrs.result (with_open (fresh_in c.args.literal.now.hash s) s)) _ _ c.in_ok-response.response c.bound.result _ _ (binds_mask c.args.session c.args.literal.now c.mask_of_pcr-pcrs.result s h c.requires.literal c.mask_of_pcr-pcrs.ensures.value) (c.in_ok-response.ensures.told (with_open (fresh_in c.args.literal.now.hash s) s) live ready) c.bound.ensures.value

pub returns-clause-stored : goal.returns-clause-stored
returns-clause-stored g c = λ s h live ready stored.
    let m = binds_mask c.args.session c.args.literal.now c.mask_of_pcr-pcrs.result s h c.requires.literal c.mask_of_pcr-pcrs.ensures.value in
    let was : c.ask.result ≡ Ok c.in_ok-response.response = c.in_ok-response.was in
    stores_ok s (policy_pcr c.args.session c.args.literal.now.bank c.mask_of_pcr-pcrs.result (with_open (fresh_in c.args.literal.now.hash s) s)) _ c.ask.result c.in_ok-response.response c.bound.result _ m.1 was
    (c.ask.ensures.stored s (with_open (fresh_in c.args.literal.now.hash s) s) live ready stored (h.kept) (kept_left s (policy_pcr c.args.session c.args.literal.now.bank c.mask_of_pcr-pcrs.result (with_open (fresh_in c.args.literal.now.hash s) s)) _ m.1 (kept_bind c.args.session c.args.literal.now s h c.requires.literal))) (kept_bind c.args.session c.args.literal.now s h c.requires.literal)
