use Rattle.std.proofs.Common.{◌≡◌, List, ℕ, false, sym, ap, ◌∙◌, subst, refl, rules}
use Rattle.std.specs.Prelude.{None, Some, Ok, Err}
use Rattle.tpm_model.specs.IndexCommands.{nv_read, nv_read_public}
use Rattle.policy_session.specs.Answers.{is_answer, is_refusal}
use Rattle.policy_session.specs.IndexReads.{content_in, index_read, public_in}
use Rattle.policy_session.proofs.IndexLaws.{missing, not_read, read_both, read_so, unwritten}
use Rattle.policy_session.proofs.Runs.{live_as}
use Rattle.policy_session.proofs.index.read_index.Goals as goal

pub returns-in-Ok-Some-read_content-clause-ran : goal.returns-in-Ok-Some-read_content-clause-ran
returns-in-Ok-Some-read_content-clause-ran g c = λ s keeps at.
    let was : c.read_public.result ≡ Ok (Some c.in-Ok-Some.public) = search rules in
    let a = (c.read_public.ensures.ran s keeps at).answered (ap is_answer was) in
    let first = a.good.0 in
    let public : Some c.in-Ok-Some.public ≡ public_in (nv_read_public c.args.index s).0 = cc in
    let still = live_as keeps a.after s _ _ a.is a.good.1 in
    let got : c.read_content.result ≡ Ok (Some c.in-Ok-Some-read_content.content) = search rules in
    let b = (c.read_content.ensures.ran s keeps still).answered (ap is_answer got) in
    let second = b.good.0 in
    let content : Some c.in-Ok-Some-read_content.content ≡ content_in (nv_read c.args.index s).0 = cc in
    read_so s keeps (index_read c.args.index s) _ _ _ _ refl (sym (read_both c.args.index s c.in-Ok-Some.public c.in-Ok-Some-read_content.content public content))
    (live_as keeps b.after s _ _ b.is b.good.1) b.readiness

pub returns-in-Ok-None-read_content-clause-ran : goal.returns-in-Ok-None-read_content-clause-ran
returns-in-Ok-None-read_content-clause-ran g c = λ s keeps at.
    let was : c.read_public.result ≡ Ok (Some c.in-Ok-Some.public) = search rules in
    let a = (c.read_public.ensures.ran s keeps at).answered (ap is_answer was) in
    let first = a.good.0 in
    let public : Some c.in-Ok-Some.public ≡ public_in (nv_read_public c.args.index s).0 = cc in
    let still = live_as keeps a.after s _ _ a.is a.good.1 in
    let got : c.read_content.result ≡ Ok None = search rules in
    let b = (c.read_content.ensures.ran s keeps still).answered (ap is_answer got) in
    let second = b.good.0 in
    let content : None ≡ content_in (nv_read c.args.index s).0 = cc in
    read_so s keeps (index_read c.args.index s) _ _ _ _ refl (sym (unwritten c.args.index s c.in-Ok-Some.public public content))
    (live_as keeps b.after s _ _ b.is b.good.1) b.readiness

pub returns-in-Err-read_content-clause-ran : goal.returns-in-Err-read_content-clause-ran
returns-in-Err-read_content-clause-ran g c = λ s keeps at.
    let was : c.read_public.result ≡ Ok (Some c.in-Ok-Some.public) = search rules in
    let a = (c.read_public.ensures.ran s keeps at).answered (ap is_answer was) in
    let still = live_as keeps a.after s _ _ a.is a.good.1 in
    let got : c.read_content.result ≡ Err c.in-Err-read_content.error = search rules in
    not_read s keeps _ c.read_content.result c.in-Err-read_content.error c.failure.result (index_read c.args.index s) _ _ _ (c.read_content.ensures.ran s keeps still) got
    c.in-Err-read_content.ensures.outside c.failure.ensures.outside

pub returns-in-Ok-None-clause-ran : goal.returns-in-Ok-None-clause-ran
returns-in-Ok-None-clause-ran g c = λ s keeps at.
    let was : c.read_public.result ≡ Ok None = search rules in
    let a = (c.read_public.ensures.ran s keeps at).answered (ap is_answer was) in
    let first = a.good.0 in
    let public : None ≡ public_in (nv_read_public c.args.index s).0 = cc in
    read_so s keeps (index_read c.args.index s) _ _ _ _ refl (sym (missing c.args.index s public)) (live_as keeps a.after s _ _ a.is a.good.1) a.readiness

pub returns-in-Err-clause-ran : goal.returns-in-Err-clause-ran
returns-in-Err-clause-ran g c = λ s keeps at.
    let was : c.read_public.result ≡ Err c.in-Err.error = search rules in
    not_read s keeps _ c.read_public.result c.in-Err.error c.failure-in-Err.result (index_read c.args.index s) _ _ _ (c.read_public.ensures.ran s keeps at) was
    c.in-Err.ensures.outside c.failure-in-Err.ensures.outside
