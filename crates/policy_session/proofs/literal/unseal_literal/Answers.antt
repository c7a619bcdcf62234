use Rattle.std.proofs.Common.{◌≡◌, rules, ap, sym, ◌∙◌, refl, true, false}
use Rattle.std.specs.Prelude.{Err, Ok, Some}
use Rattle.tpm_device.specs.Stored.{Holds}
use Rattle.tpm_model.specs.Pcrs.{pcr_of}
use Rattle.policy_session.specs.LiteralUnseal.{after_unseal}
use Rattle.policy_session.specs.Answers.{is_answer}
use Rattle.policy_session.specs.OpenSession.{start_leaves, with_open, closed, bind_leaves}
use Rattle.policy_session.proofs.KeptStates.{starting, not_starting, after_kept, open_bound}
use Rattle.policy_session.proofs.Walks.{same_refusal, stores_then, stores_passed}
use Rattle.policy_session.proofs.literal.unseal_literal.Goals as goal

pub returns-in_err-session-clause-told : goal.returns-in_err-session-clause-told
returns-in_err-session-clause-told g c = λ s live is.
    let h = c.start.ensures.rules s live in
    let l = c.args.literal.now in
    let now_is : c.from_residual.result ≡ Err c.in_err-session.field-0.0 = search rules in
    let was : c.start.result ≡ Err c.in_err-session.field-0.0 = c.in_err-session.was in
    let told = c.start.ensures.told s live c.requires.readiness (sym (same_refusal c.start.result c.from_residual.result c.in_err-session.field-0.0 was now_is) ∙ is) in
    let n = not_starting l.hash l c.args.object c.in_err-session.field-0.0 s (sym was ∙ told.0) in
    (now_is ∙ sym n.answer, told.1 ∙ ap Some (n.leaves ∙ sym n.after), told.2)

pub returns-in_err-session-clause-stored : goal.returns-in_err-session-clause-stored
returns-in_err-session-clause-stored g c = λ s live stored.
    let h = c.start.ensures.rules s live in
    let l = c.args.literal.now in
    let now_is : c.from_residual.result ≡ Err c.in_err-session.field-0.0 = search rules in
    let was : c.start.result ≡ Err c.in_err-session.field-0.0 = c.in_err-session.was in
    stores_then s (start_leaves l.hash s) (after_unseal s) c.start.result c.from_residual.result _ (same_refusal c.start.result c.from_residual.result c.in_err-session.field-0.0 was now_is)
    (λ is.
    let told = c.start.ensures.told s live c.requires.readiness is in
    let n = not_starting l.hash l c.args.object c.in_err-session.field-0.0 s (sym was ∙ told.0) in
    n.leaves ∙ sym n.after)
    (c.start.ensures.stored s live c.requires.readiness stored)

pub returns-then-not-is_answer-clause-stored : goal.returns-then-not-is_answer-clause-stored
returns-then-not-is_answer-clause-stored g c = λ s live stored.
    let h = c.start.ensures.rules s live in
    let l = c.args.literal.now in
    let o = pcr_of s.banks s.pcrs l.bank l.pcr in
    let began = c.in_ok-session.ensures.told s live c.requires.readiness refl in
    let st = starting c.in_ok-session.session l c.args.object s h c.requires.literal began.0 in
    let live1 = began.1 ∙ ap Some st.leaves in
    let stored1 = (c.in_ok-session.ensures.stored s live c.requires.readiness stored).answered refl ∙ ap (λ p. Some (Holds p)) st.leaves in
    let walked = c.walk-opened.ensures.stored s st.session live1 began.2 stored1 in
    let none : is_answer c.walk-opened.result ≡ false = sym c.is_answer.ensures ∙ c.if-not-is_answer.true in
    stores_then s (with_open (bind_leaves l o s) s) (after_unseal s) c.walk-opened.result c.walk-opened.result _ refl (λ is. cc) walked

pub returns-in_err-flush-clause-told : goal.returns-in_err-flush-clause-told
returns-in_err-flush-clause-told g c = λ s live is.
    let h = c.start.ensures.rules s live in
    let l = c.args.literal.now in
    let o = pcr_of s.banks s.pcrs l.bank l.pcr in
    let began = c.in_ok-session.ensures.told s live c.requires.readiness refl in
    let st = starting c.in_ok-session.session l c.args.object s h c.requires.literal began.0 in
    let live1 = began.1 ∙ ap Some st.leaves in
    let is_one : is_answer c.walk-opened.result ≡ true = sym c.is_answer.ensures ∙ c.if-not-is_answer.false in
    let went = c.walk-opened.ensures.told s st.session live1 began.2 is_one in
    let open1 = open_bound c.in_ok-session.session l s st.session c.requires.literal in
    let now_is : c.from_residual-in_err-flush.result ≡ Err c.in_err-flush.field-0.0 = search rules in
    let was : c.flush.result ≡ Err c.in_err-flush.field-0.0 = c.in_err-flush.was in
    let same = same_refusal c.flush.result c.from_residual-in_err-flush.result c.in_err-flush.field-0.0 was now_is in
    let told = c.flush.ensures.told s (bind_leaves l o s) open1 went.1 went.2 (sym same ∙ is) in
    let ended = told.0 in
    absurd (cc (was, ended))

pub returns-in_err-flush-clause-stored : goal.returns-in_err-flush-clause-stored
returns-in_err-flush-clause-stored g c = λ s live stored.
    let h = c.start.ensures.rules s live in
    let l = c.args.literal.now in
    let o = pcr_of s.banks s.pcrs l.bank l.pcr in
    let began = c.in_ok-session.ensures.told s live c.requires.readiness refl in
    let st = starting c.in_ok-session.session l c.args.object s h c.requires.literal began.0 in
    let live1 = began.1 ∙ ap Some st.leaves in
    let stored1 = (c.in_ok-session.ensures.stored s live c.requires.readiness stored).answered refl ∙ ap (λ p. Some (Holds p)) st.leaves in
    let walked = c.walk-opened.ensures.stored s st.session live1 began.2 stored1 in
    let is_one : is_answer c.walk-opened.result ≡ true = sym c.is_answer.ensures ∙ c.if-not-is_answer.false in
    let went = c.walk-opened.ensures.told s st.session live1 began.2 is_one in
    let open1 = open_bound c.in_ok-session.session l s st.session c.requires.literal in
    let now_is : c.from_residual-in_err-flush.result ≡ Err c.in_err-flush.field-0.0 = search rules in
    let was : c.flush.result ≡ Err c.in_err-flush.field-0.0 = c.in_err-flush.was in
    let same = same_refusal c.flush.result c.from_residual-in_err-flush.result c.in_err-flush.field-0.0 was now_is in
    stores_then s (closed s) (after_unseal s) c.flush.result c.from_residual-in_err-flush.result _ same (λ _. sym st.after)
    (c.flush.ensures.stored s (bind_leaves l o s) open1 went.1 went.2 (walked.answered is_one))

pub returns-clause-told : goal.returns-clause-told
returns-clause-told g c = λ s live is.
    let h = c.start.ensures.rules s live in
    let l = c.args.literal.now in
    let o = pcr_of s.banks s.pcrs l.bank l.pcr in
    let began = c.in_ok-session.ensures.told s live c.requires.readiness refl in
    let st = starting c.in_ok-session.session l c.args.object s h c.requires.literal began.0 in
    let live1 = began.1 ∙ ap Some st.leaves in
    let is_one : is_answer c.walk-opened.result ≡ true = sym c.is_answer.ensures ∙ c.if-not-is_answer.false in
    let went = c.walk-opened.ensures.told s st.session live1 began.2 is_one in
    let open1 = open_bound c.in_ok-session.session l s st.session c.requires.literal in
    let told = c.in_ok-flush.ensures.told s (bind_leaves l o s) open1 went.1 went.2 refl in
    (went.0 ∙ sym st.answer, told.1 ∙ ap Some (sym st.after), told.2)

pub returns-clause-stored : goal.returns-clause-stored
returns-clause-stored g c = λ s live stored.
    let h = c.start.ensures.rules s live in
    let l = c.args.literal.now in
    let o = pcr_of s.banks s.pcrs l.bank l.pcr in
    let began = c.in_ok-session.ensures.told s live c.requires.readiness refl in
    let st = starting c.in_ok-session.session l c.args.object s h c.requires.literal began.0 in
    let live1 = began.1 ∙ ap Some st.leaves in
    let stored1 = (c.in_ok-session.ensures.stored s live c.requires.readiness stored).answered refl ∙ ap (λ p. Some (Holds p)) st.leaves in
    let walked = c.walk-opened.ensures.stored s st.session live1 began.2 stored1 in
    let is_one : is_answer c.walk-opened.result ≡ true = sym c.is_answer.ensures ∙ c.if-not-is_answer.false in
    let went = c.walk-opened.ensures.told s st.session live1 began.2 is_one in
    let open1 = open_bound c.in_ok-session.session l s st.session c.requires.literal in
    let was : c.flush.result ≡ Ok c.in_ok-flush.field-0 = c.in_ok-flush.was in
    stores_passed s (closed s) (after_unseal s) c.flush.result c.in_ok-flush.field-0 c.walk-opened.result _ (sym st.after) was
    (c.flush.ensures.stored s (bind_leaves l o s) open1 went.1 went.2 (walked.answered is_one))
    (after_kept l c.args.object s h c.requires.literal)

pub returns-in_err-session-clause-rules : goal.returns-in_err-session-clause-rules
returns-in_err-session-clause-rules g c = λ s live. (after_kept c.args.literal.now c.args.object s (c.start.ensures.rules s live) c.requires.literal).rules

pub returns-then-not-is_answer-clause-rules : goal.returns-then-not-is_answer-clause-rules
returns-then-not-is_answer-clause-rules g c = λ s live. (after_kept c.args.literal.now c.args.object s (c.start.ensures.rules s live) c.requires.literal).rules

pub returns-in_err-flush-clause-rules : goal.returns-in_err-flush-clause-rules
returns-in_err-flush-clause-rules g c = λ s live. (after_kept c.args.literal.now c.args.object s (c.start.ensures.rules s live) c.requires.literal).rules

pub returns-clause-rules : goal.returns-clause-rules
returns-clause-rules g c = λ s live. (after_kept c.args.literal.now c.args.object s (c.start.ensures.rules s live) c.requires.literal).rules
