use Rattle.std.proofs.Common.{◌≡◌, rules, ap, sym, ◌∙◌, refl, subst}
use Rattle.std.specs.Prelude.{Err, Ok, Some}
use Rattle.tpm_model.specs.Pcrs.{pcr_of}
use Rattle.tpm_model.specs.Sessions.{object_at}
use Rattle.tpm_device.specs.Stored.{Holds}
use Rattle.policy_session.specs.LiteralUnseal.{opened_at, opened_by}
use Rattle.policy_session.specs.OpenSession.{IsOpen, with_open, bind_answer, bound_in, bind_leaves, compare_answer}
use Rattle.policy_session.proofs.KeptStates.{open_bound}
use Rattle.policy_session.proofs.Walks.{bind_refused, bound_value, compare_refused, compare_passed, policy_at, told_then, same_refusal, stores_then}
use Rattle.policy_session.proofs.literal.walk.Goals as goal

pub returns-in_err-bind-clause-told : goal.returns-in_err-bind-clause-told
returns-in_err-bind-clause-told g c = λ s h live ready.
    let l = c.args.literal.now in
    let o = pcr_of s.banks s.pcrs l.bank l.pcr in
    let now_is : c.from_residual.result ≡ Err c.in_err-bind.field-0.0 = search rules in
    let was : c.bind.result ≡ Err c.in_err-bind.field-0.0 = c.in_err-bind.was in
    told_then (bind_answer l.bank o) (opened_at o l c.args.object s) (with_open (bind_leaves l o s) s) (with_open (bind_leaves l o s) s) c.bind.result c.from_residual.result _ _
    (same_refusal c.bind.result c.from_residual.result c.in_err-bind.field-0.0 was now_is)
    (λ e. now_is ∙ bind_refused l c.args.object s o c.bind.result c.in_err-bind.field-0.0 was e) refl (c.bind.ensures.told s h live ready)

pub returns-in_err-bind-clause-stored : goal.returns-in_err-bind-clause-stored
returns-in_err-bind-clause-stored g c = λ s h live ready stored.
    let now_is : c.from_residual.result ≡ Err c.in_err-bind.field-0.0 = search rules in
    let was : c.bind.result ≡ Err c.in_err-bind.field-0.0 = c.in_err-bind.was in
    stores_then s _ _ c.bind.result c.from_residual.result _ (same_refusal c.bind.result c.from_residual.result c.in_err-bind.field-0.0 was now_is) (λ _. refl) (c.bind.ensures.stored s h live ready stored)

pub returns-in_err-compare-clause-told : goal.returns-in_err-compare-clause-told
returns-in_err-compare-clause-told g c = λ s h live ready.
    let l = c.args.literal.now in
    let o = pcr_of s.banks s.pcrs l.bank l.pcr in
    let bound = c.in_ok-bind.ensures.told s h live ready refl in
    let v = bound_value l.bank o (Ok tt) refl bound.0 in
    let open1 : IsOpen c.args.session (bound_in l v.0 s) s = subst (λ p. IsOpen c.args.session (bind_leaves l p s) s) v.1 (open_bound c.args.session l s h c.requires.literal) in
    let told = c.compare.ensures.told s v.0 v.1 open1 (bound.1 ∙ ap (λ p. Some (with_open (bind_leaves l p s) s)) v.1) bound.2 in
    let now_is : c.from_residual-in_err-compare.result ≡ Err c.in_err-compare.field-0.0 = search rules in
    let was : c.compare.result ≡ Err c.in_err-compare.field-0.0 = c.in_err-compare.was in
    told_then (compare_answer l v.0) (opened_at o l c.args.object s) (with_open (bound_in l v.0 s) s) (with_open (bind_leaves l o s) s) c.compare.result c.from_residual-in_err-compare.result _ _
    (same_refusal c.compare.result c.from_residual-in_err-compare.result c.in_err-compare.field-0.0 was now_is)
    (λ e. now_is ∙ compare_refused l c.args.object s v.0 c.compare.result c.in_err-compare.field-0.0 was e ∙ ap (λ p. opened_at p l c.args.object s) (sym v.1))
    (ap (λ p. with_open (bind_leaves l p s) s) (sym v.1)) told

pub returns-in_err-compare-clause-stored : goal.returns-in_err-compare-clause-stored
returns-in_err-compare-clause-stored g c = λ s h live ready stored.
    let l = c.args.literal.now in
    let o = pcr_of s.banks s.pcrs l.bank l.pcr in
    let bound = c.in_ok-bind.ensures.told s h live ready refl in
    let kept = c.in_ok-bind.ensures.stored s h live ready stored in
    let v = bound_value l.bank o (Ok tt) refl bound.0 in
    let open1 : IsOpen c.args.session (bound_in l v.0 s) s = subst (λ p. IsOpen c.args.session (bind_leaves l p s) s) v.1 (open_bound c.args.session l s h c.requires.literal) in
    let now_is : c.from_residual-in_err-compare.result ≡ Err c.in_err-compare.field-0.0 = search rules in
    let was : c.compare.result ≡ Err c.in_err-compare.field-0.0 = c.in_err-compare.was in
    stores_then s (with_open (bound_in l v.0 s) s) (with_open (bind_leaves l o s) s) c.compare.result c.from_residual-in_err-compare.result _
    (same_refusal c.compare.result c.from_residual-in_err-compare.result c.in_err-compare.field-0.0 was now_is)
    (λ _. ap (λ p. with_open (bind_leaves l p s) s) (sym v.1))
    (c.compare.ensures.stored s v.0 v.1 open1 (bound.1 ∙ ap (λ p. Some (with_open (bind_leaves l p s) s)) v.1) bound.2
    (kept.answered refl ∙ ap (λ p. Some (Holds (with_open (bind_leaves l p s) s))) v.1))

pub returns-clause-told : goal.returns-clause-told
unfolding bound_in
returns-clause-told g c = λ s h live ready.
    let l = c.args.literal.now in
    let o = pcr_of s.banks s.pcrs l.bank l.pcr in
    let bound = c.in_ok-bind.ensures.told s h live ready refl in
    let v = bound_value l.bank o (Ok tt) refl bound.0 in
    let open1 : IsOpen c.args.session (bound_in l v.0 s) s = subst (λ p. IsOpen c.args.session (bind_leaves l p s) s) v.1 (open_bound c.args.session l s h c.requires.literal) in
    let compared = c.in_ok-compare.ensures.told s v.0 v.1 open1 (bound.1 ∙ ap (λ p. Some (with_open (bind_leaves l p s) s)) v.1) bound.2 refl in
    let told = c.unseal.ensures.told s (bound_in l v.0 s) open1 refl compared.1 compared.2 in
    told_then (opened_by (policy_at l v.0) c.args.object (object_at c.args.object s.objects)) (opened_at o l c.args.object s) (with_open (bound_in l v.0 s) s) (with_open (bind_leaves l o s) s) c.unseal.result c.unseal.result _ _
    refl
    (λ e. e ∙ compare_passed l c.args.object s v.0 (Ok tt) refl compared.0 ∙ ap (λ p. opened_at p l c.args.object s) (sym v.1))
    (ap (λ p. with_open (bind_leaves l p s) s) (sym v.1)) told

pub returns-clause-stored : goal.returns-clause-stored
unfolding bound_in
returns-clause-stored g c = λ s h live ready stored.
    let l = c.args.literal.now in
    let o = pcr_of s.banks s.pcrs l.bank l.pcr in
    let bound = c.in_ok-bind.ensures.told s h live ready refl in
    let kept = c.in_ok-bind.ensures.stored s h live ready stored in
    let v = bound_value l.bank o (Ok tt) refl bound.0 in
    let open1 : IsOpen c.args.session (bound_in l v.0 s) s = subst (λ p. IsOpen c.args.session (bind_leaves l p s) s) v.1 (open_bound c.args.session l s h c.requires.literal) in
    let live1 = bound.1 ∙ ap (λ p. Some (with_open (bind_leaves l p s) s)) v.1 in
    let compared = c.in_ok-compare.ensures.told s v.0 v.1 open1 live1 bound.2 refl in
    let kept1 = c.in_ok-compare.ensures.stored s v.0 v.1 open1 live1 bound.2 (kept.answered refl ∙ ap (λ p. Some (Holds (with_open (bind_leaves l p s) s))) v.1) in
    stores_then s (with_open (bound_in l v.0 s) s) (with_open (bind_leaves l o s) s) c.unseal.result c.unseal.result _ refl
    (λ _. ap (λ p. with_open (bind_leaves l p s) s) (sym v.1))
    (c.unseal.ensures.stored s (bound_in l v.0 s) open1 refl compared.1 compared.2 (kept1.answered refl))
