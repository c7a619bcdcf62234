use Rattle.std.proofs.Common.{◌≡◌, rules, true, false, ap, sym, ◌∙◌, refl}
use Rattle.std.specs.Prelude.{Err, Ok}
use Rattle.std.specs.Str.{bytes_eq}
use Rattle.policy_session.specs.declared.error.UnsealError.TheVariants as error
use Rattle.policy_session.specs.OpenSession.{with_open, bound_in}
use Rattle.policy_session.proofs.Walks.{policy_at, compared, same_refusal, stores_then, stores_passed}
use Rattle.policy_session.proofs.literal.compare.Goals as goal

pub returns-then-eq-clause-told : goal.returns-then-eq-clause-told
unfolding bound_in
returns-then-eq-clause-told g c = λ s now e h live ready is.
    let told = c.in_ok-digest.ensures.told s (bound_in c.args.literal.now now s) h live ready refl in
    let digest : c.in_ok-digest.digest ≡ policy_at c.args.literal.now now = cc in
    let equal : bytes_eq c.in_ok-digest.digest c.policy_of-policy.result ≡ true = search rules in
    (sym (compared c.args.literal.now now c.in_ok-digest.digest c.policy_of-policy.result true digest c.policy_of-policy.ensures equal), told.1, told.2)

pub returns-in_err-now-clause-stored : goal.returns-in_err-now-clause-stored
returns-in_err-now-clause-stored g c = λ s now e h live ready stored.
    let x = bound_in c.args.literal.now now s in
    let told = c.in_ok-digest.ensures.told s x h live ready refl in
    let before = c.in_ok-digest.ensures.stored s x h live ready stored in
    let now_is : c.from_residual-in_err-now.result ≡ Err c.in_err-now.field-0.0 = search rules in
    let was : c.read_value.result ≡ Err c.in_err-now.field-0.0 = c.in_err-now.was in
    stores_then s (with_open x s) _ c.read_value.result c.from_residual-in_err-now.result _ (same_refusal c.read_value.result c.from_residual-in_err-now.result c.in_err-now.field-0.0 was now_is) (λ _. refl)
    (c.read_value.ensures.stored s x now e h.kept told.1 told.2 (before.answered refl))

pub returns-clause-told : goal.returns-clause-told
unfolding bound_in
returns-clause-told g c = λ s now e h live ready is.
    let x = bound_in c.args.literal.now now s in
    let told = c.in_ok-digest.ensures.told s x h live ready refl in
    let read = c.in_ok-now.ensures.told s x now e told.1 told.2 refl in
    let digest : c.in_ok-digest.digest ≡ policy_at c.args.literal.now now = cc in
    let value : c.in_ok-now.now ≡ now = cc in
    let equal : bytes_eq c.in_ok-digest.digest c.policy_of-policy.result ≡ false = search rules in (
      ap (λ v. Err (error.NotLiteral v)) value ∙ sym (compared c.args.literal.now now c.in_ok-digest.digest c.policy_of-policy.result false digest c.policy_of-policy.ensures equal),
      read.1,
      read.2,
    )

pub returns-clause-stored : goal.returns-clause-stored
returns-clause-stored g c = λ s now e h live ready stored.
    let x = bound_in c.args.literal.now now s in
    let told = c.in_ok-digest.ensures.told s x h live ready refl in
    let before = c.in_ok-digest.ensures.stored s x h live ready stored in
    let was : c.read_value.result ≡ Ok c.in_ok-now.now = c.in_ok-now.was in
    stores_passed s (with_open x s) _ c.read_value.result c.in_ok-now.now _ _ refl was
    (c.read_value.ensures.stored s x now e h.kept told.1 told.2 (before.answered refl)) h.kept
