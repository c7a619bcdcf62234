-- Members that a search finds, and those of lists without repeats.
use Rattle.std.proofs.Common.{◌≡◌, Bool, true, false, cond, List, [], ◌∷◌, ◌++◌, Some, refl, sym, ap, ◌∙◌, subst, inl, inr, arith}
use Rattle.std.specs.Prelude.{◌⊎◌, find, filter}
use Rattle.std.specs.List.{Contains, AllByRecursion, list_any}
use Rattle.std.proofs.lemmas.Bool.{true≢false}
use Rattle.std.proofs.lemmas.List.Elements.{Contains-append_cases}
use Rattle.predictor.specs.Distinct.{put, put_all}
use Rattle.predict_proof.proofs.Members.{first_in, later_in, first_or_later}

pub nothing_in : {A : Type 0} (x : A) → Contains [] x → ⊥
nothing_in x h = absurd (omega (arith, h.1))

pub find_some : {A : Type 0} (p : A → Bool) (xs : List A) (x : A) → find p xs ≡ Some x → Contains xs x × (p x ≡ true)
find_some p [] x e = absurd cc
find_some p (y ∷ xs) x e =
    elim (p y) as (λ b. p y ≡ b → cond b (Some y) (find p xs) ≡ Some x → Contains (y ∷ xs) x × (p x ≡ true)) [
      | true ↦ λ on h. let is : y ≡ x = cc in subst (λ z. Contains (y ∷ xs) z × (p z ≡ true)) is (first_in y xs, on)
      | false ↦ λ off h. let r = find_some p xs x h in (later_in y xs x r.0, r.1)
    ] refl e

pub find_member : {A : Type 0} (p : A → Bool) (xs : List A) (x : A) → Contains xs x → p x ≡ true → (y : A) × (find p xs ≡ Some y)
find_member p [] x h on = absurd (nothing_in x h)
find_member {A = A} p (y ∷ xs) x h on =
    elim (p y) as (λ b. p y ≡ b → (z : A) × (cond b (Some y) (find p xs) ≡ Some z)) [
      | true ↦ λ _. (y, refl)
      | false ↦ λ off. elim (first_or_later y xs x h) [
        | inl here ↦ absurd (true≢false (sym on ∙ ap p (sym here) ∙ off))
        | inr later ↦ find_member p xs x later on
      ]
    ] refl

pub filter_from : {A : Type 0} (p : A → Bool) (xs : List A) (x : A) → Contains (filter p xs) x → Contains xs x
filter_from p [] x h = h
filter_from p (y ∷ xs) x h =
    elim (p y) as (λ b. Contains (cond b (y ∷ filter p xs) (filter p xs)) x → Contains (y ∷ xs) x) [
      | true ↦ λ k. elim (first_or_later y (filter p xs) x k) [
        | inl here ↦ subst (λ z. Contains (y ∷ xs) z) here (first_in y xs)
        | inr later ↦ later_in y xs x (filter_from p xs x later)
      ]
      | false ↦ λ k. later_in y xs x (filter_from p xs x k)
    ] h

put_from : {A : Type 0} (same : A → A → Bool) (list : List A) (y x : A) → Contains (put same list y) x → Contains list x ⊎ (y ≡ x)
put_from same list y x h =
    elim (list_any (same y) list) as (λ b. Contains (cond b list (list ++ y ∷ [])) x → Contains list x ⊎ (y ≡ x)) [
      | true ↦ λ k. inl k
      | false ↦ λ k. elim (Contains-append_cases list (y ∷ []) x k) [
        | inl before ↦ inl before
        | inr last ↦ elim (first_or_later y [] x last) [ inl here ↦ inr here | inr later ↦ absurd (nothing_in x later) ]
      ]
    ] h

-- a member of a list without its repeats is one of the list
pub put_all_from : {A : Type 0} (same : A → A → Bool) (list xs : List A) (x : A) → Contains (put_all same list xs) x → Contains list x ⊎ Contains xs x
put_all_from same list [] x h = inl h
put_all_from same list (y ∷ xs) x h =
    elim (put_all_from same (put same list y) xs x h) [
      | inl put_in ↦ elim (put_from same list y x put_in) [
        | inl before ↦ inl before
        | inr here ↦ inr (subst (λ z. Contains (y ∷ xs) z) here (first_in y xs))
      ]
      | inr later ↦ inr (later_in y xs x later)
    ]

pub all_at : {A : Type 0} (P : A → Type 0) (xs : List A) (x : A) → AllByRecursion P xs → Contains xs x → P x
all_at P [] x all h = absurd (nothing_in x h)
all_at P (y ∷ xs) x all h =
    elim (first_or_later y xs x h) [
      | inl here ↦ subst P here all.0
      | inr later ↦ all_at P xs x all.1 later
    ]

pub all_from : {A : Type 0} (P : A → Type 0) (xs : List A) → ((x : A) → Contains xs x → P x) → AllByRecursion P xs
all_from P [] each = tt
all_from P (y ∷ xs) each = (each y (first_in y xs), all_from P xs (λ x h. each x (later_in y xs x h)))
