-- Which lists are choices.
use Rattle.std.proofs.Common.{◌≡◌, ℕ, true, ltb, List, [], ◌∷◌, length, map, refl, subst, inl, inr, arith}
use Rattle.std.specs.List.{Contains, range_with_len}
use Rattle.std.proofs.lemmas.Bool.{and_parts, and_from, ltb-true, lt-ltb}
use Rattle.record_match.specs.Choices.{choices}
use Rattle.predict_proof.specs.Chosen.{is_choice}
use Rattle.predict_proof.proofs.Members.{first_in, mapped_in, mapped_from, joined_in, joined_from, range_in, range_from, first_or_later}

pub choice_in : {A : Type 0} (alternatives : List (List A)) (choice : List ℕ) → is_choice alternatives choice ≡ true → Contains (choices alternatives) choice
choice_in [] [] h = first_in [] []
choice_in [] (v ∷ choice) h = absurd cc
choice_in (first ∷ more) [] h = absurd cc
choice_in (first ∷ more) (v ∷ choice) h =
    let parts = and_parts (ltb v (length first)) (is_choice more choice) h in
    joined_in (λ v. map (λ c. v ∷ c) (choices more)) (range_with_len 0 (length first)) v (v ∷ choice) (range_in 0 (length first) v (omega arith) (omega (arith, ltb-true v (length first) parts.0)))
    (mapped_in (λ c. v ∷ c) (choices more) choice (choice_in more choice parts.1))

pub choice_of : {A : Type 0} (alternatives : List (List A)) (choice : List ℕ) → Contains (choices alternatives) choice → is_choice alternatives choice ≡ true
choice_of {A} [] choice h = subst (λ c. is_choice {A = A} [] c ≡ true) (first_of_one choice h) refl
  where
    first_of_one : (choice : List ℕ) → Contains ([] ∷ []) choice → [] ≡ choice
    first_of_one choice h = elim (first_or_later [] [] choice h) [ inl here ↦ here | inr later ↦ absurd (omega (arith, later.1)) ]
choice_of {A} (first ∷ more) choice h =
    let found = joined_from (λ v. map (λ c. v ∷ c) (choices more)) (range_with_len 0 (length first)) choice h in
    let rest = mapped_from (λ c. found.0 ∷ c) (choices more) choice found.2 in
    let below = range_from 0 (length first) found.0 found.1 in
    subst (λ c. is_choice (first ∷ more) c ≡ true) rest.2
    (and_from (ltb found.0 (length first)) (is_choice more rest.0) (lt-ltb found.0 (length first) (omega (arith, below.1))) (choice_of more rest.0 rest.1))
