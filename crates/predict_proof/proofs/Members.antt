-- Members of lists that are made of others.
use Rattle.std.proofs.Common.{◌≡◌, ℕ, zero, suc, ◌+◌, ◌-◌, ◌<◌, ◌≤◌, Bool, true, List, [], ◌∷◌, length, get_or, map, refl, sym, ap, ◌∙◌, subst, inl, inr, arith}
use Rattle.std.specs.Prelude.{◌⊎◌}
use Rattle.std.specs.List.{Contains, flat_map, range_with_len}
use Rattle.std.proofs.lemmas.List.Elements.{Contains-append_left, Contains-append_right, Contains-append_cases}
use Rattle.std.proofs.lemmas.List.Folds.{list_any_at}
use Rattle.std.proofs.lemmas.List.FromFn.{length-range_with_len, get_or-range_with_len}
use Rattle.std.proofs.lemmas.Map.Views.{Contains-from_any}
use Rattle.predictor.specs.Distinct.{distinct}
use Rattle.predictor.proofs.Repeats.{Tells, all_put_there}

pub first_in : {A : Type 0} (x : A) (xs : List A) → Contains (x ∷ xs) x
first_in x xs = (0, omega arith, refl)

pub later_in : {A : Type 0} (y : A) (xs : List A) (x : A) → Contains xs x → Contains (y ∷ xs) x
later_in y xs x h = (suc h.0, omega (arith, h.1), h.2)

none_in : {A : Type 0} (x : A) → Contains [] x → ⊥
none_in x h = absurd (omega (arith, h.1))

at_place : {A : Type 0} (y : A) (xs : List A) (x : A) (k : ℕ) → k < length (y ∷ xs) → get_or (y ∷ xs) k x ≡ x → (y ≡ x) ⊎ Contains xs x
at_place y xs x zero lt is = inl is
at_place y xs x (suc k) lt is = inr (k, omega arith, is)

pub first_or_later : {A : Type 0} (y : A) (xs : List A) (x : A) → Contains (y ∷ xs) x → (y ≡ x) ⊎ Contains xs x
first_or_later y xs x h = at_place y xs x h.0 h.1 h.2

pub mapped_in : {A B : Type 0} (f : A → B) (xs : List A) (x : A) → Contains xs x → Contains (map f xs) (f x)
mapped_in f [] x h = absurd (none_in x h)
mapped_in f (y ∷ xs) x h =
    elim (first_or_later y xs x h) [
      | inl here ↦ subst (λ z. Contains (f y ∷ map f xs) (f z)) here (first_in (f y) (map f xs))
      | inr later ↦ later_in (f y) (map f xs) (f x) (mapped_in f xs x later)
    ]

pub mapped_from : {A B : Type 0} (f : A → B) (xs : List A) (y : B) → Contains (map f xs) y → (x : A) × Contains xs x × (f x ≡ y)
mapped_from f [] y h = absurd (none_in y h)
mapped_from f (x ∷ xs) y h =
    elim (first_or_later (f x) (map f xs) y h) [
      | inl here ↦ (x, first_in x xs, here)
      | inr later ↦ let found = mapped_from f xs y later in (found.0, later_in x xs found.0 found.1, found.2)
    ]

pub joined_in : {A B : Type 0} (f : A → List B) (xs : List A) (x : A) (y : B) → Contains xs x → Contains (f x) y → Contains (flat_map f xs) y
joined_in f [] x y h i = absurd (none_in x h)
joined_in f (z ∷ xs) x y h i =
    elim (first_or_later z xs x h) [
      | inl here ↦ Contains-append_left (f z) (flat_map f xs) y (subst (λ w. Contains (f w) y) (sym here) i)
      | inr later ↦ Contains-append_right (f z) (flat_map f xs) y (joined_in f xs x y later i)
    ]

pub joined_from : {A B : Type 0} (f : A → List B) (xs : List A) (y : B) → Contains (flat_map f xs) y → (x : A) × Contains xs x × Contains (f x) y
joined_from f [] y h = absurd (none_in y h)
joined_from f (x ∷ xs) y h =
    elim (Contains-append_cases (f x) (flat_map f xs) y h) [
      | inl here ↦ (x, first_in x xs, here)
      | inr later ↦ let found = joined_from f xs y later in (found.0, later_in x xs found.0 found.1, found.2)
    ]

pub range_in : (a n v : ℕ) → a ≤ v → v < a + n → Contains (range_with_len a n) v
range_in a n v le lt =
    let i : v - a < n = omega arith in
    let same : a + (v - a) ≡ v = omega arith in
    (v - a, omega (arith, i, length-range_with_len a n), get_or-range_with_len a n (v - a) v i ∙ same)

pub range_from : (a n v : ℕ) → Contains (range_with_len a n) v → (a ≤ v) × (v < a + n)
range_from a n v h =
    let lt : h.0 < n = omega (arith, h.1, length-range_with_len a n) in
    let same : a + h.0 ≡ v = sym (get_or-range_with_len a n h.0 v lt) ∙ h.2 in
    (omega arith, omega arith)

-- what is in a list is in it without its repeats
pub distinct_in : {A : Type 0} (same : A → A → Bool) → Tells same → (xs : List A) (x : A) → Contains xs x → Contains (distinct same xs) x
distinct_in same t xs x h =
    let found : same x (get_or xs h.0 x) ≡ true = ap (same x) h.2 ∙ t.itself x in
    Contains-from_any {eq = same} t.equal x (distinct same xs) (all_put_there same t [] xs x (list_any_at (same x) xs h.0 x h.1 found))
