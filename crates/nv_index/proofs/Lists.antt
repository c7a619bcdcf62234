-- Facts of each element of a list, as a test or as a type, under the edits that commands do.
use Rattle.std.proofs.Common.{◌≡◌, ℕ, zero, suc, List, [], ◌∷◌, ◌++◌, map, set, Bool, true, false, cond, refl, sym, ap, ◌∙◌, subst}
use Rattle.std.specs.Prelude.{remove, slice_get, Some}
use Rattle.std.specs.List.{AllByRecursion, find, list_all}
use Rattle.std.proofs.lemmas.Bool.{and_from, and_parts}

pub map-remove : {A : Type 0} {B : Type 0} (f : A → B) (xs : List A) (i : ℕ) → map f (remove xs i) ≡ remove (map f xs) i
map-remove f [] zero = refl
map-remove f [] (suc i) = refl
map-remove f (x ∷ xs) zero = refl
map-remove f (x ∷ xs) (suc i) = ap (λ ys. f x ∷ ys) (map-remove f xs i)

pub all_push : {A : Type 0} (P : A → Type 0) (xs : List A) (y : A) → AllByRecursion P xs → P y → AllByRecursion P (xs ++ y ∷ [])
all_push P [] y all p = (p, tt)
all_push P (x ∷ xs) y all p = (all.0, all_push P xs y all.1 p)

pub all_set : {A : Type 0} (P : A → Type 0) (xs : List A) (i : ℕ) (y : A) → AllByRecursion P xs → P y → AllByRecursion P (set xs i y)
all_set P [] zero y all p = tt
all_set P [] (suc i) y all p = tt
all_set P (x ∷ xs) zero y all p = (p, all.1)
all_set P (x ∷ xs) (suc i) y all p = (all.0, all_set P xs i y all.1 p)

pub all_remove : {A : Type 0} (P : A → Type 0) (xs : List A) (i : ℕ) → AllByRecursion P xs → AllByRecursion P (remove xs i)
all_remove P [] zero all = tt
all_remove P [] (suc i) all = tt
all_remove P (x ∷ xs) zero all = all.1
all_remove P (x ∷ xs) (suc i) all = (all.0, all_remove P xs i all.1)

pub all_at : {A : Type 0} (P : A → Type 0) (xs : List A) (i : ℕ) (y : A) → AllByRecursion P xs → slice_get xs i ≡ Some y → P y
all_at P [] i y all e = cc
all_at P (x ∷ xs) zero y all e = let same : x ≡ y = cc in subst P same all.0
all_at P (x ∷ xs) (suc i) y all e = all_at P xs i y all.1 e

-- what holds of each holds of one that is found
pub all_found : {A : Type 0} (P : A → Type 0) (p : A → Bool) (xs : List A) (y : A) → AllByRecursion P xs → find p xs ≡ Some y → P y
all_found P p [] y all e = cc
all_found P p (x ∷ xs) y all e =
    elim (p x) as (λ b. cond b (Some x) (find p xs) ≡ Some y → P y) [
      | true ↦ λ h. let same : x ≡ y = cc in subst P same all.0
      | false ↦ λ h. all_found P p xs y all.1 h
    ] e

pub passes_push : {A : Type 0} (p : A → Bool) (xs : List A) (y : A) → list_all p xs ≡ true → p y ≡ true → list_all p (xs ++ y ∷ []) ≡ true
passes_push p [] y all h = and_from (p y) true h refl
passes_push p (x ∷ xs) y all h =
    let both = and_parts (p x) (list_all p xs) all in
    and_from (p x) (list_all p (xs ++ y ∷ [])) both.0 (passes_push p xs y both.1 h)

pub passes_set : {A : Type 0} (p : A → Bool) (xs : List A) (i : ℕ) (y : A) → list_all p xs ≡ true → p y ≡ true → list_all p (set xs i y) ≡ true
passes_set p [] zero y all h = refl
passes_set p [] (suc i) y all h = refl
passes_set p (x ∷ xs) zero y all h = and_from (p y) (list_all p xs) h (and_parts (p x) (list_all p xs) all).1
passes_set p (x ∷ xs) (suc i) y all h =
    let both = and_parts (p x) (list_all p xs) all in
    and_from (p x) (list_all p (set xs i y)) both.0 (passes_set p xs i y both.1 h)

pub passes_remove : {A : Type 0} (p : A → Bool) (xs : List A) (i : ℕ) → list_all p xs ≡ true → list_all p (remove xs i) ≡ true
passes_remove p [] zero all = refl
passes_remove p [] (suc i) all = refl
passes_remove p (x ∷ xs) zero all = (and_parts (p x) (list_all p xs) all).1
passes_remove p (x ∷ xs) (suc i) all =
    let both = and_parts (p x) (list_all p xs) all in
    and_from (p x) (list_all p (remove xs i)) both.0 (passes_remove p xs i both.1)

pub passes_at : {A : Type 0} (p : A → Bool) (xs : List A) (i : ℕ) (y : A) → list_all p xs ≡ true → slice_get xs i ≡ Some y → p y ≡ true
passes_at p [] i y all e = cc
passes_at p (x ∷ xs) zero y all e = let same : x ≡ y = cc in ap p (sym same) ∙ (and_parts (p x) (list_all p xs) all).0
passes_at p (x ∷ xs) (suc i) y all e = passes_at p xs i y (and_parts (p x) (list_all p xs) all).1 e

pub passes_weaker : {A : Type 0} (p q : A → Bool) → ((x : A) → p x ≡ true → q x ≡ true) → (xs : List A) → list_all p xs ≡ true → list_all q xs ≡ true
passes_weaker p q f [] all = refl
passes_weaker p q f (x ∷ xs) all =
    let both = and_parts (p x) (list_all p xs) all in
    and_from (q x) (list_all q xs) (f x both.0) (passes_weaker p q f xs both.1)
