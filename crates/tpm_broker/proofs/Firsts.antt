-- The first element that passes a test: it is found, taken out, or another is put in its place.
use Rattle.std.proofs.Common.{◌≡◌, ℕ, suc, ◌+◌, Bool, true, false, cond, not, List, [], ◌∷◌, ◌++◌, length, refl, sym, ap, ◌∙◌, subst, arith}
use Rattle.std.specs.Prelude.{Option, None, Some, slice_get, slice_set, remove}
use Rattle.std.specs.List.{AllByRecursion, position_or_len}

abbrev pub first_of : {A : Type 0} → (A → Bool) → List A → Option A
first_of p [] = None
first_of p (x ∷ xs) = cond (p x) (Some x) (first_of p xs)

abbrev pub without_of : {A : Type 0} → (A → Bool) → List A → List A
without_of p [] = []
without_of p (x ∷ xs) = cond (p x) xs (x ∷ without_of p xs)

abbrev pub with_of : {A : Type 0} → (A → Bool) → A → List A → List A
with_of p y [] = []
with_of p y (x ∷ xs) = cond (p x) (y ∷ xs) (x ∷ with_of p y xs)

one_more : (n : ℕ) → 1 + n ≡ suc n
one_more n = omega arith

-- by the place of the first
pub found_is : {A : Type 0} (p : A → Bool) (xs : List A) → slice_get xs (position_or_len p xs) ≡ first_of p xs
found_is p [] = refl
found_is p (x ∷ xs) =
    elim (p x) as (λ b. slice_get (x ∷ xs) (cond (not b) (1 + position_or_len p xs) 0) ≡ cond b (Some x) (first_of p xs)) [
      | true ↦ refl
      | false ↦ ap (slice_get (x ∷ xs)) (one_more (position_or_len p xs)) ∙ found_is p xs
    ]

pub without_is : {A : Type 0} (p : A → Bool) (xs : List A) → remove xs (position_or_len p xs) ≡ without_of p xs
without_is p [] = refl
without_is p (x ∷ xs) =
    elim (p x) as (λ b. remove (x ∷ xs) (cond (not b) (1 + position_or_len p xs) 0) ≡ cond b xs (x ∷ without_of p xs)) [
      | true ↦ refl
      | false ↦ ap (remove (x ∷ xs)) (one_more (position_or_len p xs)) ∙ ap (λ ys. x ∷ ys) (without_is p xs)
    ]

pub with_is : {A : Type 0} (p : A → Bool) (y : A) (xs : List A) → slice_set xs (position_or_len p xs) y ≡ with_of p y xs
with_is p y [] = refl
with_is p y (x ∷ xs) =
    elim (p x) as (λ b. slice_set (x ∷ xs) (cond (not b) (1 + position_or_len p xs) 0) y ≡ cond b (y ∷ xs) (x ∷ with_of p y xs)) [
      | true ↦ refl
      | false ↦ ap (λ i. slice_set (x ∷ xs) i y) (one_more (position_or_len p xs)) ∙ ap (λ ys. x ∷ ys) (with_is p y xs)
    ]

-- where the test passes, the other doesn't
abbrev pub Excludes : {A : Type 0} → (A → Bool) → (A → Bool) → Type 0
Excludes {A} p q = (x : A) → p x ≡ true → q x ≡ false

-- what passes another test is found as before
pub other_with : {A : Type 0} (p q : A → Bool) (y : A) (xs : List A) → Excludes p q → q y ≡ false → first_of q (with_of p y xs) ≡ first_of q xs
other_with p q y [] h e = refl
other_with p q y (x ∷ xs) h e =
    elim (p x) as (λ b. p x ≡ b → first_of q (cond b (y ∷ xs) (x ∷ with_of p y xs)) ≡ cond (q x) (Some x) (first_of q xs)) [
      | true ↦ λ is. ap (λ b. cond b (Some y) (first_of q xs)) e ∙ sym (ap (λ b. cond b (Some x) (first_of q xs)) (h x is))
      | false ↦ λ is. ap (cond (q x) (Some x)) (other_with p q y xs h e)
    ] refl

pub other_without : {A : Type 0} (p q : A → Bool) (xs : List A) → Excludes p q → first_of q (without_of p xs) ≡ first_of q xs
other_without p q [] h = refl
other_without p q (x ∷ xs) h =
    elim (p x) as (λ b. p x ≡ b → first_of q (cond b xs (x ∷ without_of p xs)) ≡ cond (q x) (Some x) (first_of q xs)) [
      | true ↦ λ is. sym (ap (λ b. cond b (Some x) (first_of q xs)) (h x is))
      | false ↦ λ is. ap (cond (q x) (Some x)) (other_without p q xs h)
    ] refl

-- the one that was put in is found
pub same_with : {A : Type 0} (p : A → Bool) (x y : A) (xs : List A) → first_of p xs ≡ Some x → p y ≡ true → first_of p (with_of p y xs) ≡ Some y
same_with p x y [] found e = cc
same_with p x y (z ∷ xs) found e =
    elim (p z) as (λ b. p z ≡ b → cond b (Some z) (first_of p xs) ≡ Some x → first_of p (cond b (y ∷ xs) (z ∷ with_of p y xs)) ≡ Some y) [
      | true ↦ λ is _. ap (λ b. cond b (Some y) (first_of p xs)) e
      | false ↦ λ is more. ap (λ b. cond b (Some z) (first_of p (with_of p y xs))) is ∙ same_with p x y xs more e
    ] refl found

-- a further element at the end
pub found_push : {A : Type 0} (p : A → Bool) (x y : A) (xs : List A) → first_of p xs ≡ Some x → first_of p (xs ++ y ∷ []) ≡ Some x
found_push p x y [] found = cc
found_push p x y (z ∷ xs) found =
    elim (p z) as (λ b. cond b (Some z) (first_of p xs) ≡ Some x → cond b (Some z) (first_of p (xs ++ y ∷ [])) ≡ Some x) [ true ↦ λ is. is | false ↦ λ more. found_push p x y xs more ] found

pub found_last : {A : Type 0} (p : A → Bool) (y : A) (xs : List A) → AllByRecursion (λ x. p x ≡ false) xs → p y ≡ true → first_of p (xs ++ y ∷ []) ≡ Some y
found_last p y [] none e = ap (λ b. cond b (Some y) None) e
found_last p y (z ∷ xs) none e = ap (λ b. cond b (Some z) (first_of p (xs ++ y ∷ []))) none.0 ∙ found_last p y xs none.1 e

-- how many there are afterwards
pub length_with : {A : Type 0} (p : A → Bool) (y : A) (xs : List A) → length (with_of p y xs) ≡ length xs
length_with p y [] = refl
length_with p y (x ∷ xs) = elim (p x) as (λ b. length (cond b (y ∷ xs) (x ∷ with_of p y xs)) ≡ suc (length xs)) [ true ↦ refl | false ↦ ap suc (length_with p y xs) ]

pub length_without : {A : Type 0} (p : A → Bool) (x : A) (xs : List A) → first_of p xs ≡ Some x → suc (length (without_of p xs)) ≡ length xs
length_without p x [] found = cc
length_without p x (z ∷ xs) found =
    elim (p z) as (λ b. cond b (Some z) (first_of p xs) ≡ Some x → suc (length (cond b xs (z ∷ without_of p xs))) ≡ suc (length xs)) [
      | true ↦ λ _. refl
      | false ↦ λ more. ap suc (length_without p x xs more)
    ] found

-- what each has, each has afterwards
pub all_with : {A : Type 0} (P : A → Type 0) (p : A → Bool) (y : A) (xs : List A) → AllByRecursion P xs → P y → AllByRecursion P (with_of p y xs)
all_with P p y [] all one = tt
all_with P p y (x ∷ xs) all one =
    elim (p x) as (λ b. AllByRecursion P (cond b (y ∷ xs) (x ∷ with_of p y xs))) [ true ↦ (one, all.1) | false ↦ (all.0, all_with P p y xs all.1 one) ]

pub all_without : {A : Type 0} (P : A → Type 0) (p : A → Bool) (xs : List A) → AllByRecursion P xs → AllByRecursion P (without_of p xs)
all_without P p [] all = tt
all_without P p (x ∷ xs) all =
    elim (p x) as (λ b. AllByRecursion P (cond b xs (x ∷ without_of p xs))) [ true ↦ all.1 | false ↦ (all.0, all_without P p xs all.1) ]

pub all_found : {A : Type 0} (P : A → Type 0) (p : A → Bool) (x : A) (xs : List A) → AllByRecursion P xs → first_of p xs ≡ Some x → P x
all_found P p x [] all found = cc
all_found P p x (z ∷ xs) all found =
    elim (p z) as (λ b. cond b (Some z) (first_of p xs) ≡ Some x → P x) [
      | true ↦ λ is. let same : z ≡ x = cc in subst P same all.0
      | false ↦ λ more. all_found P p x xs all.1 more
    ] found

pub found_passes : {A : Type 0} (p : A → Bool) (x : A) (xs : List A) → first_of p xs ≡ Some x → p x ≡ true
found_passes p x [] found = cc
found_passes p x (z ∷ xs) found =
    elim (p z) as (λ b. p z ≡ b → cond b (Some z) (first_of p xs) ≡ Some x → p x ≡ true) [
      | true ↦ λ passes is. let same : z ≡ x = cc in ap p (sym same) ∙ passes
      | false ↦ λ _ more. found_passes p x xs more
    ] refl found
