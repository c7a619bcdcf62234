-- Members of lists: of a mapped one, and what passes a test.
use Rattle.std.proofs.Common.{◌≡◌, ℕ, zero, suc, ◌<◌, Bool, true, List, [], ◌∷◌, map, length, get_or, sym, ap, ◌∙◌, arith, Contains}
use Rattle.std.specs.List.{list_all}
use Rattle.std.proofs.lemmas.Bool.{and_parts}
use Rattle.std.proofs.lemmas.List.{get_or_default, get_or-map, length-map}

-- a member of a mapped list is that of a member
pub mapped : {A B : Type 0} (f : A → B) (none : A) (xs : List A) (y : B) → Contains (map f xs) y → (x : A) × Contains xs x × (f x ≡ y)
mapped f none xs y at =
    let long = length-map xs f in
    let within : at.0 < length xs = omega (arith, at.1, long) in
    (get_or xs at.0 none, (at.0, within, again xs at.0 none within), sym (get_or-map f xs at.0 none y within) ∙ at.2)
  where
    again : {A : Type 0} (xs : List A) (i : ℕ) (d : A) → i < length xs → get_or xs i (get_or xs i d) ≡ get_or xs i d
    again xs i d within = get_or_default xs i (get_or xs i d) d within

pub map_member : {A B : Type 0} (f : A → B) (xs : List A) (x : A) → Contains xs x → Contains (map f xs) (f x)
map_member f xs x at =
    let long = length-map xs f in
    (at.0, omega (arith, at.1, long), get_or-map f xs at.0 x (f x) at.1 ∙ ap f at.2)

nth_passes : {A : Type 0} (test : A → Bool) (xs : List A) (i : ℕ) (d : A) → list_all test xs ≡ true → i < length xs → test (get_or xs i d) ≡ true
nth_passes test [] i d all within = absurd (omega (arith, within))
nth_passes test (x ∷ xs) zero d all within = (and_parts (test x) (list_all test xs) all).0
nth_passes test (x ∷ xs) (suc i) d all within = nth_passes test xs i d (and_parts (test x) (list_all test xs) all).1 (omega (arith, within))

pub passes : {A : Type 0} (test : A → Bool) (xs : List A) (x : A) → list_all test xs ≡ true → Contains xs x → test x ≡ true
passes test xs x all at = ap test (sym at.2) ∙ nth_passes test xs at.0 x all at.1
