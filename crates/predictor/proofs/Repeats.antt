-- Members put to a list, each unless it is there.
use Rattle.std.proofs.Common.{◌≡◌, ℕ, zero, suc, ◌≤◌, Bool, true, false, cond, ◌||◌, List, [], ◌∷◌, ◌++◌, length, map, Some, refl, sym, ap, ◌∙◌, subst, inl, inr, arith}
use Rattle.std.specs.Prelude.{slice_get}
use Rattle.std.specs.List.{list_any, All}
use Rattle.std.proofs.lemmas.Bool.{cases_Bool, or_cases, or_left, or_right, false≢true}
use Rattle.std.proofs.lemmas.List.{length_push}
use Rattle.std.proofs.lemmas.List.Elements.{All-push}
use Rattle.std.proofs.lemmas.Slice.Eq.{slice_eq-Decides, bytes_eq-Decides}
use Rattle.std.specs.Str.{bytes_eq}
use Rattle.record_match.proofs.Searches.{any-append}
use Rattle.policy_digest.specs.Table.{values_eq}
use Rattle.predictor.specs.Distinct.{put, put_all}

-- the test says which members are the same
pub record Tells {A : Type 0} (same : A → A → Bool) : Type 0 where
  pub equal : (a b : A) → same a b ≡ true → a ≡ b
  pub itself : (a : A) → same a a ≡ true

pub bytes_tell : Tells bytes_eq
bytes_tell = record { equal = λ a b. (bytes_eq-Decides a b).0; itself = λ a. (bytes_eq-Decides a a).1 refl }

pub values_tell : Tells values_eq
values_tell = record {
  equal = λ a b. (slice_eq-Decides bytes_eq-Decides a b (values_eq a b) refl).0;
  itself = λ a. (slice_eq-Decides bytes_eq-Decides a a (values_eq a a) refl).1 refl;
}

pub all_put-append : {A : Type 0} (same : A → A → Bool) (list xs ys : List A) → put_all same list (xs ++ ys) ≡ put_all same (put_all same list xs) ys
all_put-append same list [] ys = refl
all_put-append same list (x ∷ xs) ys = all_put-append same (put same list x) xs ys

-- ---- what is there, stays

pub put_has : {A : Type 0} (same : A → A → Bool) (list : List A) (y x : A) → list_any (same x) list ≡ true → list_any (same x) (put same list y) ≡ true
put_has same list y x h =
    elim (list_any (same y) list) as (λ b. list_any (same x) (cond b list (list ++ y ∷ [])) ≡ true) [
      | true ↦ h
      | false ↦ any-append (same x) list (y ∷ []) ∙ or_left (list_any (same x) list) (list_any (same x) (y ∷ [])) h
    ]

pub put_itself : {A : Type 0} (same : A → A → Bool) (t : Tells same) (list : List A) (y : A) → list_any (same y) (put same list y) ≡ true
put_itself same t list y =
    elim (cases_Bool (list_any (same y) list)) [
      | inl there ↦ ap (λ b. list_any (same y) (cond b list (list ++ y ∷ []))) there ∙ there
      | inr absent ↦ ap (λ b. list_any (same y) (cond b list (list ++ y ∷ []))) absent ∙ any-append (same y) list (y ∷ []) ∙ or_right (list_any (same y) list) (list_any (same y) (y ∷ [])) (or_left (same y y) false (t.itself y))
    ]

pub all_put_has : {A : Type 0} (same : A → A → Bool) (list xs : List A) (x : A) → list_any (same x) list ≡ true → list_any (same x) (put_all same list xs) ≡ true
all_put_has same list [] x h = h
all_put_has same list (y ∷ xs) x h = all_put_has same (put same list y) xs x (put_has same list y x h)

-- each member that was put is there
pub all_put_there : {A : Type 0} (same : A → A → Bool) (t : Tells same) (list xs : List A) (x : A) → list_any (same x) xs ≡ true → list_any (same x) (put_all same list xs) ≡ true
all_put_there same t list [] x h = absurd (false≢true h)
all_put_there same t list (y ∷ xs) x h =
    elim (or_cases (same x y) (list_any (same x) xs) h) [
      | inl here ↦ all_put_has same (put same list y) xs x (subst (λ z. list_any (same z) (put same list y) ≡ true) (sym (t.equal x y here)) (put_itself same t list y))
      | inr later ↦ all_put_there same t (put same list y) xs x later
    ]

pub put_again : {A : Type 0} (same : A → A → Bool) (list : List A) (x : A) → list_any (same x) list ≡ true → put same list x ≡ list
put_again same list x h = ap (λ b. cond b list (list ++ x ∷ [])) h

-- ---- a view under which the test stays the same

any_viewed : {A B : Type 0} (same : A → A → Bool) (same_b : B → B → Bool) (g : A → B) → ((a b : A) → same_b (g a) (g b) ≡ same a b) → (x : A) (list : List A) → list_any (same_b (g x)) (map g list) ≡ list_any (same x) list
any_viewed same same_b g is x [] = refl
any_viewed same same_b g is x (y ∷ list) = ap (λ b. b || list_any (same_b (g x)) (map g list)) (is x y) ∙ ap (λ b. same x y || b) (any_viewed same same_b g is x list)

map_push_to : {A B : Type 0} (g : A → B) (list : List A) (x : A) → map g list ++ g x ∷ [] ≡ map g (list ++ x ∷ [])
map_push_to g [] x = refl
map_push_to g (y ∷ list) x = ap (λ l. g y ∷ l) (map_push_to g list x)

pub put_viewed : {A B : Type 0} (same : A → A → Bool) (same_b : B → B → Bool) (g : A → B) → ((a b : A) → same_b (g a) (g b) ≡ same a b) → (list xs : List A) → put_all same_b (map g list) (map g xs) ≡ map g (put_all same list xs)
put_viewed same same_b g is list [] = refl
put_viewed same same_b g is list (x ∷ xs) =
    ap (λ l. put_all same_b l (map g xs)) (
    ap (λ b. cond b (map g list) (map g list ++ g x ∷ [])) (any_viewed same same_b g is x list)
    ∙ elim (list_any (same x) list) as (λ b. cond b (map g list) (map g list ++ g x ∷ []) ≡ map g (cond b list (list ++ x ∷ []))) [ true ↦ refl | false ↦ map_push_to g list x ])
    ∙ put_viewed same same_b g is (put same list x) xs

-- ---- lists only grow

put_grows : {A : Type 0} (same : A → A → Bool) (list : List A) (x : A) → length list ≤ length (put same list x)
put_grows same list x = elim (list_any (same x) list) as (λ b. length list ≤ length (cond b list (list ++ x ∷ []))) [ true ↦ omega arith | false ↦ omega (arith, length_push list x) ]

pub all_put_grows : {A : Type 0} (same : A → A → Bool) (list xs : List A) → length list ≤ length (put_all same list xs)
all_put_grows same list [] = omega arith
all_put_grows same list (x ∷ xs) = let more = all_put_grows same (put same list x) xs in let here = put_grows same list x in omega arith

pub All-put : {A : Type 0} (P : A → Type 0) (same : A → A → Bool) (list : List A) (x : A) → All P list → P x → All P (put same list x)
All-put P same list x all here = elim (list_any (same x) list) as (λ b. All P (cond b list (list ++ x ∷ []))) [ true ↦ all | false ↦ All-push P list x all here ]

-- a member that is there
pub any_at : {A : Type 0} (p : A → Bool) (xs : List A) (k : ℕ) (x : A) → slice_get xs k ≡ Some x → p x ≡ true → list_any p xs ≡ true
any_at p [] k x is h = absurd cc
any_at p (y ∷ xs) zero x is h = let same : y ≡ x = cc in or_left (p y) (list_any p xs) (ap p same ∙ h)
any_at p (y ∷ xs) (suc k) x is h = or_right (p y) (list_any p xs) (any_at p xs k x is h)
