-- The index of a handle, where indices are written, defined and taken away.
use Rattle.std.proofs.Common.{◌≡◌, ℕ, suc, ◌+◌, ◌<◌, ◌==◌, Bool, true, false, cond, not, List, [], ◌∷◌, map, set, refl, sym, ap, subst, ◌∙◌, arith}
use Rattle.std.specs.Prelude.{slice_get, remove, nat_lt, None, Some}
use Rattle.std.specs.List.{AllByRecursion, find}
use Rattle.std.proofs.lemmas.Bool.{cond_both, eq-eqb, eqb-false, eqb-true}
use Rattle.nv_index.specs.Table.{index_at, index_place, is_index, with_index}
use Rattle.nv_index.specs.declared.index.Index.{Index}
use Rattle.nv_index.proofs.Handles.{AreHandles}

-- the index at the first place is the first that is found
pub find_index : (q : ℕ) (xs : List Index) → index_at q xs ≡ find (is_index q) xs
find_index q [] = refl
find_index q (x ∷ xs) =
    elim (x.public.handle == q) as (λ b. slice_get (x ∷ xs) (cond (not b) (1 + index_place q xs) 0) ≡ cond b (Some x) (find (is_index q) xs)) [
      | true ↦ refl
      | false ↦ ap (slice_get (x ∷ xs)) (next (index_place q xs)) ∙ find_index q xs
    ]
  where
    next : (n : ℕ) → 1 + n ≡ suc n
    next n = omega arith

-- the index that is found has the handle
pub found_handle : (q : ℕ) (xs : List Index) (x : Index) → index_at q xs ≡ Some x → x.public.handle ≡ q
found_handle q xs x e = go xs (sym (find_index q xs) ∙ e)
  where
    go : (ys : List Index) → find (is_index q) ys ≡ Some x → x.public.handle ≡ q
    go [] f = cc
    go (y ∷ ys) f =
        elim (y.public.handle == q) as (λ b. (y.public.handle == q) ≡ b → cond b (Some y) (find (is_index q) ys) ≡ Some x → x.public.handle ≡ q) [
          | true ↦ λ t g. let same : y ≡ x = cc in sym (ap (λ (z : Index). z.public.handle) same) ∙ eqb-true y.public.handle q t
          | false ↦ λ _ g. go ys g
        ] refl f

-- a test of a handle that isn't the other
unequal : (a b : ℕ) → (a ≡ b → ⊥) → (a == b) ≡ false
unequal a b other = by_test (a == b) refl
  where
    by_test : (t : Bool) → (a == b) ≡ t → t ≡ false
    by_test true e = absurd (other (eqb-true a b e))
    by_test false e = refl

next_place : (n : ℕ) → suc n ≡ 1 + n
next_place n = omega arith

-- an index of another handle, where one was taken away
removed_other : (gone q : ℕ) (xs : List Index) → (q ≡ gone → ⊥) → find (is_index q) (remove xs (index_place gone xs)) ≡ find (is_index q) xs
removed_other gone q [] other = refl
removed_other gone q (x ∷ xs) other =
    elim (x.public.handle == gone) as (λ b. (x.public.handle == gone) ≡ b → find (is_index q) (remove (x ∷ xs) (cond (not b) (1 + index_place gone xs) 0)) ≡ find (is_index q) (x ∷ xs)) [
      | true ↦ λ e. sym (ap (λ b. cond b (Some x) (find (is_index q) xs)) (unequal x.public.handle q (λ h. other (sym h ∙ eqb-true x.public.handle gone e))))
      | false ↦ λ e. ap (λ n. find (is_index q) (remove (x ∷ xs) n)) (sym (next_place (index_place gone xs)))
          ∙ ap (λ o. cond (x.public.handle == q) (Some x) o) (removed_other gone q xs other)
    ] refl

pub removed_at_other : (gone q : ℕ) (xs : List Index) → (q ≡ gone → ⊥) → index_at q (remove xs (index_place gone xs)) ≡ index_at q xs
removed_at_other gone q xs other = find_index q (remove xs (index_place gone xs)) ∙ removed_other gone q xs other ∙ sym (find_index q xs)

-- handles past one aren't that one
past : (low end gone : ℕ) (xs : List Index) → AreHandles low end (map (λ (x : Index). x.public.handle) xs) → gone < low → AllByRecursion (λ (x : Index). x.public.handle ≡ gone → ⊥) xs
past low end gone [] order below = tt
past low end gone (x ∷ xs) order below =
    ((λ e. omega (arith, order.0, e)), past (x.public.handle + 1) end gone xs order.2 (omega (arith, order.0)))

-- no index that is left has the handle
pub none_left : (low end gone : ℕ) (xs : List Index) → AreHandles low end (map (λ (x : Index). x.public.handle) xs)
    → AllByRecursion (λ (x : Index). x.public.handle ≡ gone → ⊥) (remove xs (index_place gone xs))
none_left low end gone [] order = tt
none_left low end gone (x ∷ xs) order =
    elim (x.public.handle == gone) as (λ b. (x.public.handle == gone) ≡ b → AllByRecursion (λ (y : Index). y.public.handle ≡ gone → ⊥) (remove (x ∷ xs) (cond (not b) (1 + index_place gone xs) 0))) [
      | true ↦ λ e. past (x.public.handle + 1) end gone xs order.2 (let same : x.public.handle ≡ gone = eqb-true x.public.handle gone e in omega arith)
      | false ↦ λ e. subst (λ n. AllByRecursion (λ (y : Index). y.public.handle ≡ gone → ⊥) (remove (x ∷ xs) n)) (next_place (index_place gone xs))
          (eqb-false x.public.handle gone e, none_left (x.public.handle + 1) end gone xs order.2)
    ] refl

-- so none is found
none_of : (gone : ℕ) (xs : List Index) → AllByRecursion (λ (x : Index). x.public.handle ≡ gone → ⊥) xs → find (is_index gone) xs ≡ None
none_of gone [] all = refl
none_of gone (x ∷ xs) all = ap (λ b. cond b (Some x) (find (is_index gone) xs)) (unequal x.public.handle gone all.0) ∙ none_of gone xs all.1

pub removed_at : (low end gone : ℕ) (xs : List Index) → AreHandles low end (map (λ (x : Index). x.public.handle) xs) → index_at gone (remove xs (index_place gone xs)) ≡ None
removed_at low end gone xs order = find_index gone (remove xs (index_place gone xs)) ∙ none_of gone (remove xs (index_place gone xs)) (none_left low end gone xs order)

-- another index of the handle in place of the one that is found
set_found : (h q : ℕ) (y : Index) (xs : List Index) → y.public.handle ≡ h → (q ≡ h → ⊥) → find (is_index q) (set xs (index_place h xs) y) ≡ find (is_index q) xs
set_found h q y [] is other = refl
set_found h q y (x ∷ xs) is other =
    elim (x.public.handle == h) as (λ b. (x.public.handle == h) ≡ b → find (is_index q) (set (x ∷ xs) (cond (not b) (1 + index_place h xs) 0) y) ≡ find (is_index q) (x ∷ xs)) [
      | true ↦ λ e. ap (λ b. cond b (Some y) (find (is_index q) xs)) (unequal y.public.handle q (λ k. other (sym k ∙ is)))
          ∙ sym (ap (λ b. cond b (Some x) (find (is_index q) xs)) (unequal x.public.handle q (λ k. other (sym k ∙ eqb-true x.public.handle h e))))
      | false ↦ λ e. ap (λ n. find (is_index q) (set (x ∷ xs) n y)) (sym (next_place (index_place h xs)))
          ∙ ap (λ o. cond (x.public.handle == q) (Some x) o) (set_found h q y xs is other)
    ] refl

pub set_at_other : (h q : ℕ) (y : Index) (xs : List Index) → y.public.handle ≡ h → (q ≡ h → ⊥) → index_at q (set xs (index_place h xs) y) ≡ index_at q xs
set_at_other h q y xs is other = find_index q (set xs (index_place h xs) y) ∙ set_found h q y xs is other ∙ sym (find_index q xs)

set_same : (h : ℕ) (x y : Index) (xs : List Index) → y.public.handle ≡ h → find (is_index h) xs ≡ Some x → find (is_index h) (set xs (index_place h xs) y) ≡ Some y
set_same h x y [] is e = cc
set_same h x y (z ∷ zs) is e =
    elim (z.public.handle == h) as (λ b. (z.public.handle == h) ≡ b → cond b (Some z) (find (is_index h) zs) ≡ Some x → find (is_index h) (set (z ∷ zs) (cond (not b) (1 + index_place h zs) 0) y) ≡ Some y) [
      | true ↦ λ _ _. ap (λ b. cond b (Some y) (find (is_index h) zs)) (eq-eqb y.public.handle h is)
      | false ↦ λ t f. ap (λ n. find (is_index h) (set (z ∷ zs) n y)) (sym (next_place (index_place h zs)))
          ∙ ap (λ b. cond b (Some z) (find (is_index h) (set zs (index_place h zs) y))) t ∙ set_same h x y zs is f
    ] refl e

pub set_at : (h : ℕ) (x y : Index) (xs : List Index) → y.public.handle ≡ h → index_at h xs ≡ Some x → index_at h (set xs (index_place h xs) y) ≡ Some y
set_at h x y xs is e = find_index h (set xs (index_place h xs) y) ∙ set_same h x y xs is (sym (find_index h xs) ∙ e)

-- one more index
with_other : (q : ℕ) (y : Index) (xs : List Index) → (y.public.handle ≡ q → ⊥) → find (is_index q) (with_index y xs) ≡ find (is_index q) xs
with_other q y [] other = ap (λ b. cond b (Some y) None) (unequal y.public.handle q other)
with_other q y (x ∷ xs) other =
    cond_both (nat_lt y.public.handle x.public.handle) _ _ (λ ys. find (is_index q) ys ≡ find (is_index q) (x ∷ xs))
    (λ _. ap (λ b. cond b (Some y) (find (is_index q) (x ∷ xs))) (unequal y.public.handle q other))
    (λ _. ap (λ o. cond (x.public.handle == q) (Some x) o) (with_other q y xs other))

pub with_at_other : (q : ℕ) (y : Index) (xs : List Index) → (y.public.handle ≡ q → ⊥) → index_at q (with_index y xs) ≡ index_at q xs
with_at_other q y xs other = find_index q (with_index y xs) ∙ with_other q y xs other ∙ sym (find_index q xs)

with_same : (y : Index) (xs : List Index) → find (is_index y.public.handle) xs ≡ None → find (is_index y.public.handle) (with_index y xs) ≡ Some y
with_same y [] e = ap (λ b. cond b (Some y) None) (eq-eqb y.public.handle y.public.handle refl)
with_same y (x ∷ xs) e =
    cond_both (nat_lt y.public.handle x.public.handle) _ _ (λ ys. find (is_index y.public.handle) ys ≡ Some y)
    (λ _. ap (λ b. cond b (Some y) (find (is_index y.public.handle) (x ∷ xs))) (eq-eqb y.public.handle y.public.handle refl))
    (λ _. elim (x.public.handle == y.public.handle) as (λ b. cond b (Some x) (find (is_index y.public.handle) xs) ≡ None → cond b (Some x) (find (is_index y.public.handle) (with_index y xs)) ≡ Some y) [
      | true ↦ λ f. cc
      | false ↦ λ f. with_same y xs f
    ] e)

pub with_at : (y : Index) (xs : List Index) → index_at y.public.handle xs ≡ None → index_at y.public.handle (with_index y xs) ≡ Some y
with_at y xs e = find_index y.public.handle (with_index y xs) ∙ with_same y xs (sym (find_index y.public.handle xs) ∙ e)
