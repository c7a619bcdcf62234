-- Members of a list, and what holds of each.
use Rattle.std.proofs.Common.{ℕ, zero, suc, ◌<◌, List, [], ◌∷◌, length, refl, subst, arith, Contains}
use Rattle.std.specs.Prelude.{nat_lt, slice_index_or}
use Rattle.std.specs.List.{AllByRecursion}
use Rattle.std.proofs.lemmas.Bool.{cond_both}
use Rattle.nv_index.specs.Table.{with_index}
use Rattle.nv_index.specs.declared.index.Index.{Index}

there : {A : Type 0} (x : A) (xs : List A) (y : A) → Contains xs y → Contains (x ∷ xs) y
there x xs y h = (suc h.0, omega (arith, h.1), h.2)

pub all_of : {A : Type 0} (P : A → Type 0) (xs : List A) → ((x : A) → Contains xs x → P x) → AllByRecursion P xs
all_of P [] f = tt
all_of P (x ∷ xs) f = (f x (0, omega arith, refl), all_of P xs (λ y h. f y (there x xs y h)))

nth : {A : Type 0} (P : A → Type 0) (xs : List A) (k : ℕ) (d : A) → AllByRecursion P xs → k < length xs → P (slice_index_or xs k d)
nth P [] k d all h = absurd (omega arith)
nth P (x ∷ xs) zero d all h = all.0
nth P (x ∷ xs) (suc k) d all h = nth P xs k d all.1 (omega (arith, h))

pub member : {A : Type 0} (P : A → Type 0) (xs : List A) (y : A) → AllByRecursion P xs → Contains xs y → P y
member P xs y all h = subst P h.2 (nth P xs h.0 y all h.1)

-- one more index
pub all_with : (P : Index → Type 0) (y : Index) (xs : List Index) → AllByRecursion P xs → P y → AllByRecursion P (with_index y xs)
all_with P y [] all h = (h, tt)
all_with P y (x ∷ xs) all h =
    cond_both (nat_lt y.public.handle x.public.handle) _ _ (AllByRecursion P) (λ _. (h, all)) (λ _. (all.0, all_with P y xs all.1 h))
