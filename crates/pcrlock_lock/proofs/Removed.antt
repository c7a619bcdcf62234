-- What several removals come to.
use Rattle.std.proofs.Common.{◌≡◌, ◌⊎◌, ◌+◌, ℕ, Bool, true, false, List, [], ◌∷◌, length, inl, inr, refl, ap, sym, ◌∙◌, subst, suc, arith}
use Rattle.std.specs.Prelude.{Option, Some, None, is_some, if◌then◌else◌}
use Rattle.std.specs.FinMap.{get, remove}
use Rattle.std.proofs.lemmas.Bool.{cases_Bool}
use Rattle.pl_base.specs.FileMap.{FileMap}
use Rattle.pl_base.proofs.HeldFiles.{remove-absent}
use Rattle.pcrlock_deeds.specs.Acts.{FileStep, Removed, files_then, files_between}
use Rattle.pcrlock_deeds.specs.Deed.{keeps}
use Rattle.pcrlock_lock.specs.Between.{HoldsOneOf}
use Rattle.pcrlock_lock.specs.UnlockFirmware.{counted, removals}
use Rattle.pcrlock_lock.proofs.Done.{first_between}

is_none : {X : Type 0} (o : Option X) → is_some o ≡ false → o ≡ None
is_none None e = refl
is_none (Some x) e = absurd (cc e)

-- a path at which no file stands is passed over
passed : (files : FileMap) (path : List ℕ) (more : List (List ℕ)) → is_some (get files path) ≡ false
    → removals (path ∷ more) files ≡ removals more (remove files path)
passed files path more e =
    ap (λ b. if b then Removed path keeps ∷ removals more (remove files path) else removals more files) e
    ∙ ap (λ f. removals more f) (sym (remove-absent files path (is_none (get files path) e)))

taken : (files : FileMap) (path : List ℕ) (more : List (List ℕ)) → is_some (get files path) ≡ true
    → removals (path ∷ more) files ≡ Removed path keeps ∷ removals more (remove files path)
taken files path more e =
    ap (λ b. if b then Removed path keeps ∷ removals more (remove files path) else removals more files) e

count_true : (b : Bool) (n : ℕ) → b ≡ true → suc n ≡ (if b then 1 else 0) + n
count_true true n e = omega arith
count_true false n e = absurd (cc e)

count_false : (b : Bool) (n : ℕ) → b ≡ false → n ≡ (if b then 1 else 0) + n
count_false true n e = absurd (cc e)
count_false false n e = omega arith

-- one path, and then the others
pub one_more : (files : FileMap) (path : List ℕ) (more : List (List ℕ))
    → length (removals (path ∷ more) files) ≡ (if is_some (get files path) then 1 else 0) + length (removals more (remove files path))
one_more files path more =
    elim (cases_Bool (is_some (get files path))) [
      | inl e ↦ ap (λ (l : List FileStep). length l) (taken files path more e)
          ∙ count_true (is_some (get files path)) (length (removals more (remove files path))) e
      | inr e ↦ ap (λ (l : List FileStep). length l) (passed files path more e)
          ∙ count_false (is_some (get files path)) (length (removals more (remove files path))) e
    ]

pub then_more : (files : FileMap) (path : List ℕ) (more : List (List ℕ))
    → files_then (removals (path ∷ more) files) files ≡ files_then (removals more (remove files path)) (remove files path)
then_more files path more =
    elim (cases_Bool (is_some (get files path))) [
      | inl e ↦ ap (λ (l : List FileStep). files_then l files) (taken files path more e)
      | inr e ↦ ap (λ (l : List FileStep). files_then l files) (passed files path more e)
          ∙ ap (files_then (removals more (remove files path))) (sym (remove-absent files path (is_none (get files path) e)))
    ]

pub between_more : (now : Option FileMap) (files : FileMap) (path : List ℕ) (more : List (List ℕ))
    → HoldsOneOf now (files_between (removals more (remove files path)) (remove files path))
    → HoldsOneOf now (files_between (removals (path ∷ more) files) files)
between_more now files path more h =
    elim (cases_Bool (is_some (get files path))) [
      | inl e ↦ subst (λ (l : List FileStep). HoldsOneOf now (files_between l files)) (sym (taken files path more e)) (inr h)
      | inr e ↦ subst (λ (l : List FileStep). HoldsOneOf now (files_between l files)) (sym (passed files path more e))
          (subst (λ (f : FileMap). HoldsOneOf now (files_between (removals more (remove files path)) f)) (remove-absent files path (is_none (get files path) e)) h)
    ]

-- two paths
pub counted_two : (files : FileMap) (first second : List ℕ) (was other : Bool) → was ≡ is_some (get files first) → other ≡ is_some (get (remove files first) second)
    → counted was other ≡ length (removals (first ∷ second ∷ []) files)
counted_two files first second was other w o =
    let a = one_more files first (second ∷ []) in
    let b = one_more (remove files first) second [] in
    let e : counted was other ≡ counted (is_some (get files first)) (is_some (get (remove files first) second)) = ap (λ x. counted x other) w ∙ ap (counted (is_some (get files first))) o in
    omega (arith, a, b, e)

pub then_two : (files : FileMap) (first second : List ℕ) → files_then (removals (first ∷ second ∷ []) files) files ≡ remove (remove files first) second
then_two files first second = then_more files first (second ∷ []) ∙ then_more (remove files first) second []

pub between_two : (now : Option FileMap) (files : FileMap) (first second : List ℕ)
    → (now ≡ Some (remove files first)) ⊎ (now ≡ Some (remove (remove files first) second))
    → HoldsOneOf now (files_between (removals (first ∷ second ∷ []) files) files)
between_two now files first second (inl e) = between_more now files first (second ∷ []) (first_between now (removals (second ∷ []) (remove files first)) (remove files first) e)
between_two now files first second (inr e) = between_more now files first (second ∷ []) (between_more now (remove files first) second [] (inl e))

pub between_first : (now : Option FileMap) (files : FileMap) (first second : List ℕ) → (now ≡ Some files) ⊎ (now ≡ Some (remove files first))
    → HoldsOneOf now (files_between (removals (first ∷ second ∷ []) files) files)
between_first now files first second (inl e) = first_between now (removals (first ∷ second ∷ []) files) files e
between_first now files first second (inr e) = between_two now files first second (inl e)
