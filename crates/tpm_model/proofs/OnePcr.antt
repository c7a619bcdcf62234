-- A mask of one PCR chooses that PCR's value.
use Rattle.std.proofs.Common.{◌≡◌, ℕ, zero, suc, ◌+◌, ◌*◌, ◌/◌, ◌%◌, ◌^◌, ◌<◌, ◌≤◌, ◌==◌, Bool, true, false, cond, ◌&&◌, List, [], ◌∷◌, length, take, drop, refl, sym, ap, ◌∙◌, arith, length-drop}
use Rattle.std.specs.Prelude.{slice_get, Option, None, Some, nat_lt}
use Rattle.std.specs.Option.{option_map}
use Rattle.std.proofs.lemmas.Option.{slice_get_within, slice_get_read, slice_get-map, get_or_from_slice_get}
use Rattle.std.proofs.lemmas.List.{get_or-take, get_or-drop, length-take}
use Rattle.std.proofs.Math.Nat.{pow-succ', mul-mod_right, pow-le-pow_right}
use Rattle.std.proofs.lemmas.Bool.{lt-ltb, ltb-true, ltb-false}
use Rattle.hash_bank.specs.declared.bank.Bank.{Bank}
use Rattle.hash_bank.specs.declared.banks.Banks.{Banks}
use Rattle.hash_bank.specs.Hash.{size_in}
use Rattle.hash_bank.specs.Banks.{has_bank}
use Rattle.tpm_model.specs.Pcrs.{pcr_of, place_of, banks_before, values_of, chosen, HasValues}
use Rattle.tpm_model.proofs.PcrPlaces.{size_at}

chosen-none : (xs : List (List ℕ)) → chosen 0 xs ≡ []
chosen-none [] = refl
chosen-none (x ∷ xs) = chosen-none xs

doubled : (p : ℕ) → 2 ^ suc p ≡ 2 * 2 ^ p
doubled p = pow-succ' 2 p

even : (m : ℕ) → ((2 * m) % 2 == 1) ≡ false
even m = ap (λ k. k == 1) (mul-mod_right 2 m)

half : (m : ℕ) → (2 * m) / 2 ≡ m
half m = omega arith

chosen_twice : (m : ℕ) (x : List ℕ) (xs : List (List ℕ)) → chosen (2 * m) (x ∷ xs) ≡ chosen m xs
chosen_twice m x xs =
    ap (λ b. cond b (x ∷ chosen ((2 * m) / 2) xs) (chosen ((2 * m) / 2) xs)) (even m)
    ∙ ap (λ k. chosen k xs) (half m)

-- the mask 2 ^ p chooses the value at p alone
chosen_one : (p : ℕ) (xs : List (List ℕ)) (v : List ℕ) → slice_get xs p ≡ Some v → chosen (2 ^ p) xs ≡ v ∷ []
chosen_one zero [] v e = cc
chosen_one zero (x ∷ xs) v e = let same : x ≡ v = cc in ap (λ ys. x ∷ ys) (chosen-none xs) ∙ ap (λ y. y ∷ []) same
chosen_one (suc p) [] v e = cc
chosen_one (suc p) (x ∷ xs) v e =
    ap (λ m. chosen m (x ∷ xs)) (doubled p) ∙ chosen_twice (2 ^ p) x xs ∙ chosen_one p xs v e

-- the value of a present bank's PCR among the bank's values
value_within : (banks : Banks) (pcrs : List (List ℕ)) (bank : Bank) (p : ℕ) (v : List ℕ) → p < 24 → slice_get pcrs (place_of banks bank p) ≡ Some v → slice_get (values_of banks pcrs bank) p ≡ Some v
value_within banks pcrs bank p v h e =
    let n = 24 * banks_before banks bank in
    let within : n + p < length pcrs = slice_get_within pcrs (n + p) v e in
    let long : p < length (take 24 (drop n pcrs)) = omega (arith, length-take 24 (drop n pcrs), length-drop n pcrs) in
    slice_get_read (take 24 (drop n pcrs)) (length (take 24 (drop n pcrs))) p v refl long
    (sym (get_or-take 24 (drop n pcrs) p v h ∙ get_or-drop n pcrs p v ∙ get_or_from_slice_get pcrs (n + p) v v e))

-- a PCR of a present bank has a value, and its mask chooses that
pub record HasValue (banks : Banks) (pcrs : List (List ℕ)) (bank : Bank) (p : ℕ) : Type 0 where
  pub value : List ℕ
  pub found : pcr_of banks pcrs bank p ≡ Some value
  pub alone : chosen (2 ^ p) (values_of banks pcrs bank) ≡ value ∷ []

pub present_value : (banks : Banks) (pcrs : List (List ℕ)) (bank : Bank) (p : ℕ) → HasValues banks pcrs → p < 24 → has_bank banks bank ≡ true → HasValue banks pcrs bank p
present_value banks pcrs bank p values below present =
    by (slice_get pcrs (place_of banks bank p)) refl
    (sym (slice_get-map length pcrs (place_of banks bank p)) ∙ ap (λ xs. slice_get xs (place_of banks bank p)) values ∙ size_at banks bank p present below)
  where
    tests : (has_bank banks bank && nat_lt p 24) ≡ true
    tests = ap (λ b. b && nat_lt p 24) present ∙ lt-ltb p 24 below

    by : (o : Option (List ℕ)) → slice_get pcrs (place_of banks bank p) ≡ o → option_map length o ≡ Some (size_in bank) → HasValue banks pcrs bank p
    by None e size = cc
    by (Some value) e size = record {
      value = value;
      found = ap (λ b. cond b (slice_get pcrs (place_of banks bank p)) None) tests ∙ e;
      alone = chosen_one p (values_of banks pcrs bank) value (value_within banks pcrs bank p value below e);
    }

-- what is known where the value is there
pub record IsThere (banks : Banks) (pcrs : List (List ℕ)) (bank : Bank) (p : ℕ) (v : List ℕ) : Type 0 where
  pub present : has_bank banks bank ≡ true
  pub chosen_alone : chosen (2 ^ p) (values_of banks pcrs bank) ≡ v ∷ []

pub there : (banks : Banks) (pcrs : List (List ℕ)) (bank : Bank) (p : ℕ) (v : List ℕ) → p < 24 → pcr_of banks pcrs bank p ≡ Some v → IsThere banks pcrs bank p v
there banks pcrs bank p v h e = by_bank (has_bank banks bank) (nat_lt p 24) refl e
  where
    by_bank : (b c : Bool) → has_bank banks bank ≡ b → cond (b && c) (slice_get pcrs (place_of banks bank p)) None ≡ Some v → IsThere banks pcrs bank p v
    by_bank true true e f = record { present = e; chosen_alone = chosen_one p (values_of banks pcrs bank) v (value_within banks pcrs bank p v h f) }
    by_bank true false e f = cc
    by_bank false c e f = cc

-- where it isn't there, its bank isn't present
pub absent : (banks : Banks) (pcrs : List (List ℕ)) (bank : Bank) (p : ℕ) → HasValues banks pcrs → p < 24 → pcr_of banks pcrs bank p ≡ None → has_bank banks bank ≡ false
absent banks pcrs bank p values h e = by_bank (has_bank banks bank) refl
  where
    none_some : {v : List ℕ} → None ≡ Some v → ⊥
    none_some f = cc

    by_bank : (b : Bool) → has_bank banks bank ≡ b → has_bank banks bank ≡ false
    by_bank true f = let value = present_value banks pcrs bank p values h f in absurd (none_some (sym e ∙ value.found))
    by_bank false f = f

-- a mask of 24 bits that selects one PCR selects one of 24
pub one_of_24 : (p : ℕ) → 2 ^ p < 2 ^ 24 → p < 24
one_of_24 p small = by_order (nat_lt p 24) refl
  where
    by_order : (b : Bool) → nat_lt p 24 ≡ b → p < 24
    by_order true e = ltb-true p 24 e
    by_order false e =
        let past : 24 ≤ p = ltb-false p 24 e in
        let large : 2 ^ 24 ≤ 2 ^ p = pow-le-pow_right {n = 2} (omega arith) {i = 24} {j = p} past in
        absurd (omega arith)
