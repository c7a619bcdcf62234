-- The values that a mask chooses are those of its PCRs.
use Rattle.std.proofs.Common.{◌≡◌, ℕ, suc, ◌+◌, ◌*◌, ◌/◌, ◌^◌, ◌<◌, Bool, true, false, cond, List, [], ◌∷◌, map, length, get_or, drop, refl, sym, ap, ap₂, ◌∙◌, arith, length-drop}
use Rattle.std.specs.Prelude.{filter, Option, Some}
use Rattle.std.specs.List.{All, range_with_len}
use Rattle.std.proofs.lemmas.List.{get_or-take, get_or-drop, length-take}
use Rattle.std.proofs.lemmas.List.Elements.{All-cons, All-nil}
use Rattle.std.proofs.lemmas.Option.{get_or_from_slice_get}
use Rattle.std.proofs.Math.Nat.{div-div-eq-div-mul, pow-succ'}
use Rattle.hash_bank.specs.declared.bank.Bank.{Bank}
use Rattle.hash_bank.specs.declared.banks.Banks.{Banks}
use Rattle.hash_bank.specs.Banks.{has_bank}
use Rattle.hash_bank.specs.Hash.{size_in}
use Rattle.policy_digest.specs.Mask.{has_pcr, pcrs_of}
use Rattle.tpm_model.specs.Pcrs.{banks_before, chosen, pcr_of, values_of, HasValues}
use Rattle.tpm_model.proofs.OnePcr.{present_value}
use Rattle.tpm_model.proofs.PcrPlaces.{value_at}

module _ (mask : ℕ) (f : ℕ → Option (List ℕ)) where
  half : (p : ℕ) → mask / 2 ^ p / 2 ≡ mask / 2 ^ (p + 1)
  half p = div-div-eq-div-mul mask (2 ^ p) 2 ∙ ap (λ k. mask / k) (twice (2 ^ p) ∙ sym (pow-succ' 2 p) ∙ ap (λ k. 2 ^ k) (next p))
    where
      twice : (n : ℕ) → n * 2 ≡ 2 * n
      twice n = omega arith

      next : (n : ℕ) → suc n ≡ n + 1
      next n = omega arith

  -- from one PCR on
  picked : (p : ℕ) (values : List (List ℕ)) → ((i : ℕ) → i < length values → f (p + i) ≡ Some (get_or values i []))
      → map f (filter (has_pcr mask) (range_with_len p (length values))) ≡ map Some (chosen (mask / 2 ^ p) values)
  picked p [] each = refl
  picked p (value ∷ values) each = by (has_pcr mask p) (picked (p + 1) values later ∙ ap (λ m. map Some (chosen m values)) (sym (half p)))
    where
      later : (i : ℕ) → i < length values → f (p + 1 + i) ≡ Some (get_or values i [])
      later i within =
          let next : p + 1 + i ≡ p + suc i = omega arith in
          let inside : suc i < length (value ∷ values) = omega (arith, within) in
          ap f next ∙ each (suc i) inside

      first : f p ≡ Some value
      first = let none : p ≡ p + 0 = omega arith in ap f none ∙ each 0 (omega arith)

      by : (b : Bool) → map f (filter (has_pcr mask) (range_with_len (p + 1) (length values))) ≡ map Some (chosen (mask / 2 ^ p / 2) values)
          → map f (cond b (p ∷ filter (has_pcr mask) (range_with_len (p + 1) (length values))) (filter (has_pcr mask) (range_with_len (p + 1) (length values))))
          ≡ map Some (cond b (value ∷ chosen (mask / 2 ^ p / 2) values) (chosen (mask / 2 ^ p / 2) values))
      by true rest = ap₂ (λ (x : Option (List ℕ)) (xs : List (Option (List ℕ))). x ∷ xs) first rest
      by false rest = rest

-- what holds of each value holds of those that are chosen
module _ (P : List ℕ → Type 0) where
  all_chosen : (mask : ℕ) (values : List (List ℕ)) → ((i : ℕ) → i < length values → P (get_or values i [])) → All P (chosen mask values)
  all_chosen mask [] each = All-nil P
  all_chosen mask (value ∷ values) each = by _ (all_chosen (mask / 2) values (λ i within. each (suc i) (omega (arith, within))))
    where
      by : (b : Bool) → All P (chosen (mask / 2) values) → All P (cond b (value ∷ chosen (mask / 2) values) (chosen (mask / 2) values))
      by true later = All-cons P value (chosen (mask / 2) values) (each 0 (omega arith)) later
      by false later = later

module _ (banks : Banks) (pcrs : List (List ℕ)) (bank : Bank) (has : HasValues banks pcrs) (present : has_bank banks bank ≡ true) where
  -- a value of a present bank, at its place
  record IsAt (p : ℕ) : Type 0 where
    found : pcr_of banks pcrs bank p ≡ Some (get_or (values_of banks pcrs bank) p [])
    size : length (get_or (values_of banks pcrs bank) p []) ≡ size_in bank
    within : 24 * banks_before banks bank + p < length pcrs

  at_place : (p : ℕ) → p < 24 → IsAt p
  at_place p below =
      let there = present_value banks pcrs bank p has below present in
      let known = value_at banks pcrs bank p there.value has there.found in
      let n = 24 * banks_before banks bank in
      let same : get_or (values_of banks pcrs bank) p [] ≡ there.value =
      get_or-take 24 (drop n pcrs) p [] below ∙ get_or-drop n pcrs p [] ∙ get_or_from_slice_get pcrs (n + p) there.value [] known.found in
      record { found = there.found ∙ ap Some (sym same); size = ap length same ∙ known.size; within = known.within }

  count : length (values_of banks pcrs bank) ≡ 24
  count =
      let n = 24 * banks_before banks bank in
      let last : n + 23 < length pcrs = (at_place 23 (omega arith)).within in
      omega (arith, last, length-take 24 (drop n pcrs), length-drop n pcrs)

  -- the chosen values are those of the mask's PCRs
  pub chosen_values : (mask : ℕ) → map (pcr_of banks pcrs bank) (pcrs_of mask) ≡ map Some (chosen mask (values_of banks pcrs bank))
  unfolding pcrs_of
  chosen_values mask =
      let values = values_of banks pcrs bank in
      let one : mask / 1 ≡ mask = omega arith in
      ap (λ n. map (pcr_of banks pcrs bank) (filter (has_pcr mask) (range_with_len 0 n))) (sym count)
      ∙ picked mask (pcr_of banks pcrs bank) 0 values (λ i within. let none : 0 + i ≡ i = omega arith in ap (pcr_of banks pcrs bank) none ∙ (at_place i (omega (arith, within, count))).found)
      ∙ ap (λ m. map Some (chosen m values)) one

  -- each with the size of the bank's digests
  pub chosen_sizes : (mask : ℕ) → All (λ (value : List ℕ). length value ≡ size_in bank) (chosen mask (values_of banks pcrs bank))
  chosen_sizes mask =
      all_chosen (λ (value : List ℕ). length value ≡ size_in bank) mask (values_of banks pcrs bank) (λ i within. (at_place i (omega (arith, within, count))).size)
