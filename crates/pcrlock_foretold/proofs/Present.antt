-- The values that were read are those that the asked PCRs hold.
use Rattle.std.proofs.Common.{◌≡◌, ℕ, zero, suc, ◌+◌, ◌<◌, Bool, true, cond, List, [], ◌∷◌, get_or, map, refl, sym, ap, ◌∙◌, subst, arith, Contains}
use Rattle.std.specs.Prelude.{Option, None, Some}
use Rattle.std.specs.List.{range_with_len}
use Rattle.std.specs.Option.{option_map}
use Rattle.std.proofs.lemmas.List.Elements.{All-contains, filter_passes}
use Rattle.hash_bank.specs.declared.bank.Bank.{Bank}
use Rattle.hash_bank.specs.Hash.{zeros_in}
use Rattle.pcr_replay.specs.Measured.{all_present}
use Rattle.policy_digest.specs.Mask.{has_pcr, pcrs_of}
use Rattle.predict_proof.proofs.Members.{range_from}
use Rattle.forecasts.proofs.Found.{filter_from}
use Rattle.tpm_model.specs.declared.parts.Parts.{Parts}
use Rattle.tpm_model.specs.Pcrs.{pcr_of}
use Rattle.pcrlock_predict.specs.Present.{asked_value, present_of}

-- ---- what is there at each place

module _ (f : ℕ → Option (List ℕ)) where
  abbrev From : ℕ → ℕ → Option (List (List ℕ))
  From a n = all_present (map f (range_with_len a n))

  module _ (a n : ℕ) (later : (q : ℕ) (xs : List (List ℕ)) → From (a + 1) n ≡ Some xs → q < n → f (a + 1 + q) ≡ Some (get_or xs q [])) where
    by_place : (x : List ℕ) (xs : List (List ℕ)) (q : ℕ) → f a ≡ Some x → From (a + 1) n ≡ Some xs → q < suc n → f (a + q) ≡ Some (get_or (x ∷ xs) q [])
    by_place x xs zero first rest lt = let here : a + 0 ≡ a = omega arith in ap f here ∙ first
    by_place x xs (suc q) first rest lt = let here : a + suc q ≡ a + 1 + q = omega arith in ap f here ∙ later q xs rest (omega (arith, lt))

    by_rest : (x : List ℕ) (rest : Option (List (List ℕ))) (q : ℕ) (values : List (List ℕ)) → f a ≡ Some x → From (a + 1) n ≡ rest → option_map (λ xs. x ∷ xs) rest ≡ Some values → q < suc n
        → f (a + q) ≡ Some (get_or values q [])
    by_rest x None q values first is e lt = absurd (cc e)
    by_rest x (Some xs) q values first is e lt =
        let same : x ∷ xs ≡ values = cc in
        subst (λ (vs : List (List ℕ)). f (a + q) ≡ Some (get_or vs q [])) same (by_place x xs q first is lt)

    by_first : (o : Option (List ℕ)) (q : ℕ) (values : List (List ℕ)) → f a ≡ o → all_present (o ∷ map f (range_with_len (a + 1) n)) ≡ Some values → q < suc n → f (a + q) ≡ Some (get_or values q [])
    by_first None q values first e lt = absurd (cc e)
    by_first (Some x) q values first e lt = by_rest x (From (a + 1) n) q values first refl e lt

  at_each : (n a q : ℕ) (xs : List (List ℕ)) → From a n ≡ Some xs → q < n → f (a + q) ≡ Some (get_or xs q [])
  at_each zero a q xs e lt = absurd (omega (arith, lt))
  at_each (suc n) a q xs e lt = by_first a n (λ r ys g less. at_each n (a + 1) r ys g less) (f a) q xs refl e lt

-- ---- the PCRs that are asked for

-- each of a mask is one of the 24, and has its bit
pub asked_pcr : (mask p : ℕ) → Contains (pcrs_of mask) p → (p < 24) × (has_pcr mask p ≡ true)
unfolding pcrs_of
asked_pcr mask p h =
    let there = range_from 0 24 p (filter_from (has_pcr mask) (range_with_len 0 24) p h) in
    (omega (arith, there.1), All-contains (λ (q : ℕ). has_pcr mask q ≡ true) (pcrs_of mask) p (filter_passes (has_pcr mask) (range_with_len 0 24)) h)

pub asked_holds : (bank : Bank) (mask : ℕ) (s : Parts) (now : List (List ℕ)) → present_of bank mask s ≡ Some now → (p : ℕ) → Contains (pcrs_of mask) p
    → pcr_of s.banks s.pcrs bank p ≡ Some (get_or now p [])
unfolding present_of
asked_holds bank mask s now e p h =
    let known = asked_pcr mask p h in
    let place : 0 + p ≡ p = omega arith in
    let there : asked_value bank mask s p ≡ Some (get_or now p []) =
    subst (λ q. asked_value bank mask s q ≡ Some (get_or now p [])) place (at_each (asked_value bank mask s) 24 0 p now e known.0) in
    ap (λ b. cond b (pcr_of s.banks s.pcrs bank p) (Some (zeros_in bank))) (sym known.1) ∙ there
