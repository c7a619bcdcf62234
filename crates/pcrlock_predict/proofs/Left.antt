-- The values of the PCRs that are still to be read.
use Rattle.std.proofs.Common.{◌≡◌, ℕ, ◌+◌, ◌-◌, ◌<◌, suc, List, [], ◌∷◌, ◌++◌, map, refl, sym, ap, ◌∙◌, append_assoc, append-nil, arith}
use Rattle.std.specs.Prelude.{Option, None, Some}
use Rattle.std.specs.Option.{option_map}
use Rattle.std.specs.List.{range_with_len}
use Rattle.hash_bank.specs.declared.bank.Bank.{Bank}
use Rattle.pcr_replay.specs.Measured.{all_present}
use Rattle.tpm_model.specs.declared.parts.Parts.{Parts}
use Rattle.pcrlock_predict.specs.Present.{asked_value, present_of}

-- the values of the PCRs from this one on
unfoldable pub values_left : Bank → ℕ → Parts → ℕ → Option (List (List ℕ))
values_left bank asked s pcr = all_present (map (asked_value bank asked s) (range_with_len pcr (24 - pcr)))

-- some values before those, if they are there
abbrev pub before : List (List ℕ) → Option (List (List ℕ)) → Option (List (List ℕ))
before values left = option_map (λ rest. values ++ rest) left

before_nothing : (o : Option (List (List ℕ))) → o ≡ before [] o
before_nothing None = refl
before_nothing (Some values) = refl

pub left_first : (bank : Bank) (asked : ℕ) (s : Parts) → present_of bank asked s ≡ before [] (values_left bank asked s 0)
unfolding present_of values_left
left_first bank asked s = before_nothing _

-- the next of them
range_next : (pcr : ℕ) → pcr < 24 → range_with_len pcr (24 - pcr) ≡ pcr ∷ range_with_len (pcr + 1) (24 - (pcr + 1))
range_next pcr lt = let more : 24 - pcr ≡ suc (24 - (pcr + 1)) = omega arith in ap (range_with_len pcr) more

left_next : (bank : Bank) (asked : ℕ) (s : Parts) (pcr : ℕ) → pcr < 24
    → values_left bank asked s pcr ≡ all_present (asked_value bank asked s pcr ∷ map (asked_value bank asked s) (range_with_len (pcr + 1) (24 - (pcr + 1))))
unfolding values_left
left_next bank asked s pcr lt = ap (λ (ps : List ℕ). all_present (map (asked_value bank asked s) ps)) (range_next pcr lt)

left_from : (bank : Bank) (asked : ℕ) (s : Parts) (pcr : ℕ) → all_present (map (asked_value bank asked s) (range_with_len pcr (24 - pcr))) ≡ values_left bank asked s pcr
unfolding values_left
left_from bank asked s pcr = refl

one_more : (values : List (List ℕ)) (value : List ℕ) (o : Option (List (List ℕ))) → before values (option_map (λ rest. value ∷ rest) o) ≡ before (values ++ value ∷ []) o
one_more values value None = refl
one_more values value (Some rest) = ap Some (simp append_assoc)

-- one value more was read
pub left_read : (bank : Bank) (asked : ℕ) (s : Parts) (pcr : ℕ) (values : List (List ℕ)) (value : List ℕ) → pcr < 24
    → present_of bank asked s ≡ before values (values_left bank asked s pcr) → Some value ≡ asked_value bank asked s pcr
    → present_of bank asked s ≡ before (values ++ value ∷ []) (values_left bank asked s (pcr + 1))
left_read bank asked s pcr values value lt whole is =
    let rest = map (asked_value bank asked s) (range_with_len (pcr + 1) (24 - (pcr + 1))) in
    whole
    ∙ ap (before values) (left_next bank asked s pcr lt ∙ ap (λ (o : Option (List ℕ)). all_present (o ∷ rest)) (sym is))
    ∙ one_more values value (all_present rest)
    ∙ ap (before (values ++ value ∷ [])) (left_from bank asked s (pcr + 1))

-- one has none
pub left_absent : (bank : Bank) (asked : ℕ) (s : Parts) (pcr : ℕ) (values : List (List ℕ)) → pcr < 24
    → present_of bank asked s ≡ before values (values_left bank asked s pcr) → None ≡ asked_value bank asked s pcr
    → None ≡ present_of bank asked s
left_absent bank asked s pcr values lt whole is =
    let rest = map (asked_value bank asked s) (range_with_len (pcr + 1) (24 - (pcr + 1))) in
    sym (whole ∙ ap (before values) (left_next bank asked s pcr lt ∙ ap (λ (o : Option (List ℕ)). all_present (o ∷ rest)) (sym is)))

-- all were read
pub left_none : (bank : Bank) (asked : ℕ) (s : Parts) (pcr : ℕ) (values : List (List ℕ)) → pcr ≡ 24
    → present_of bank asked s ≡ before values (values_left bank asked s pcr) → Some values ≡ present_of bank asked s
left_none bank asked s pcr values end whole =
    sym (whole ∙ ap (λ (p : ℕ). before values (values_left bank asked s p)) end ∙ ap (before values) (sym (left_from bank asked s 24)) ∙ ap Some (append-nil values))
