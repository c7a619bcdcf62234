-- The chosen variants, component after component.
use Rattle.std.proofs.Common.{◌≡◌, ℕ, zero, suc, ◌+◌, ◌<◌, Bool, true, false, ◌&&◌, ◌||◌, ltb, List, [], ◌∷◌, ◌++◌, length, get_or, drop, Option, Some, None, refl, sym, ap, ◌∙◌, inl, inr, add-one}
use Rattle.std.specs.Prelude.{slice_get, ◌⊎◌}
use Rattle.std.specs.List.{flat_map, list_any}
use Rattle.std.specs.Option.{option_to_list}
use Rattle.hash_bank.specs.declared.bank.Bank.{Bank}
use Rattle.component_tree.specs.declared.tree.Component.{Component}
use Rattle.component_tree.specs.PlainTree.{PlainVariant, PlainComponent, plain, plain_component}
use Rattle.pcr_replay.specs.Measured.{extended_by}
use Rattle.record_match.specs.Choices.{chosen}
use Rattle.record_match.specs.Extends.{digests_in, variants_of}
use Rattle.record_match.proofs.Plainly.{next}
use Rattle.predictor.proofs.Growth.{extended_twice}
use Rattle.predict_proof.specs.Chosen.{is_choice, records_of, variant_by}
use Rattle.predict_proof.specs.Proved.{lacks}

-- what is left of a list, by whether something stands at the place
left_at : (i : ℕ) (xs : List ℕ) → ((slice_get xs i ≡ None) × (drop i xs ≡ []) × (drop (suc i) xs ≡ [])) ⊎ ((v : ℕ) × (slice_get xs i ≡ Some v) × (drop i xs ≡ v ∷ drop (suc i) xs))
left_at zero [] = inl (refl, refl, refl)
left_at zero (v ∷ xs) = inr (v, refl, refl)
left_at (suc i) [] = inl (refl, refl, refl)
left_at (suc i) (v ∷ xs) = left_at i xs

none_chosen : {A : Type 0} (alternatives : List (List A)) → chosen alternatives [] ≡ []
none_chosen [] = refl
none_chosen (first ∷ more) = refl

one_chosen : (c : PlainComponent) (more : List (List PlainVariant)) (choice : List ℕ) (i : ℕ) → chosen (c.variants ∷ more) (drop i choice) ≡ option_to_list (variant_by c (slice_get choice i)) ++ chosen more (drop (suc i) choice)
one_chosen c more choice i =
    elim (left_at i choice) [
      | inl h ↦
          ap (chosen (c.variants ∷ more)) h.1 ∙ sym (ap (λ o. option_to_list (variant_by c o) ++ chosen more (drop (suc i) choice)) h.0 ∙ ap (chosen more) h.2 ∙ none_chosen more)
      | inr h ↦ ap (chosen (c.variants ∷ more)) h.2 ∙ ap (λ o. option_to_list (variant_by c o) ++ chosen more (drop (suc i) choice)) (sym h.1)
    ]

-- the chosen variants from a component on
abbrev pub chosen_from : List Component → List ℕ → ℕ → List PlainVariant
chosen_from cs choice i = chosen (variants_of (plain (drop i cs))) (drop i choice)

pub chosen_next : (cs : List Component) (choice : List ℕ) (i : ℕ) (c : Component) → i < length cs → c ≡ get_or cs i c → chosen_from cs choice i ≡ option_to_list (variant_by (plain_component c) (slice_get choice i)) ++ chosen_from cs choice (i + 1)
chosen_next cs choice i c lt is =
    ap (λ ds. chosen (variants_of (plain ds)) (drop i choice)) (next cs i c lt is)
    ∙ one_chosen (plain_component c) (variants_of (plain (drop (i + 1) cs))) choice i
    ∙ ap (λ n. option_to_list (variant_by (plain_component c) (slice_get choice i)) ++ chosen (variants_of (plain (drop (i + 1) cs))) (drop n choice)) (sym (add-one i))

-- ---- what the PCR holds

digests_first : (bank : Bank) (pcr : ℕ) (o : Option PlainVariant) (more : List PlainVariant)
    → flat_map (λ v. digests_in bank pcr v.records) (option_to_list o ++ more) ≡ digests_in bank pcr (records_of o) ++ flat_map (λ v. digests_in bank pcr v.records) more
digests_first bank pcr None more = refl
digests_first bank pcr (Some v) more = refl

pub reached_next : (bank : Bank) (pcr : ℕ) (cs : List Component) (choice : List ℕ) (i : ℕ) (c : Component) (held new whole : List ℕ) → i < length cs → c ≡ get_or cs i c
    → new ≡ extended_by bank held (digests_in bank pcr (records_of (variant_by (plain_component c) (slice_get choice i))))
    → extended_by bank held (flat_map (λ v. digests_in bank pcr v.records) (chosen_from cs choice i)) ≡ whole
    → extended_by bank new (flat_map (λ v. digests_in bank pcr v.records) (chosen_from cs choice (i + 1))) ≡ whole
reached_next bank pcr cs choice i c held new whole lt is made so_far =
    let o = variant_by (plain_component c) (slice_get choice i) in
    let later = flat_map (λ v. digests_in bank pcr v.records) (chosen_from cs choice (i + 1)) in
    ap (λ h. extended_by bank h later) made
    ∙ sym (extended_twice bank held (digests_in bank pcr (records_of o)) later)
    ∙ sym (ap (extended_by bank held) (ap (flat_map (λ v. digests_in bank pcr v.records)) (chosen_next cs choice i c lt is) ∙ digests_first bank pcr o (chosen_from cs choice (i + 1))))
    ∙ so_far

-- ---- whether a record lacks the bank

lacks_first : (bank : Bank) (pcrs : ℕ) (o : Option PlainVariant) (more : List PlainVariant)
    → list_any (λ v. list_any (lacks bank pcrs) v.records) (option_to_list o ++ more) ≡ (list_any (lacks bank pcrs) (records_of o) || list_any (λ v. list_any (lacks bank pcrs) v.records) more)
lacks_first bank pcrs None more = refl
lacks_first bank pcrs (Some v) more = refl

lacks_step : (bank : Bank) (pcrs : ℕ) (cs : List Component) (choice : List ℕ) (i : ℕ) (c : Component) → i < length cs → c ≡ get_or cs i c
    → list_any (λ v. list_any (lacks bank pcrs) v.records) (chosen_from cs choice i)
    ≡ (list_any (lacks bank pcrs) (records_of (variant_by (plain_component c) (slice_get choice i))) || list_any (λ v. list_any (lacks bank pcrs) v.records) (chosen_from cs choice (i + 1)))
lacks_step bank pcrs cs choice i c lt is =
    ap (list_any (λ v. list_any (lacks bank pcrs) v.records)) (chosen_next cs choice i c lt is) ∙ lacks_first bank pcrs (variant_by (plain_component c) (slice_get choice i)) (chosen_from cs choice (i + 1))

pub lacks_next : (bank : Bank) (pcrs : ℕ) (cs : List Component) (choice : List ℕ) (i : ℕ) (c : Component) (whole : Bool) → i < length cs → c ≡ get_or cs i c
    → list_any (lacks bank pcrs) (records_of (variant_by (plain_component c) (slice_get choice i))) ≡ false
    → list_any (λ v. list_any (lacks bank pcrs) v.records) (chosen_from cs choice i) ≡ whole → list_any (λ v. list_any (lacks bank pcrs) v.records) (chosen_from cs choice (i + 1)) ≡ whole
lacks_next bank pcrs cs choice i c whole lt is none so_far =
    sym (lacks_step bank pcrs cs choice i c lt is ∙ ap (λ b. b || list_any (λ v. list_any (lacks bank pcrs) v.records) (chosen_from cs choice (i + 1))) none) ∙ so_far

pub lacks_here : (bank : Bank) (pcrs : ℕ) (cs : List Component) (choice : List ℕ) (i : ℕ) (c : Component) (whole : Bool) → i < length cs → c ≡ get_or cs i c
    → list_any (lacks bank pcrs) (records_of (variant_by (plain_component c) (slice_get choice i))) ≡ true
    → list_any (λ v. list_any (lacks bank pcrs) v.records) (chosen_from cs choice i) ≡ whole → true ≡ whole
lacks_here bank pcrs cs choice i c whole lt is some so_far =
    sym (lacks_step bank pcrs cs choice i c lt is ∙ ap (λ b. b || list_any (λ v. list_any (lacks bank pcrs) v.records) (chosen_from cs choice (i + 1))) some) ∙ so_far

-- ---- whether it is a choice

abbrev pub choice_from : List Component → List ℕ → ℕ → Bool
choice_from cs choice i = is_choice (variants_of (plain (drop i cs))) (drop i choice)

-- of another length
pub choice_short : {A : Type 0} (alternatives : List (List A)) (choice : List ℕ) → (length choice ≡ length alternatives → ⊥) → is_choice alternatives choice ≡ false
choice_short [] [] other = absurd (other refl)
choice_short [] (v ∷ choice) other = refl
choice_short (first ∷ more) [] other = refl
choice_short (first ∷ more) (v ∷ choice) other = and_false (ltb v (length first)) (is_choice more choice) (choice_short more choice (λ same. other (ap suc same)))
  where
    and_false : (a b : Bool) → b ≡ false → (a && b) ≡ false
    and_false true b h = h
    and_false false b h = refl
