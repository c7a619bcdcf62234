-- The first proofs are proofs.
use Rattle.std.proofs.Common.{◌≡◌, ℕ, zero, suc, ◌+◌, ◌^◌, ◌<◌, ◌≤◌, Bool, true, false, cond, ◌&&◌, ◌||◌, List, [], ◌∷◌, ◌++◌, length, get_or, take, map, Option, Some, None, refl, sym, ap, ◌∙◌, subst, inl, inr, arith}
use Rattle.std.specs.Prelude.{slice_get, is_none}
use Rattle.std.specs.List.{All, Contains, flat_map, list_any, position_from}
use Rattle.std.specs.Option.{option_map, option_or, option_to_list}
use Rattle.std.specs.Int.{bit_at}
use Rattle.std.proofs.lemmas.Bool.{cases_Bool, cases_eq, cases_lt, and_left, and_right, or_parts, eq-eqb, true≢false, eqb-true}
use Rattle.std.proofs.lemmas.List.{length-map}
use Rattle.std.proofs.lemmas.List.Elements.{All-nil, All-cons, All-head, All-tail, All-append, All-map, All-take, All-weaker, All-contains_itself}
use Rattle.std.proofs.lemmas.List.Folds.{list_any_none}
use Rattle.std.proofs.lemmas.Nat.Bits.{bit_at_above}
use Rattle.hash_bank.specs.Extending.{extended, start_of}
use Rattle.hash_bank.specs.Hash.{size_in}
use Rattle.hash_bank.specs.declared.bank.Bank.{Bank}
use Rattle.hash_bank.proofs.Sizes.{length-digest_in, length-start_of}
use Rattle.cel_record.specs.Listed.{listed_in}
use Rattle.cel_record.specs.Spelled.{Spelled}
use Rattle.component_tree.specs.PlainTree.{PlainVariant, PlainComponent}
use Rattle.pcr_replay.specs.Measured.{extended_by}
use Rattle.policy_digest.specs.Mask.{has_pcr, pcrs_of}
use Rattle.policy_digest.specs.Table.{values_eq}
use Rattle.policy_digest.proofs.Masks.{pcrs_from, from_first, from_next}
use Rattle.record_match.specs.Choices.{choices, chosen}
use Rattle.record_match.specs.Extends.{extends_of, variants_of, reached_by}
use Rattle.record_match.specs.Lacking.{at_or, first_giving, lacks as lacks_one, lacking_in, lacking_among, lacking_of, place_at}
use Rattle.predictor.specs.declared.reached.Reached.{Reached}
use Rattle.predictor.specs.declared.window.Window.{Window}
use Rattle.predictor.specs.Cuts.{inside_of, cuts_between}
use Rattle.predictor.specs.Distinct.{put, put_all}
use Rattle.predictor.specs.Foreseen.{first_cut, last_cut, lacking_in_any}
use Rattle.predictor.specs.Reaching.{all_reached, first_reached, reached_at, reached_with}
use Rattle.predictor.specs.Reaching.{same_values as same_reached}
use Rattle.predictor.specs.Spread.{IsState}
use Rattle.predictor.proofs.Firsts.{firsts_kept}
use Rattle.predictor.proofs.Repeats.{values_tell, put_viewed, All-put}
use Rattle.predict_proof.specs.declared.proof.Proof.{Proof}
use Rattle.predict_proof.specs.Proved.{HasShape, Proved, lacks, some_lacks}
use Rattle.predict_proof.specs.Proving.{all_proofs, first_proofs, proof_of, same_values, IsFirstOf}
use Rattle.predict_proof.proofs.Members.{first_in, later_in, first_or_later}

-- ---- no record lacks the bank

-- of each PCR that is listed, no record of the variant lacks the bank
abbrev Whole : Bank → ℕ → PlainVariant → Type 0
Whole bank pcr v = list_any (lacks_one bank pcr) v.records ≡ false

none_at : {B : Type 0} (n : ℕ) (o : Option B) (later : Option (ℕ × B)) → at_or n o later ≡ None → (o ≡ None) × (later ≡ None)
none_at n None later h = (refl, h)
none_at n (Some y) later h = absurd cc

none_given : {A B : Type 0} (f : A → Option B) (n : ℕ) (xs : List A) → first_giving f n xs ≡ None → All (λ x. f x ≡ None) xs
none_given f n [] h = All-nil (λ x. f x ≡ None)
none_given f n (x ∷ xs) h = let both = none_at n (f x) (first_giving f (n + 1) xs) h in All-cons (λ x. f x ≡ None) x xs both.0 (none_given f (n + 1) xs both.1)

none_mapped : {A B : Type 0} (f : A → B) (o : Option A) → option_map f o ≡ None → o ≡ None
none_mapped f None h = refl
none_mapped f (Some x) h = absurd cc

none_or : {A : Type 0} (o p : Option A) → option_or o p ≡ None → (o ≡ None) × (p ≡ None)
none_or None p h = (refl, h)
none_or (Some x) p h = absurd cc

none_position : {A : Type 0} (p : A → Bool) (i : ℕ) (xs : List A) → position_from p i xs ≡ None → list_any p xs ≡ false
none_position p i [] h = refl
none_position p i (x ∷ xs) h =
    elim (cases_Bool (p x)) [
      | inl passes ↦ let e : Some i ≡ None = sym (ap (λ b. cond b (Some i) (position_from p (i + 1) xs)) passes) ∙ h in absurd cc
      | inr fails ↦
          let later = none_position p (i + 1) xs (sym (ap (λ b. cond b (Some i) (position_from p (i + 1) xs)) fails) ∙ h) in
          or_false (p x) (list_any p xs) fails later
    ]
  where
    or_false : (a b : Bool) → a ≡ false → b ≡ false → (a || b) ≡ false
    or_false true b h i = absurd (true≢false h)
    or_false false b h i = i

whole_of : (bank : Bank) (pcr : ℕ) (cs : List PlainComponent) → lacking_of bank pcr cs ≡ None → All (λ c. All (Whole bank pcr) c.variants) cs
whole_of bank pcr cs h =
    All-weaker (λ c. lacking_among bank pcr c ≡ None) (λ c. All (Whole bank pcr) c.variants)
    (λ c none. All-weaker (λ v. lacking_in bank pcr v ≡ None) (Whole bank pcr) (λ v all. none_position (lacks_one bank pcr) 0 v.records all) c.variants (none_given (lacking_in bank pcr) 0 c.variants none))
    cs (none_given (lacking_among bank pcr) 0 cs (none_mapped place_at (first_giving (lacking_among bank pcr) 0 cs) h))

whole_in : (bank : Bank) (pcrs : List ℕ) (cs : List PlainComponent) → lacking_in_any bank pcrs cs ≡ None → (pcr : ℕ) → Contains pcrs pcr → All (λ c. All (Whole bank pcr) c.variants) cs
whole_in bank [] cs h pcr has = absurd (omega (arith, has.1))
whole_in bank (p ∷ pcrs) cs h pcr has =
    let both = none_or (lacking_of bank p cs) (lacking_in_any bank pcrs cs) h in
    elim (first_or_later p pcrs pcr has) [
      | inl here ↦ subst (λ q. All (λ c. All (Whole bank q) c.variants) cs) here (whole_of bank p cs both.0)
      | inr later ↦ whole_in bank pcrs cs both.1 pcr later
    ]

-- ---- of a mask's PCRs

listed_from : (mask pcr left i : ℕ) → i + left ≡ 24 → i ≤ pcr → pcr < 24 → has_pcr mask pcr ≡ true → Contains (pcrs_from mask i) pcr
listed_from mask pcr zero i all le lt has = absurd (omega arith)
listed_from mask pcr (suc left) i all le lt has =
    elim (cases_eq i pcr) [
      | inl same ↦
          let here : has_pcr mask i ≡ true = ap (has_pcr mask) same ∙ has in
          subst (λ (ps : List ℕ). Contains ps pcr) (sym (from_next mask i true (omega arith) (sym here))) (subst (λ k. Contains (i ∷ pcrs_from mask (i + 1)) k) same (first_in i (pcrs_from mask (i + 1))))
      | inr other ↦
          let later = listed_from mask pcr left (i + 1) (omega arith) (omega arith) lt has in
          elim (cases_Bool (has_pcr mask i)) [
            | inl there ↦ subst (λ (ps : List ℕ). Contains ps pcr) (sym (from_next mask i true (omega arith) (sym there))) (later_in i (pcrs_from mask (i + 1)) pcr later)
            | inr absent ↦ subst (λ (ps : List ℕ). Contains ps pcr) (sym (from_next mask i false (omega arith) (sym absent))) later
          ]
    ]

listed : (mask pcr : ℕ) → pcr < 24 → has_pcr mask pcr ≡ true → Contains (pcrs_of mask) pcr
listed mask pcr lt has = subst (λ (ps : List ℕ). Contains ps pcr) (from_first mask) (listed_from mask pcr 24 0 (omega arith) (omega arith) lt has)

below_all : (mask pcr : ℕ) → mask < 2 ^ 24 → has_pcr mask pcr ≡ true → pcr < 24
below_all mask pcr small has =
    elim (cases_lt pcr 24) [
      | inl lt ↦ lt
      | inr above ↦ absurd (omega (arith, bit_at_above mask 24 pcr small above, eqb-true (bit_at mask pcr) 1 has))
    ]

each_fails : {A : Type 0} (p : A → Bool) (xs : List A) → list_any p xs ≡ false → All (λ x. p x ≡ false) xs
each_fails p [] h = All-nil (λ x. p x ≡ false)
each_fails p (x ∷ xs) h = let both = or_parts (p x) (list_any p xs) h in All-cons (λ x. p x ≡ false) x xs both.0 (each_fails p xs both.1)

record_whole : (bank : Bank) (mask : ℕ) (r : Spelled) → mask < 2 ^ 24 → ((pcr : ℕ) → Contains (pcrs_of mask) pcr → lacks_one bank pcr r ≡ false) → lacks bank mask r ≡ false
record_whole bank mask r small each =
    elim (cases_Bool (has_pcr mask r.pcr)) [
      | inl has ↦
          let one = each r.pcr (listed mask r.pcr (below_all mask r.pcr small has) has) in
          and_right (has_pcr mask r.pcr) (is_none (listed_in bank r.digests)) (sym (ap (λ b. b && is_none (listed_in bank r.digests)) (eq-eqb r.pcr r.pcr refl)) ∙ one)
      | inr not_there ↦ and_left (has_pcr mask r.pcr) (is_none (listed_in bank r.digests)) not_there
    ]

variant_whole : (bank : Bank) (mask : ℕ) (v : PlainVariant) → mask < 2 ^ 24 → ((pcr : ℕ) → Contains (pcrs_of mask) pcr → Whole bank pcr v) → list_any (lacks bank mask) v.records ≡ false
variant_whole bank mask v small each =
    list_any_none (lacks bank mask) v.records (λ k d lt. record_whole bank mask (get_or v.records k d) small (λ pcr has. each_fails (lacks_one bank pcr) v.records (each pcr has) k d lt))

-- ---- of the chosen variants

one_all : {A : Type 0} (P : A → Type 0) (xs : List A) (n : ℕ) → All P xs → All P (option_to_list (slice_get xs n))
one_all P [] n h = All-nil P
one_all P (x ∷ xs) zero h = All-cons P x [] (All-head P x xs h) (All-nil P)
one_all P (x ∷ xs) (suc n) h = one_all P xs n (All-tail P x xs h)

chosen_all : {A : Type 0} (P : A → Type 0) (alternatives : List (List A)) (choice : List ℕ) → All (All P) alternatives → All P (chosen alternatives choice)
chosen_all P [] choice h = All-nil P
chosen_all P (first ∷ more) [] h = All-nil P
chosen_all P (first ∷ more) (v ∷ choice) h =
    All-append P (option_to_list (slice_get first v)) (chosen more choice) (one_all P first v (All-head (All P) first more h)) (chosen_all P more choice (All-tail (All P) first more h))

none_lacks : (bank : Bank) (mask : ℕ) (cs : List PlainComponent) (k : ℕ) (choice : List ℕ) → mask < 2 ^ 24 → lacking_in_any bank (pcrs_of mask) cs ≡ None → some_lacks bank mask (chosen (variants_of (take k cs)) choice) ≡ false
none_lacks bank mask cs k choice small none =
    let P : PlainVariant → Type 0 = λ v. list_any (lacks bank mask) v.records ≡ false in
    let each : All (λ (c : PlainComponent). All P c.variants) cs = λ i d lt j e below.
    variant_whole bank mask (get_or (get_or cs i d).variants j e) small (λ pcr has. whole_in bank (pcrs_of mask) cs none pcr has i d lt j e below) in
    list_any_none (λ v. list_any (lacks bank mask) v.records) (chosen (variants_of (take k cs)) choice)
    (chosen_all P (variants_of (take k cs)) choice (All-map (All P) (λ c. c.variants) (take k cs) (All-take (λ (c : PlainComponent). All P c.variants) k cs each)))

-- ---- sizes

sized_after : (bank : Bank) (value : List ℕ) (digests : List (List ℕ)) → length value ≡ size_in bank → length (extended_by bank value digests) ≡ size_in bank
sized_after bank value [] h = h
sized_after bank value (d ∷ digests) h = sized_after bank (extended bank value d) digests (length-digest_in bank (value ++ d))

state_fits : (bank : Bank) (locality : ℕ) (pcrs : List ℕ) (cs : List PlainComponent) (choice : List ℕ) → IsState bank (length pcrs) (map (λ p. reached_by bank p locality cs choice) pcrs)
state_fits bank locality pcrs cs choice = record {
  long = length-map pcrs (λ p. reached_by bank p locality cs choice);
  sized = All-map (λ d. length d ≡ size_in bank) (λ p. reached_by bank p locality cs choice) pcrs
      (λ k d lt. sized_after bank (start_of bank (get_or pcrs k d) locality) (extends_of bank (get_or pcrs k d) cs choice) (length-start_of bank (get_or pcrs k d) locality));
}

-- ---- all of them

all_put : {A : Type 0} (P : A → Type 0) (same : A → A → Bool) (list xs : List A) → All P list → All P xs → All P (put_all same list xs)
all_put P same list [] hl hx = hl
all_put P same list (x ∷ xs) hl hx = all_put P same (put same list x) xs (All-put P same list x hl (All-head P x xs hx)) (All-tail P x xs hx)

all_joined : {A B : Type 0} (P : B → Type 0) (Q : A → Type 0) (f : A → List B) → ((x : A) → Q x → All P (f x)) → (xs : List A) → All Q xs → All P (flat_map f xs)
all_joined P Q f each [] h = All-nil P
all_joined P Q f each (x ∷ xs) h = All-append P (f x) (flat_map f xs) (each x (All-head Q x xs h)) (all_joined P Q f each xs (All-tail Q x xs h))

module _ (bank : Bank) (locality mask : ℕ) (window : Window) (tree : List PlainComponent) where
  abbrev inside : List PlainComponent
  inside = inside_of window.end tree

  abbrev cuts : List ℕ
  cuts = cuts_between (first_cut window tree) (last_cut window tree)

  abbrev state : ℕ → List ℕ → Reached
  state k choice = reached_with bank locality (pcrs_of mask) k (take k inside) choice

  over_all : (P : Proof → Type 0) → ((k : ℕ) (c : List ℕ) → Contains cuts k → Contains (choices (variants_of (take k inside))) c → P (proof_of mask (state k c))) → All P (first_proofs bank locality mask window tree)
  over_all P each =
      let Q : Reached → Type 0 = λ s. P (proof_of mask s) in
      All-map P (proof_of mask) (first_reached bank locality (pcrs_of mask) window tree)
      (all_put Q same_reached [] (flat_map (λ k. reached_at bank locality (pcrs_of mask) k (take k inside)) cuts) (All-nil Q)
      (all_joined Q (Contains cuts) (λ k. reached_at bank locality (pcrs_of mask) k (take k inside))
      (λ k has. All-map Q (state k) (choices (variants_of (take k inside)))
      (All-weaker (Contains (choices (variants_of (take k inside)))) (λ c. Q (state k c)) (λ c chosen. each k c has chosen) (choices (variants_of (take k inside))) (All-contains_itself (choices (variants_of (take k inside))))))
      cuts (All-contains_itself cuts)))

  pub first_proved : mask < 2 ^ 24 → lacking_in_any bank (pcrs_of mask) inside ≡ None → All (Proved bank locality window tree) (first_proofs bank locality mask window tree)
  first_proved small none = over_all (Proved bank locality window tree) (λ k c has chosen. record { cut = has; choice = chosen; digests = none_lacks bank mask inside k c small none; values = refl })

  pub first_shaped : 0 < mask → mask < 2 ^ 24 → All (HasShape bank) (first_proofs bank locality mask window tree)
  first_shaped some small = over_all (HasShape bank) (λ k c has chosen. record { some = some; in_range = small; values = state_fits bank locality (pcrs_of mask) (take k inside) c })

  pub first_of_mask : All (λ q. q.pcrs ≡ mask) (first_proofs bank locality mask window tree)
  first_of_mask = over_all (λ q. q.pcrs ≡ mask) (λ k c has chosen. refl)

  pub first_of_all : All (IsFirstOf (all_proofs bank locality mask window tree)) (first_proofs bank locality mask window tree)
  first_of_all =
      let all = all_reached bank locality (pcrs_of mask) window tree in
      subst (All (IsFirstOf (all_proofs bank locality mask window tree))) (put_viewed same_reached same_values (proof_of mask) (λ a b. refl) [] all)
      (firsts_kept (λ (q : Proof). q.values) values_eq values_tell (all_proofs bank locality mask window tree))
