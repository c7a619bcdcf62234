-- The PCRs of a mask in a word, and back.
use Rattle.std.proofs.Common.{◌≡◌, ℕ, zero, suc, ◌+◌, ◌-◌, ◌^◌, ◌<◌, ◌≤◌, Bool, true, false, cond, ltb, eqb, List, [], ◌∷◌, ◌++◌, length, map, Some, None, refl, sym, ap, ◌∙◌, subst, inl, inr, append-nil, append_assoc, arith}
use Rattle.std.specs.Prelude.{bit_or, filter}
use Rattle.std.specs.List.{All, range_with_len}
use Rattle.std.specs.Int.{bit_at}
use Rattle.std.specs.Option.{unwrap_or}
use Rattle.std.specs.Fmt.{decimal}
use Rattle.std.proofs.Math.Pow.{pow-lt}
use Rattle.std.proofs.lemmas.Bool.{cases_Bool, cases_eq, eqb-true, eqb-false, ltb-true, lt-ltb}
use Rattle.std.proofs.lemmas.Nat.{or_lt}
use Rattle.std.proofs.lemmas.Nat.Bits.{bit_at_or, bit_at-pow_same, bit_at-pow_other, bit_at_above, bit_at-lt, same_from_bits_below}
use Rattle.std.proofs.lemmas.List.Elements.{All-nil, All-cons}
use Rattle.policy_digest.specs.Mask.{has_pcr, pcrs_of}
use Rattle.policy_digest.proofs.Masks.{pcrs_from, from_first, from_next}
use Rattle.pl_text.specs.Words.{◌>>=◌, number_up_to}
use Rattle.predict_proof.specs.Words.{mask_with, mask_from}
use Rattle.predict_proof.proofs.NumberTexts.{both_gave, then_gives, gave_if, gives_if, number_back, number_read}

-- ---- the PCRs from one on

step_from : (mask p : ℕ) (b : Bool) → p < 24 → has_pcr mask p ≡ b → pcrs_from mask p ≡ cond b (p ∷ pcrs_from mask (p + 1)) (pcrs_from mask (p + 1))
step_from mask p b lt is = from_next mask p b lt (sym is)

above : (mask p i : ℕ) → mask < 2 ^ p → p ≤ i → has_pcr mask i ≡ false
above mask p i small le = ap (λ b. eqb b 1) (bit_at_above mask p i small le)

next_pow : (p : ℕ) → 2 ^ p < 2 ^ (p + 1)
next_pow p = pow-lt (omega arith)

none_left : (mask left p : ℕ) → p + left ≡ 24 → mask < 2 ^ p → pcrs_from mask p ≡ []
none_left mask zero p all small = let n : 24 - p ≡ 0 = omega arith in ap (λ k. filter (has_pcr mask) (range_with_len p k)) n
none_left mask (suc left) p all small =
    step_from mask p false (omega arith) (above mask p p small (omega arith)) ∙ none_left mask left (p + 1) (omega arith) (omega (arith, next_pow p))

pub few_from : (mask left p : ℕ) → p + left ≡ 24 → length (pcrs_from mask p) ≤ left
few_from mask zero p all = let n : 24 - p ≡ 0 = omega arith in let none = ap (λ k. length (filter (has_pcr mask) (range_with_len p k))) n in omega (arith, none)
few_from mask (suc left) p all =
    let more = few_from mask left (p + 1) (omega arith) in
    elim (cases_Bool (has_pcr mask p)) [
      | inl there ↦ omega (arith, more, ap length (step_from mask p true (omega arith) there))
      | inr absent ↦ omega (arith, more, ap length (step_from mask p false (omega arith) absent))
    ]

pub few_pcrs : (mask : ℕ) → length (pcrs_of mask) ≤ 24
few_pcrs mask = subst (λ (ps : List ℕ). length ps ≤ 24) (from_first mask) (few_from mask 24 0 (omega arith))

within_from : (mask left p : ℕ) → p + left ≡ 24 → All (λ q. q ≤ 23) (pcrs_from mask p)
within_from mask zero p all =
    let n : 24 - p ≡ 0 = omega arith in
    subst (λ k. All (λ q. q ≤ 23) (filter (has_pcr mask) (range_with_len p k))) (sym n) (All-nil (λ q. q ≤ 23))
within_from mask (suc left) p all =
    let more = within_from mask left (p + 1) (omega arith) in
    elim (cases_Bool (has_pcr mask p)) [
      | inl there ↦ subst (All (λ q. q ≤ 23)) (sym (step_from mask p true (omega arith) there)) (All-cons (λ q. q ≤ 23) p (pcrs_from mask (p + 1)) (omega arith) more)
      | inr absent ↦ subst (All (λ q. q ≤ 23)) (sym (step_from mask p false (omega arith) absent)) more
    ]

pub pcrs_within : (mask : ℕ) → All (λ q. q ≤ 23) (pcrs_of mask)
pcrs_within mask = subst (All (λ q. q ≤ 23)) (from_first mask) (within_from mask 24 0 (omega arith))

pub no_pcrs : pcrs_of 0 ≡ []
no_pcrs = sym (from_first 0) ∙ none_left 0 24 0 (omega arith) (omega arith)

pub some_mask : (mask : ℕ) → 1 ≤ length (pcrs_of mask) → 0 < mask
some_mask mask some =
    elim (cases_eq mask 0) [
      | inl none ↦
          let empty : pcrs_of mask ≡ [] = ap pcrs_of none ∙ no_pcrs in
          absurd (omega (arith, ap length empty))
      | inr other ↦ omega arith
    ]

-- ---- one PCR more, above all others

added_bit : (mask p i : ℕ) → (i ≡ p → ⊥) → bit_at (bit_or mask (2 ^ p)) i ≡ bit_at mask i
added_bit mask p i other = let e = bit_at_or mask (2 ^ p) i in let none = bit_at-pow_other p i other in omega arith

added_here : (mask p : ℕ) → mask < 2 ^ p → bit_at (bit_or mask (2 ^ p)) p ≡ 1
added_here mask p small = let e = bit_at_or mask (2 ^ p) p in let one = bit_at-pow_same p in let none = bit_at_above mask p p small (omega arith) in omega arith

added_small : (mask p : ℕ) → mask < 2 ^ p → bit_or mask (2 ^ p) < 2 ^ (p + 1)
added_small mask p small = or_lt (p + 1) mask (2 ^ p) (omega (arith, next_pow p)) (next_pow p)

more_at : (mask p : ℕ) → p < 24 → mask < 2 ^ p → pcrs_from (bit_or mask (2 ^ p)) p ≡ pcrs_from mask p ++ p ∷ []
more_at mask p lt small =
    let left : p + 1 + (23 - p) ≡ 24 = omega arith in
    let whole : p + (24 - p) ≡ 24 = omega arith in
    step_from (bit_or mask (2 ^ p)) p true lt (ap (λ b. eqb b 1) (added_here mask p small))
    ∙ ap (λ ps. p ∷ ps) (none_left (bit_or mask (2 ^ p)) (23 - p) (p + 1) left (added_small mask p small))
    ∙ ap (λ (ps : List ℕ). ps ++ p ∷ []) (sym (none_left mask (24 - p) p whole small))

more_from : (mask p left i : ℕ) → i + left ≡ p → p < 24 → mask < 2 ^ p → pcrs_from (bit_or mask (2 ^ p)) i ≡ pcrs_from mask i ++ p ∷ []
more_from mask p zero i all lt small = let e : p ≡ i = omega arith in subst (λ k. pcrs_from (bit_or mask (2 ^ p)) k ≡ pcrs_from mask k ++ p ∷ []) e (more_at mask p lt small)
more_from mask p (suc left) i all lt small =
    let later = more_from mask p left (i + 1) (omega arith) lt small in
    let same : has_pcr (bit_or mask (2 ^ p)) i ≡ has_pcr mask i = ap (λ b. eqb b 1) (added_bit mask p i (λ e. omega arith)) in
    elim (cases_Bool (has_pcr mask i)) [
      | inl there ↦
          step_from (bit_or mask (2 ^ p)) i true (omega arith) (same ∙ there) ∙ ap (λ ps. i ∷ ps) later
          ∙ ap (λ (ps : List ℕ). ps ++ p ∷ []) (sym (step_from mask i true (omega arith) there))
      | inr absent ↦
          step_from (bit_or mask (2 ^ p)) i false (omega arith) (same ∙ absent) ∙ later
          ∙ ap (λ (ps : List ℕ). ps ++ p ∷ []) (sym (step_from mask i false (omega arith) absent))
    ]

pub pcrs_more : (mask p : ℕ) → p < 24 → mask < 2 ^ p → pcrs_of (bit_or mask (2 ^ p)) ≡ pcrs_of mask ++ p ∷ []
pcrs_more mask p lt small = sym (from_first (bit_or mask (2 ^ p))) ∙ more_from mask p p 0 (omega arith) lt small ∙ ap (λ (ps : List ℕ). ps ++ p ∷ []) (from_first mask)

-- ---- read

pub record MaskRead (mask : ℕ) (words : List (List ℕ)) (all : ℕ) : Type 0 where
  pub more : List ℕ
  pub words_are : words ≡ map decimal more
  pub pcrs_are : pcrs_of all ≡ pcrs_of mask ++ more
  pub small : all < 2 ^ 24

pub mask_read : (mask : ℕ) (words : List (List ℕ)) (all : ℕ) → mask < 2 ^ 24 → mask_from mask words ≡ Some all → MaskRead mask words all
mask_read mask [] all small h =
    let same : mask ≡ all = ap (λ o. unwrap_or o mask) h in
    record {
      more = [];
      words_are = refl;
      pcrs_are = ap pcrs_of (sym same) ∙ sym (append-nil (pcrs_of mask));
      small = subst (λ m. m < 2 ^ 24) same small;
    }
mask_read mask (word ∷ words) all small h =
    let given = both_gave (number_up_to 23 word) (λ p. mask_with mask p >>= λ next. mask_from next words) all h in
    let p = given.0 in
    let number = number_read 23 word p given.1 in
    let after = both_gave (mask_with mask p) (λ next. mask_from next words) all given.2 in
    let test = gave_if (ltb mask (2 ^ p)) (bit_or mask (2 ^ p)) after.0 after.1 in
    let below : mask < 2 ^ p = ltb-true mask (2 ^ p) test.0 in
    let high : 2 ^ p < 2 ^ 24 = pow-lt {i = p} {j = 24} (omega (arith, number.0)) in
    let next_small : after.0 < 2 ^ 24 = subst (λ m. m < 2 ^ 24) test.1 (or_lt 24 mask (2 ^ p) small high) in
    let later = mask_read after.0 words all next_small after.2 in
    record {
      more = p ∷ later.more;
      words_are = ap (λ (w : List ℕ). w ∷ words) number.1 ∙ ap (λ (ws : List (List ℕ)). decimal p ∷ ws) later.words_are;
      pcrs_are = later.pcrs_are ∙ ap (λ m. pcrs_of m ++ later.more) (sym test.1) ∙ ap (λ (ps : List ℕ). ps ++ later.more) (pcrs_more mask p (omega (arith, number.0)) below) ∙ append_assoc (pcrs_of mask) (p ∷ []) later.more;
      small = later.small;
    }

-- ---- and back

bits_below : (mask done p : ℕ) → ((i : ℕ) → i < p → bit_at done i ≡ bit_at mask i) → bit_at done p ≡ bit_at mask p → (i : ℕ) → i < p + 1 → bit_at done i ≡ bit_at mask i
bits_below mask done p below here i lt =
    elim (cases_eq i p) [
      | inl same ↦ ap (bit_at done) same ∙ here ∙ ap (bit_at mask) (sym same)
      | inr other ↦ below i (omega arith)
    ]

zero_bit : (mask p : ℕ) → has_pcr mask p ≡ false → bit_at mask p ≡ 0
zero_bit mask p absent = let b = bit_at-lt mask p in let n = eqb-false (bit_at mask p) 1 absent in by_value (bit_at mask p) b n
  where
    by_value : (b : ℕ) → b < 2 → (b ≡ 1 → ⊥) → b ≡ 0
    by_value zero lt n = refl
    by_value (suc zero) lt n = absurd (n refl)
    by_value (suc (suc b)) lt n = absurd (omega arith)

back_from : (mask : ℕ) → mask < 2 ^ 24 → (left p done : ℕ) → p + left ≡ 24 → done < 2 ^ p → ((i : ℕ) → i < p → bit_at done i ≡ bit_at mask i) → mask_from done (map decimal (pcrs_from mask p)) ≡ Some mask
back_from mask small zero p done all below bits =
    let n : 24 - p ≡ 0 = omega arith in
    let e : p ≡ 24 = omega arith in
    let fits : done < 2 ^ 24 = subst (λ k. done < 2 ^ k) e below in
    let same : done ≡ mask = same_from_bits_below 24 done mask fits small (λ i lt. bits i (omega arith)) in
    ap (λ k. mask_from done (map decimal (filter (has_pcr mask) (range_with_len p k)))) n ∙ ap Some same
back_from mask small (suc left) p done all below bits =
    elim (cases_Bool (has_pcr mask p)) [
      | inl there ↦
          let next = bit_or done (2 ^ p) in
          let here : bit_at next p ≡ bit_at mask p = added_here done p below ∙ sym (eqb-true (bit_at mask p) 1 there) in
          let kept : (i : ℕ) → i < p → bit_at next i ≡ bit_at mask i = λ i lt. added_bit done p i (λ e. omega arith) ∙ bits i lt in
          ap (λ ps. mask_from done (map decimal ps)) (step_from mask p true (omega arith) there)
          ∙ then_gives (number_up_to 23 (decimal p)) (λ q. mask_with done q >>= λ m. mask_from m (map decimal (pcrs_from mask (p + 1)))) p (Some mask) (number_back 23 p (omega arith) (omega arith))
          (then_gives (mask_with done p) (λ m. mask_from m (map decimal (pcrs_from mask (p + 1)))) next (Some mask) (gives_if (ltb done (2 ^ p)) (Some next) None (lt-ltb done (2 ^ p) below))
          (back_from mask small left (p + 1) next (omega arith) (added_small done p below) (bits_below mask next p kept here)))
      | inr absent ↦
          let here : bit_at done p ≡ bit_at mask p = bit_at_above done p p below (omega arith) ∙ sym (zero_bit mask p absent) in
          ap (λ ps. mask_from done (map decimal ps)) (step_from mask p false (omega arith) absent)
          ∙ back_from mask small left (p + 1) done (omega arith) (omega (arith, next_pow p)) (bits_below mask done p bits here)
    ]

pub mask_back : (mask : ℕ) → mask < 2 ^ 24 → mask_from 0 (map decimal (pcrs_of mask)) ≡ Some mask
mask_back mask small = ap (λ ps. mask_from 0 (map decimal ps)) (sym (from_first mask)) ∙ back_from mask small 24 0 0 (omega arith) (omega arith) (λ i lt. absurd (omega arith))
