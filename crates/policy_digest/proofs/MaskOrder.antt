-- The mask of PCRs in ascending order lists them again.
use Rattle.std.proofs.Common.{◌≡◌, ℕ, zero, suc, ◌+◌, ◌^◌, ◌≤◌, ◌<◌, Bool, true, false, cond, ◌||◌, eqb, List, [], ◌∷◌, refl, sym, ap, ◌∙◌, subst, inl, inr, arith}
use Rattle.std.specs.Prelude.{filter, bit_or, fold}
use Rattle.std.specs.Int.{bit_at}
use Rattle.std.specs.Int.Bits.{or_lt}
use Rattle.std.specs.List.{list_any, range_with_len}
use Rattle.std.proofs.lemmas.Bool.{cases_eq, eq-eqb, ne_eqb}
use Rattle.std.proofs.lemmas.Nat.{pow_below}
use Rattle.std.proofs.lemmas.Nat.Bits.{bit_at_or, bit_at-pow_same, bit_at-pow_other, bit_at-lt, bit_at-zero}
use Rattle.policy_digest.specs.Mask.{has_pcr, mask_of, pcrs_of}

-- ---- PCRs in order

-- these PCRs ascend, from one on
abbrev pub Rising : ℕ → List ℕ → Type 0
Rising a [] = Unit {0}
Rising a (p ∷ pcrs) = (a ≤ p) × (p ≤ 23) × Rising (suc p) pcrs

pub rising_before : (a b : ℕ) (pcrs : List ℕ) → a ≤ b → Rising b pcrs → Rising a pcrs
rising_before a b [] le rise = tt
rising_before a b (p ∷ pcrs) le rise = (omega (arith, rise.0), rise.1, rise.2)

rising_range : (keep : ℕ → Bool) (n a : ℕ) → a + n ≡ 24 → Rising a (filter keep (range_with_len a n))
rising_range keep zero a all = tt
rising_range keep (suc n) a all =
    let more : Rising (a + 1) (filter keep (range_with_len (a + 1) n)) = rising_range keep n (a + 1) (omega arith) in
    let next : a + 1 ≡ suc a = omega arith in
    elim (keep a) as (λ b. Rising a (cond b (a ∷ filter keep (range_with_len (a + 1) n)) (filter keep (range_with_len (a + 1) n)))) [
      | true ↦ (omega arith, omega arith, subst (λ (k : ℕ). Rising k (filter keep (range_with_len (a + 1) n))) next more)
      | false ↦ rising_before a (a + 1) (filter keep (range_with_len (a + 1) n)) (omega arith) more
    ]

pub rising_asked : (mask : ℕ) → Rising 0 (pcrs_of mask)
unfolding pcrs_of
rising_asked mask = rising_range (has_pcr mask) 24 0 refl

-- ---- the mask of some PCRs

abbrev pub is_in : List ℕ → ℕ → Bool
is_in pcrs i = list_any (λ p. eqb p i) pcrs

one_bit : (mask p i : ℕ) → has_pcr (bit_or mask (2 ^ p)) i ≡ (has_pcr mask i || eqb p i)
one_bit mask p i =
    let or = bit_at_or mask (2 ^ p) i in
    let small = bit_at-lt mask i in
    elim (cases_eq p i) [
      | inl same ↦
          let set : bit_at (2 ^ p) i ≡ 1 = ap (bit_at (2 ^ p)) (sym same) ∙ bit_at-pow_same p in
          let one : bit_at (bit_or mask (2 ^ p)) i ≡ 1 = omega (arith, or) in
          rw (eq-eqb _ _ one, eq-eqb p i same) (sym (or_true (has_pcr mask i)))
      | inr other ↦
          let clear : bit_at (2 ^ p) i ≡ 0 = bit_at-pow_other p i (λ e. other (sym e)) in
          let kept : bit_at (bit_or mask (2 ^ p)) i ≡ bit_at mask i = omega (arith, or) in
          rw (kept, ne_eqb p i other) (sym (or_false (has_pcr mask i)))
    ]
  where
    or_true : (b : Bool) → (b || true) ≡ true
    or_true true = refl
    or_true false = refl

    or_false : (b : Bool) → (b || false) ≡ b
    or_false true = refl
    or_false false = refl

or_assoc : (a b c : Bool) → ((a || b) || c) ≡ (a || (b || c))
or_assoc true b c = refl
or_assoc false b c = refl

all_bits : (mask : ℕ) (pcrs : List ℕ) (i : ℕ) → has_pcr (fold (λ m p. bit_or m (2 ^ p)) mask pcrs) i ≡ (has_pcr mask i || is_in pcrs i)
all_bits mask [] i = sym (or_none (has_pcr mask i))
  where
    or_none : (b : Bool) → (b || false) ≡ b
    or_none true = refl
    or_none false = refl
all_bits mask (p ∷ pcrs) i = all_bits (bit_or mask (2 ^ p)) pcrs i ∙ ap (λ b. b || is_in pcrs i) (one_bit mask p i) ∙ or_assoc (has_pcr mask i) (eqb p i) (is_in pcrs i)

pub mask_bits : (pcrs : List ℕ) (i : ℕ) → has_pcr (mask_of pcrs) i ≡ is_in pcrs i
mask_bits pcrs i = all_bits 0 pcrs i ∙ ap (λ b. b || is_in pcrs i) (ap (λ n. eqb n 1) (bit_at-zero i))

pub small_from : (mask : ℕ) (a : ℕ) (pcrs : List ℕ) → mask < 2 ^ 24 → Rising a pcrs → fold (λ m p. bit_or m (2 ^ p)) mask pcrs < 2 ^ 24
small_from mask a [] small rise = small
small_from mask a (p ∷ pcrs) small rise = small_from (bit_or mask (2 ^ p)) (suc p) pcrs (or_lt 24 mask (2 ^ p) small (pow_below p 24 (omega (arith, rise.1)))) rise.2

-- a PCR before all of them
none_before : (a b : ℕ) (pcrs : List ℕ) → a < b → Rising b pcrs → is_in pcrs a ≡ false
none_before a b [] lt rise = refl
none_before a b (p ∷ pcrs) lt rise = rw (ne_eqb p a (λ e. omega (arith, rise.0)), none_before a (suc p) pcrs (omega (arith, rise.0)) rise.2) refl

same_filter : (p q : ℕ → Bool) → ((i : ℕ) → p i ≡ q i) → (xs : List ℕ) → filter p xs ≡ filter q xs
same_filter p q same [] = refl
same_filter p q same (x ∷ xs) = ap (λ b. cond b (x ∷ filter p xs) (filter p xs)) (same x) ∙ ap (λ (l : List ℕ). cond (q x) (x ∷ l) l) (same_filter p q same xs)

-- a PCR that is passed
filter_behind : (p : ℕ) (pcrs : List ℕ) (n a : ℕ) → p < a → filter (is_in (p ∷ pcrs)) (range_with_len a n) ≡ filter (is_in pcrs) (range_with_len a n)
filter_behind p pcrs zero a lt = refl
filter_behind p pcrs (suc n) a lt =
    let off : eqb p a ≡ false = ne_eqb p a (λ e. omega arith) in
    ap (λ b. cond (b || is_in pcrs a) (a ∷ filter (is_in (p ∷ pcrs)) (range_with_len (a + 1) n)) (filter (is_in (p ∷ pcrs)) (range_with_len (a + 1) n))) off
    ∙ ap (λ (l : List ℕ). cond (is_in pcrs a) (a ∷ l) l) (filter_behind p pcrs n (a + 1) (omega arith))

filter_back : (n a : ℕ) (pcrs : List ℕ) → a + n ≡ 24 → Rising a pcrs → filter (is_in pcrs) (range_with_len a n) ≡ pcrs
filter_back zero a [] all rise = refl
filter_back zero a (p ∷ pcrs) all rise = absurd (omega (arith, rise.0, rise.1))
filter_back (suc n) a [] all rise = filter_back n (a + 1) [] (omega arith) tt
filter_back (suc n) a (p ∷ pcrs) all rise =
    let kept = λ (b : Bool). cond b (a ∷ filter (is_in (p ∷ pcrs)) (range_with_len (a + 1) n)) (filter (is_in (p ∷ pcrs)) (range_with_len (a + 1) n)) in
    elim (cases_eq p a) [
      | inl same ↦
          let next : suc p ≡ a + 1 = omega arith in
          let here : is_in (p ∷ pcrs) a ≡ true = ap (λ b. b || is_in pcrs a) (eq-eqb p a same) in
          ap kept here
          ∙ ap (λ (l : List ℕ). a ∷ l) (filter_behind p pcrs n (a + 1) (omega arith) ∙ filter_back n (a + 1) pcrs (omega arith) (subst (λ (k : ℕ). Rising k pcrs) next rise.2))
          ∙ ap (λ (k : ℕ). k ∷ pcrs) (sym same)
      | inr other ↦
          let lt : a < p = omega (arith, rise.0) in
          let here : is_in (p ∷ pcrs) a ≡ false = none_before a p (p ∷ pcrs) lt (omega arith, rise.1, rise.2) in
          ap kept here ∙ filter_back n (a + 1) (p ∷ pcrs) (omega arith) (omega arith, rise.1, rise.2)
    ]

pub listed_back : (pcrs : List ℕ) → Rising 0 pcrs → pcrs_of (mask_of pcrs) ≡ pcrs
unfolding pcrs_of
listed_back pcrs rise = same_filter (has_pcr (mask_of pcrs)) (is_in pcrs) (mask_bits pcrs) (range_with_len 0 24) ∙ filter_back 24 0 pcrs refl rise
