-- A mask and the list of its PCRs tell each other.
use Rattle.std.proofs.Common.{◌≡◌, ℕ, zero, suc, ◌+◌, ◌-◌, ◌^◌, ◌<◌, ◌≤◌, true, false, List, [], ◌∷◌, ◌++◌, length, refl, sym, ap, ◌∙◌, inl, inr, append_assoc, arith}
use Rattle.std.specs.Prelude.{filter, not}
use Rattle.std.specs.Int.{bit_at}
use Rattle.std.specs.List.{range_with_len}
use Rattle.std.proofs.lemmas.Bool.{cases_Bool, cases_eq, eqb-true, eqb-false}
use Rattle.std.proofs.lemmas.List.Filters.{length-filter_both}
use Rattle.std.proofs.lemmas.List.{append-nil}
use Rattle.std.proofs.lemmas.Nat.{pow_below}
use Rattle.std.proofs.lemmas.Nat.Bits.{same_from_bits_below, bit_at-lt}
use Rattle.policy_digest.specs.Mask.{has_pcr, pcrs_of}
use Rattle.policy_digest.proofs.Masks.{pcrs_from, from_first, from_next}

-- ---- a list that is made PCR by PCR

pub listed_in : (mask pcr : ℕ) (list : List ℕ) → pcr < 24 → true ≡ has_pcr mask pcr → list ++ pcrs_from mask pcr ≡ pcrs_of mask → (list ++ pcr ∷ []) ++ pcrs_from mask (pcr + 1) ≡ pcrs_of mask
listed_in mask pcr list lt is so_far = append_assoc list (pcr ∷ []) (pcrs_from mask (pcr + 1)) ∙ ap (λ l. list ++ l) (sym (from_next mask pcr true lt is)) ∙ so_far

pub listed_out : (mask pcr : ℕ) (list : List ℕ) → pcr < 24 → false ≡ has_pcr mask pcr → list ++ pcrs_from mask pcr ≡ pcrs_of mask → list ++ pcrs_from mask (pcr + 1) ≡ pcrs_of mask
listed_out mask pcr list lt is so_far = ap (λ l. list ++ l) (sym (from_next mask pcr false lt is)) ∙ so_far

pub listed_first : (mask : ℕ) → [] ++ pcrs_from mask 0 ≡ pcrs_of mask
listed_first mask = from_first mask

pub listed_all : (mask : ℕ) (list : List ℕ) → list ++ pcrs_from mask 24 ≡ pcrs_of mask → list ≡ pcrs_of mask
listed_all mask list so_far = sym (append-nil list) ∙ so_far

-- ---- what the list tells

-- no PCR is left at the end
none_left : (mask pcr : ℕ) → pcr + 0 ≡ 24 → pcrs_from mask pcr ≡ []
none_left mask pcr all = let n : 24 - pcr ≡ 0 = omega arith in ap (λ m. filter (has_pcr mask) (range_with_len pcr m)) n

record Within (pcr first : ℕ) : Type 0 where
  above : pcr ≤ first
  below : first < 24

-- the first PCR of a list is one of those that were looked at
first_within : (mask pcr left first : ℕ) (rest : List ℕ) → pcr + left ≡ 24 → pcrs_from mask pcr ≡ first ∷ rest → Within pcr first
first_within mask pcr zero first rest all is = let none = sym (none_left mask pcr all) ∙ is in absurd cc
first_within mask pcr (suc left) first rest all is =
    let here : pcr < 24 = omega arith in
    elim (cases_Bool (has_pcr mask pcr)) [
      | inl there ↦
          let e : pcr ∷ pcrs_from mask (pcr + 1) ≡ first ∷ rest = sym (from_next mask pcr true here (sym there)) ∙ is in
          let same : pcr ≡ first = cc in
          record { above = omega (arith, same); below = omega (arith, same, here) }
      | inr absent ↦
          let w = first_within mask (pcr + 1) left first rest (omega arith) (sym (from_next mask pcr false here (sym absent)) ∙ is) in
          record { above = omega (arith, w.above); below = w.below }
    ]

no_bit : (b : ℕ) → b < 2 → (b ≡ 1 → ⊥) → b ≡ 0
no_bit zero lt n = refl
no_bit (suc zero) lt n = absurd (n refl)
no_bit (suc (suc b)) lt n = absurd (omega arith)

-- a PCR that one mask has and the other hasn't parts their lists
parted : (a b pcr left : ℕ) → pcr + suc left ≡ 24 → has_pcr a pcr ≡ true → has_pcr b pcr ≡ false → pcrs_from a pcr ≡ pcrs_from b pcr → ⊥
parted a b pcr left all there absent same =
    let here : pcr < 24 = omega arith in
    let e : pcrs_from b (pcr + 1) ≡ pcr ∷ pcrs_from a (pcr + 1) = sym (from_next b pcr false here (sym absent)) ∙ sym same ∙ from_next a pcr true here (sym there) in
    let w = first_within b (pcr + 1) left pcr (pcrs_from a (pcr + 1)) (omega arith) e in
    omega (arith, w.above)

-- the bits at and behind a PCR
bits_from : (a b pcr i : ℕ) → bit_at a pcr ≡ bit_at b pcr → (pcr + 1 ≤ i → bit_at a i ≡ bit_at b i) → pcr ≤ i → bit_at a i ≡ bit_at b i
bits_from a b pcr i here behind le =
    elim (cases_eq pcr i) [
      | inl at ↦ ap (bit_at a) (sym at) ∙ here ∙ ap (bit_at b) at
      | inr other ↦ behind (omega arith)
    ]

same_bits : (a b pcr left : ℕ) → pcr + left ≡ 24 → pcrs_from a pcr ≡ pcrs_from b pcr → (i : ℕ) → pcr ≤ i → i < 24 → bit_at a i ≡ bit_at b i
same_bits a b pcr zero all same i le lt = absurd (omega arith)
same_bits a b pcr (suc left) all same i le lt =
    let here : pcr < 24 = omega arith in
    elim (cases_Bool (has_pcr a pcr)) [
      | inl x ↦ elim (cases_Bool (has_pcr b pcr)) [
        | inl y ↦
            let e : pcr ∷ pcrs_from a (pcr + 1) ≡ pcr ∷ pcrs_from b (pcr + 1) = sym (from_next a pcr true here (sym x)) ∙ same ∙ from_next b pcr true here (sym y) in
            let rest : pcrs_from a (pcr + 1) ≡ pcrs_from b (pcr + 1) = cc in
            bits_from a b pcr i (eqb-true (bit_at a pcr) 1 x ∙ sym (eqb-true (bit_at b pcr) 1 y)) (λ above. same_bits a b (pcr + 1) left (omega arith) rest i above lt) le
        | inr y ↦ absurd (parted a b pcr left all x y same)
      ]
      | inr x ↦ elim (cases_Bool (has_pcr b pcr)) [
        | inl y ↦ absurd (parted b a pcr left all y x (sym same))
        | inr y ↦
            let rest : pcrs_from a (pcr + 1) ≡ pcrs_from b (pcr + 1) = sym (from_next a pcr false here (sym x)) ∙ same ∙ from_next b pcr false here (sym y) in
            bits_from a b pcr i (no_bit (bit_at a pcr) (bit_at-lt a pcr) (eqb-false (bit_at a pcr) 1 x) ∙ sym (no_bit (bit_at b pcr) (bit_at-lt b pcr) (eqb-false (bit_at b pcr) 1 y)))
            (λ above. same_bits a b (pcr + 1) left (omega arith) rest i above lt) le
      ]
    ]

-- two masks of the same PCRs are the same
pub same_mask : (a b : ℕ) → a < 2 ^ 24 → b < 2 ^ 24 → pcrs_of a ≡ pcrs_of b → a ≡ b
same_mask a b below_a below_b same =
    same_from_bits_below 24 a b below_a below_b (λ i lt. same_bits a b 0 24 (omega arith) (from_first a ∙ same ∙ sym (from_first b)) i (omega arith) lt)

-- the first of a mask's PCRs is one of 24
pub first_below : (mask first : ℕ) (rest : List ℕ) → pcrs_of mask ≡ first ∷ rest → first ≤ 23
first_below mask first rest is = let w = first_within mask 0 24 first rest (omega arith) (from_first mask ∙ is) in omega (arith, w.below)

-- the mask of one PCR has it alone
pub alone : (pcr : ℕ) → pcr ≤ 23 → pcrs_of (2 ^ pcr) ≡ pcr ∷ []
unfolding pcrs_of
alone zero le = refl
alone (suc zero) le = refl
alone (suc (suc zero)) le = refl
alone (suc (suc (suc zero))) le = refl
alone (suc (suc (suc (suc zero)))) le = refl
alone (suc (suc (suc (suc (suc zero))))) le = refl
alone (suc (suc (suc (suc (suc (suc zero)))))) le = refl
alone (suc (suc (suc (suc (suc (suc (suc zero))))))) le = refl
alone (suc (suc (suc (suc (suc (suc (suc (suc zero)))))))) le = refl
alone (suc (suc (suc (suc (suc (suc (suc (suc (suc zero))))))))) le = refl
alone (suc (suc (suc (suc (suc (suc (suc (suc (suc (suc zero)))))))))) le = refl
alone (suc (suc (suc (suc (suc (suc (suc (suc (suc (suc (suc zero))))))))))) le = refl
alone (suc (suc (suc (suc (suc (suc (suc (suc (suc (suc (suc (suc zero)))))))))))) le = refl
alone (suc (suc (suc (suc (suc (suc (suc (suc (suc (suc (suc (suc (suc zero))))))))))))) le = refl
alone (suc (suc (suc (suc (suc (suc (suc (suc (suc (suc (suc (suc (suc (suc zero)))))))))))))) le = refl
alone (suc (suc (suc (suc (suc (suc (suc (suc (suc (suc (suc (suc (suc (suc (suc zero))))))))))))))) le = refl
alone (suc (suc (suc (suc (suc (suc (suc (suc (suc (suc (suc (suc (suc (suc (suc (suc zero)))))))))))))))) le = refl
alone (suc (suc (suc (suc (suc (suc (suc (suc (suc (suc (suc (suc (suc (suc (suc (suc (suc zero))))))))))))))))) le = refl
alone (suc (suc (suc (suc (suc (suc (suc (suc (suc (suc (suc (suc (suc (suc (suc (suc (suc (suc zero)))))))))))))))))) le = refl
alone (suc (suc (suc (suc (suc (suc (suc (suc (suc (suc (suc (suc (suc (suc (suc (suc (suc (suc (suc zero))))))))))))))))))) le = refl
alone (suc (suc (suc (suc (suc (suc (suc (suc (suc (suc (suc (suc (suc (suc (suc (suc (suc (suc (suc (suc zero)))))))))))))))))))) le = refl
alone (suc (suc (suc (suc (suc (suc (suc (suc (suc (suc (suc (suc (suc (suc (suc (suc (suc (suc (suc (suc (suc zero))))))))))))))))))))) le = refl
alone (suc (suc (suc (suc (suc (suc (suc (suc (suc (suc (suc (suc (suc (suc (suc (suc (suc (suc (suc (suc (suc (suc zero)))))))))))))))))))))) le = refl
alone (suc (suc (suc (suc (suc (suc (suc (suc (suc (suc (suc (suc (suc (suc (suc (suc (suc (suc (suc (suc (suc (suc (suc zero))))))))))))))))))))))) le = refl
alone (suc (suc (suc (suc (suc (suc (suc (suc (suc (suc (suc (suc (suc (suc (suc (suc (suc (suc (suc (suc (suc (suc (suc (suc pcr)))))))))))))))))))))))) le = absurd (omega arith)

-- the empty mask has none
nothing : pcrs_of 0 ≡ []
unfolding pcrs_of
nothing = refl

-- a mask with one PCR is the mask of it
pub one_of : (mask : ℕ) → mask < 2 ^ 24 → length (pcrs_of mask) ≡ 1 → (pcr : ℕ) × (pcr ≤ 23) × (pcrs_of mask ≡ pcr ∷ []) × (mask ≡ 2 ^ pcr)
one_of mask below one = by_list (pcrs_of mask) refl one
  where
    by_list : (list : List ℕ) → pcrs_of mask ≡ list → length list ≡ 1 → (pcr : ℕ) × (pcr ≤ 23) × (pcrs_of mask ≡ pcr ∷ []) × (mask ≡ 2 ^ pcr)
    by_list [] is e = absurd cc
    by_list (pcr ∷ []) is e =
        let few : pcr ≤ 23 = first_below mask pcr [] is in
        let small : 2 ^ pcr < 2 ^ 24 = pow_below pcr 24 (omega (arith, few)) in
        (pcr, few, is, same_mask mask (2 ^ pcr) below small (is ∙ sym (alone pcr few)))
    by_list (pcr ∷ other ∷ list) is e = absurd (omega (arith, e))

-- a mask of some PCRs has one in its list
pub some_listed : (mask : ℕ) → 0 < mask → mask < 2 ^ 24 → 1 ≤ length (pcrs_of mask)
some_listed mask some below = by_list (pcrs_of mask) refl
  where
    by_list : (list : List ℕ) → pcrs_of mask ≡ list → 1 ≤ length (pcrs_of mask)
    by_list [] is = let none : mask ≡ 0 = same_mask mask 0 below (omega arith) (is ∙ sym nothing) in absurd (omega (arith, none))
    by_list (pcr ∷ list) is = omega (arith, ap length is)

-- no mask has more than all
pub few_listed : (mask : ℕ) → length (pcrs_of mask) ≤ 24
unfolding pcrs_of
few_listed mask = omega (arith, length-filter_both (has_pcr mask) (λ p. not (has_pcr mask p)) (λ p. refl) (range_with_len 0 24))
