-- The PCRs of a mask, one after the other.
use Rattle.std.proofs.Common.{◌≡◌, ℕ, suc, ◌+◌, ◌-◌, ◌<◌, Bool, true, false, cond, List, ◌∷◌, length, refl, sym, ap, ◌∙◌, arith}
use Rattle.std.specs.Prelude.{filter}
use Rattle.std.specs.List.{range_with_len}
use Rattle.policy_digest.specs.Mask.{has_pcr, pcrs_of}

-- the PCRs of a mask from one on
abbrev pub pcrs_from : ℕ → ℕ → List ℕ
pcrs_from mask pcr = filter (has_pcr mask) (range_with_len pcr (24 - pcr))

pub from_first : (mask : ℕ) → pcrs_from mask 0 ≡ pcrs_of mask
unfolding pcrs_of
from_first mask = refl

pub from_next : (mask pcr : ℕ) (b : Bool) → pcr < 24 → b ≡ has_pcr mask pcr → pcrs_from mask pcr ≡ cond b (pcr ∷ pcrs_from mask (pcr + 1)) (pcrs_from mask (pcr + 1))
from_next mask pcr b lt is =
    let n : 24 - pcr ≡ suc (24 - (pcr + 1)) = omega arith in
    ap (λ m. filter (has_pcr mask) (range_with_len pcr m)) n ∙ ap (λ t. cond t (pcr ∷ pcrs_from mask (pcr + 1)) (pcrs_from mask (pcr + 1))) (sym is)

pub counted_in : (mask pcr count total : ℕ) → pcr < 24 → true ≡ has_pcr mask pcr → count + length (pcrs_from mask pcr) ≡ total → count + 1 + length (pcrs_from mask (pcr + 1)) ≡ total
counted_in mask pcr count total lt is so_far = omega (arith, ap length (from_next mask pcr true lt is))

pub counted_out : (mask pcr count total : ℕ) → pcr < 24 → false ≡ has_pcr mask pcr → count + length (pcrs_from mask pcr) ≡ total → count + length (pcrs_from mask (pcr + 1)) ≡ total
counted_out mask pcr count total lt is so_far = omega (arith, ap length (from_next mask pcr false lt is))

pub counted_all : (mask count total : ℕ) → count + length (pcrs_from mask 24) ≡ total → count ≡ total
counted_all mask count total so_far = omega arith
