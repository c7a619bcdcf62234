-- The first PCR that differs, PCR after PCR.
use Rattle.std.proofs.Common.{◌≡◌, ℕ, ◌+◌, ◌<◌, true, false, cond, List, ◌∷◌, length, get_or, drop, Option, Some, sym, ap, ◌∙◌, zero-add, arith}
use Rattle.std.specs.Str.{bytes_eq}
use Rattle.policy_digest.specs.Mask.{has_pcr, pcrs_of}
use Rattle.policy_digest.proofs.Masks.{pcrs_from, from_first, from_next}
use Rattle.record_match.proofs.Plainly.{next}
use Rattle.predict_proof.specs.Fault.{first_differing}

pub count_first : (mask total : ℕ) → total ≡ length (pcrs_of mask) → 0 + length (pcrs_from mask 0) ≡ total
count_first mask total h = zero-add (length (pcrs_from mask 0)) ∙ ap length (from_first mask) ∙ sym h

pub differ_first : (held : ℕ → List ℕ) (mask : ℕ) (values : List (List ℕ)) → first_differing held (pcrs_from mask 0) values ≡ first_differing held (pcrs_of mask) values
differ_first held mask values = ap (λ ps. first_differing held ps values) (from_first mask)

differ_step : (held : ℕ → List ℕ) (mask pcr place : ℕ) (values : List (List ℕ)) (v : List ℕ) → pcr < 24 → true ≡ has_pcr mask pcr → place < length values → v ≡ get_or values place v
    → first_differing held (pcrs_from mask pcr) (drop place values) ≡ cond (bytes_eq (held pcr) v) (first_differing held (pcrs_from mask (pcr + 1)) (drop (place + 1) values)) (Some (pcr, held pcr))
differ_step held mask pcr place values v lt there room is =
    ap (λ ps. first_differing held ps (drop place values)) (from_next mask pcr true lt there) ∙ ap (first_differing held (pcr ∷ pcrs_from mask (pcr + 1))) (next values place v room is)

pub differ_next : (held : ℕ → List ℕ) (mask pcr place : ℕ) (values : List (List ℕ)) (v : List ℕ) (whole : Option (ℕ × List ℕ)) → pcr < 24 → true ≡ has_pcr mask pcr → place < length values → v ≡ get_or values place v → bytes_eq (held pcr) v ≡ true
    → first_differing held (pcrs_from mask pcr) (drop place values) ≡ whole → first_differing held (pcrs_from mask (pcr + 1)) (drop (place + 1) values) ≡ whole
differ_next held mask pcr place values v whole lt there room is same so_far =
    sym (differ_step held mask pcr place values v lt there room is ∙ ap (λ b. cond b (first_differing held (pcrs_from mask (pcr + 1)) (drop (place + 1) values)) (Some (pcr, held pcr))) same) ∙ so_far

pub differ_here : (held : ℕ → List ℕ) (mask pcr place : ℕ) (values : List (List ℕ)) (v : List ℕ) (whole : Option (ℕ × List ℕ)) → pcr < 24 → true ≡ has_pcr mask pcr → place < length values → v ≡ get_or values place v → bytes_eq (held pcr) v ≡ false
    → first_differing held (pcrs_from mask pcr) (drop place values) ≡ whole → Some (pcr, held pcr) ≡ whole
differ_here held mask pcr place values v whole lt there room is other so_far =
    sym (differ_step held mask pcr place values v lt there room is ∙ ap (λ b. cond b (first_differing held (pcrs_from mask (pcr + 1)) (drop (place + 1) values)) (Some (pcr, held pcr))) other) ∙ so_far

pub differ_skip : (held : ℕ → List ℕ) (mask pcr : ℕ) (values : List (List ℕ)) (whole : Option (ℕ × List ℕ)) → pcr < 24 → false ≡ has_pcr mask pcr → first_differing held (pcrs_from mask pcr) values ≡ whole → first_differing held (pcrs_from mask (pcr + 1)) values ≡ whole
differ_skip held mask pcr values whole lt there so_far = sym (ap (λ ps. first_differing held ps values) (from_next mask pcr false lt there)) ∙ so_far

-- a PCR of the mask has its value
pub has_room : (mask pcr place total : ℕ) → pcr < 24 → true ≡ has_pcr mask pcr → place + length (pcrs_from mask pcr) ≡ total → place < total
has_room mask pcr place total lt there so_far = omega (arith, ap length (from_next mask pcr true lt there))
