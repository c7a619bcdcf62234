-- The numbers of a mask's PCRs as they are written, one after the other.
use Rattle.std.proofs.Common.{◌≡◌, ℕ, ◌+◌, ◌<◌, Bool, true, false, cond, List, [], ◌∷◌, ◌++◌, refl, sym, ap, ◌∙◌, append_assoc}
use Rattle.std.proofs.lemmas.List.{append-nil}
use Rattle.policy_digest.specs.Mask.{has_pcr}
use Rattle.policy_digest.proofs.Masks.{pcrs_from, from_next}
use Rattle.policy_file.specs.PolicyText.{alone_in}

-- one PCR and those behind it
pub from_step : (mask pcr : ℕ) → pcr < 24 → alone_in mask pcr ++ pcrs_from mask (pcr + 1) ≡ pcrs_from mask pcr
from_step mask pcr lt = by_test (has_pcr mask pcr) refl
  where
    by_test : (b : Bool) → has_pcr mask pcr ≡ b → cond b (pcr ∷ []) [] ++ pcrs_from mask (pcr + 1) ≡ pcrs_from mask pcr
    by_test true e = sym (from_next mask pcr true lt (sym e))
    by_test false e = sym (from_next mask pcr false lt (sym e))

-- numbers written, and those that are left
pub one_more : (mask pcr : ℕ) (so_far now whole : List ℕ) → pcr < 24 → so_far ++ pcrs_from mask pcr ≡ whole → now ≡ so_far ++ alone_in mask pcr → now ++ pcrs_from mask (pcr + 1) ≡ whole
one_more mask pcr so_far now whole lt all e =
    ap (λ (l : List ℕ). l ++ pcrs_from mask (pcr + 1)) e
    ∙ append_assoc so_far (alone_in mask pcr) (pcrs_from mask (pcr + 1))
    ∙ ap (λ (l : List ℕ). so_far ++ l) (from_step mask pcr lt) ∙ all

pub none_more : (mask : ℕ) (so_far whole : List ℕ) → so_far ++ pcrs_from mask 24 ≡ whole → so_far ≡ whole
none_more mask so_far whole all = sym (append-nil so_far) ∙ all
