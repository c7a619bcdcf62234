-- A mask below 2 ^ 24 has PCRs below 24 alone.
use Rattle.std.proofs.Common.{◌≡◌, ◌≤◌, ◌<◌, ◌^◌, ℕ, false, eqb, not, ◌&&◌, List, ap, inl, inr}
use Rattle.std.proofs.lemmas.Bool.{cases_lt}
use Rattle.std.proofs.lemmas.Nat.Bits.{bit_at_above}
use Rattle.policy_digest.specs.Mask.{has_pcr}
use Rattle.pcr_replay.specs.Row.{Row}
use Rattle.component_make.specs.EarlyLate.{is_separated}
use Rattle.component_make.specs.Lock.{is_extended, lacks_separator}

outside : (mask pcr : ℕ) → mask < 2 ^ 24 → 24 ≤ pcr → has_pcr mask pcr ≡ false
outside mask pcr small above = ap (λ n. eqb n 1) (bit_at_above mask 24 pcr small above)

pub lacks_none : (mask : ℕ) (rows : List Row) → mask < 2 ^ 24 → ((k : ℕ) → k < 24 → lacks_separator mask rows k ≡ false) → (k : ℕ) → lacks_separator mask rows k ≡ false
lacks_none mask rows small none k =
    elim (cases_lt k 24) [
      | inl below ↦ none k below
      | inr above ↦ ap (λ b. b && (is_extended k rows && not (is_separated k rows))) (outside mask k small above)
    ]
