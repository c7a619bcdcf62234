-- One asked PCR after the other, put to the rows or to those left out.
use Rattle.std.specs.Prelude.{◌≡◌, ℕ, List, [], ◌∷◌, ◌++◌, Option, Some, None, Result, Ok, Err}
use Rattle.policy_digest.specs.declared.table.Row.{Row}
use Rattle.predictor.specs.declared.protection.Cause.{Cause}
use Rattle.predictor.specs.declared.protection.LeftOut.{LeftOut}
use Rattle.predictor.specs.declared.error.ProtectError.{ProtectError}
use Rattle.predictor.specs.declared.protecting.Kept.{Kept}
use Rattle.predictor.specs.Protected.{row_of, left_out, Refuses}

-- a protected PCR's row stands at the end, or its cause does
abbrev pub TakesRow : ℕ → Option Cause → List (List ℕ) → List Row → List Row → List LeftOut → List LeftOut → Type 0
TakesRow pcr None values rows rows_new left left_new = (rows_new ≡ rows ++ row_of pcr values ∷ []) × (left_new ≡ left)
TakesRow pcr (Some cause) values rows rows_new left left_new = (rows_new ≡ rows) × (left_new ≡ left ++ left_out pcr cause ∷ [])

-- a protected PCR stands at the end, or its cause does
abbrev pub TakesPcr : ℕ → Option Cause → List ℕ → List ℕ → List LeftOut → List LeftOut → Type 0
TakesPcr pcr None kept kept_new left left_new = (kept_new ≡ kept ++ pcr ∷ []) × (left_new ≡ left)
TakesPcr pcr (Some cause) kept kept_new left left_new = (kept_new ≡ kept) × (left_new ≡ left ++ left_out pcr cause ∷ [])

-- the refusal is that of the definition, or want of memory
abbrev pub KeptAnswers : Result Kept ProtectError → Result (List ℕ × List LeftOut) ProtectError → Type 0
KeptAnswers (Ok kept) given = given ≡ Ok (kept.pcrs, kept.left)
KeptAnswers (Err e) given = Refuses e given
