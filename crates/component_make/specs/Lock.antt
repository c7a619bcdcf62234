-- What a lock of some PCRs answers of what was extended.
use Rattle.std.specs.Prelude.{◌≡◌, ◌≤◌, ◌<◌, ◌⊎◌, ⊤, ℕ, ◌==◌, Bool, true, false, not, ◌&&◌, List, length, map, Result, Ok, Err}
use Rattle.std.specs.List.{list_any}
use Rattle.policy_digest.specs.Mask.{has_pcr}
use Rattle.cel_record.specs.ComponentText.{record_limit}
use Rattle.cel_record.specs.Spelled.{spelled}
use Rattle.pcr_replay.specs.Row.{Row}
use Rattle.component_make.specs.declared.locked.Locked.{Locked}
use Rattle.component_make.specs.declared.error.LockError.{LockError}
use Rattle.component_make.specs.declared.error.LockError.TheVariants.{NoSeparator, TooMany, Memory}
use Rattle.component_make.specs.EarlyLate.{is_separated, early_of, late_of}

-- something was extended into the PCR
abbrev pub is_extended : ℕ → List Row → Bool
is_extended pcr rows = list_any (λ r. r.pcr == pcr) rows

-- the PCR is one of the mask, and something was extended into it, but no separator
abbrev pub lacks_separator : ℕ → List Row → ℕ → Bool
lacks_separator mask rows pcr = has_pcr mask pcr && (is_extended pcr rows && not (is_separated pcr rows))

-- the least PCR that lacks its separator
pub record IsFirstLacking (mask : ℕ) (rows : List Row) (pcr : ℕ) : Type 0 where
  pub lacks : lacks_separator mask rows pcr ≡ true
  pub least : (p : ℕ) → p < pcr → lacks_separator mask rows p ≡ false

-- no PCR does
abbrev pub AreSeparated : ℕ → List Row → Type 0
AreSeparated mask rows = (pcr : ℕ) → lacks_separator mask rows pcr ≡ false

-- one of the two lists is longer than a component file may be
abbrev pub IsTooMuch : ℕ → List Row → Type 0
IsTooMuch mask rows = (record_limit < length (early_of mask rows)) ⊎ (record_limit < length (late_of mask rows))

-- the two lists, which a component file can hold
pub record IsLock (mask : ℕ) (rows : List Row) (l : Locked) : Type 0 where
  pub separated : AreSeparated mask rows
  pub early : map spelled l.early ≡ early_of mask rows
  pub late : map spelled l.late ≡ late_of mask rows
  pub early_fits : length l.early ≤ record_limit
  pub late_fits : length l.late ≤ record_limit

-- the answer, but for want of memory
abbrev pub IsAnswer : ℕ → List Row → Result Locked LockError → Type 0
IsAnswer mask rows (Ok l) = IsLock mask rows l
IsAnswer mask rows (Err (NoSeparator pcr)) = IsFirstLacking mask rows pcr
IsAnswer mask rows (Err TooMany) = AreSeparated mask rows × IsTooMuch mask rows
IsAnswer mask rows (Err Memory) = ⊤
