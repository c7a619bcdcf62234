-- What was measured into some PCRs before the first EV_SEPARATOR of each, and what behind it. The firmware
-- measures that event into a PCR where it hands over to the operating system (TCG PC Client Platform Firmware
-- Profile). Rows are what was extended, in order.
use Rattle.std.specs.Prelude.{ℕ, ◌==◌, Bool, false, not, ◌&&◌, List, [], ◌∷◌, ◌++◌, map, filter}
use Rattle.std.specs.List.{list_any}
use Rattle.policy_digest.specs.Mask.{has_pcr}
use Rattle.cel_record.specs.Spelled.{Spelled}
use Rattle.pcr_replay.specs.declared.record.Origin.{Origin}
use Rattle.pcr_replay.specs.declared.record.Origin.TheVariants.{Firmware, User}
use Rattle.pcr_replay.specs.Row.{Row}

-- an event of the firmware of the type EV_SEPARATOR
abbrev pub is_separating : Origin → Bool
is_separating (Firmware kind) = kind == 4
is_separating User = false

-- a separator of the PCR
abbrev pub separates : ℕ → Row → Bool
separates pcr r = (r.pcr == pcr) && is_separating r.origin

-- one of the rows is a separator of the PCR
abbrev pub is_separated : ℕ → List Row → Bool
is_separated pcr rows = list_any (separates pcr) rows

-- a row, and all rows that stand before it
pub record Placed : Type 0 where
  pub before : List Row
  pub at : Row

-- each of the rows, where some others stand before them all
abbrev pub placed : List Row → List Row → List Placed
placed before [] = []
placed before (r ∷ more) = record { before = before; at = r } ∷ placed (before ++ r ∷ []) more

-- of a PCR of the mask, with no separator of its PCR before it, and none itself
abbrev pub is_early : ℕ → Placed → Bool
is_early mask p = has_pcr mask p.at.pcr && not (is_separated p.at.pcr (p.before ++ p.at ∷ []))

-- of a PCR of the mask, with a separator of its PCR before it
abbrev pub is_late : ℕ → Placed → Bool
is_late mask p = has_pcr mask p.at.pcr && is_separated p.at.pcr p.before

-- a row as a record of a component file: its PCR and its digests
abbrev pub unplaced : Row → Spelled
unplaced r = record { pcr = r.pcr; digests = r.digests }

-- the records before the first separators of their PCRs, in order
abbrev pub early_of : ℕ → List Row → List Spelled
early_of mask rows = map (λ p. unplaced p.at) (filter (is_early mask) (placed [] rows))

-- the records behind them, in order
abbrev pub late_of : ℕ → List Row → List Spelled
late_of mask rows = map (λ p. unplaced p.at) (filter (is_late mask) (placed [] rows))
