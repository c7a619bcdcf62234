-- For private clauses: what is kept of the rows so far.
use Rattle.std.specs.Prelude.{◌≡◌, ℕ, ◌+◌, ◌<◌, Bool, true, false, List, map, take, slice_index_or}
use Rattle.cel_record.specs.ComponentText.{record_limit}
use Rattle.cel_record.specs.Spelled.{Spelled, spelled}
use Rattle.pcr_replay.specs.Row.{Row}
use Rattle.component_make.specs.declared.locked.Locked.{Locked}
use Rattle.component_make.specs.declared.marks.Marks.{Marks}
use Rattle.component_make.specs.declared.parting.Side.{Side}
use Rattle.component_make.specs.declared.parting.Side.TheVariants.{Early, Late, Neither}
use Rattle.component_make.specs.EarlyLate.{is_separated, early_of, late_of}
use Rattle.component_make.specs.Lock.{is_extended}

-- on which side of its PCR's separator a record stands, by whether its PCR is one of the mask, whether a
-- separator of the PCR stands before it, and whether it is one
abbrev pub side_by : Bool → Bool → Bool → Side
side_by false behind separates = Neither
side_by true true separates = Late
side_by true false true = Neither
side_by true false false = Early

-- some records, up to one more than a component file may have
abbrev pub front : List Spelled → List Spelled
front records = take (record_limit + 1) records

-- the two lists, up to one more record than a component file may have
pub record IsParted (mask : ℕ) (rows : List Row) (l : Locked) : Type 0 where
  pub early : map spelled l.early ≡ front (early_of mask rows)
  pub late : map spelled l.late ≡ front (late_of mask rows)

-- each PCR's flag is what the test says
abbrev pub AreFlags : (ℕ → Bool) → List Bool → Type 0
AreFlags test flags = (pcr : ℕ) → pcr < 24 → slice_index_or flags pcr false ≡ test pcr

-- into which PCRs something was extended, and which have a separator
pub record IsMarked (rows : List Row) (m : Marks) : Type 0 where
  pub extended : AreFlags (λ pcr. is_extended pcr rows) m.extended
  pub separated : AreFlags (λ pcr. is_separated pcr rows) m.separated
