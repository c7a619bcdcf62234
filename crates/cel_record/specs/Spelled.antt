-- A record as plain data.
use Rattle.std.specs.Prelude.{ℕ}
use Rattle.cel_record.specs.Listed.{Listed, listed}
use Rattle.cel_record.specs.declared.record.CelRecord.{CelRecord}

-- a record's PCR and digests
pub record Spelled : Type 0 where
  pub pcr : ℕ
  pub digests : Listed

-- a record, without where it lies in memory
abbrev pub spelled : CelRecord → Spelled
spelled r = record { pcr = r.pcr; digests = listed r.digests }
