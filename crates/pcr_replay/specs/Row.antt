-- A record of the combined log as plain data.
use Rattle.std.specs.Prelude.{ℕ, List, map}
use Rattle.cel_record.specs.Listed.{Listed, listed}
use Rattle.pcr_replay.specs.declared.record.Origin.{Origin}
use Rattle.pcr_replay.specs.declared.record.LogRecord.{LogRecord}

pub record Row : Type 0 where
  pub origin : Origin
  pub pcr : ℕ
  pub digests : Listed

-- a record, without where it lies in memory
abbrev pub row : LogRecord → Row
row r = record { origin = r.origin; pcr = r.pcr; digests = listed r.digests }

abbrev pub rows : List LogRecord → List Row
rows list = map row list
