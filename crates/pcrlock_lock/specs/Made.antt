-- For private clauses: the lists of a lock as the records of two files.
use Rattle.std.specs.Prelude.{◌≤◌, List, [], ◌∷◌, length, map}
use Rattle.cel_record.specs.ComponentText.{record_limit}
use Rattle.cel_record.specs.Spelled.{spelled}
use Rattle.component_make.specs.declared.locked.Locked.{Locked}
use Rattle.pcrlock_lock.specs.declared.firmware_lock.MadeFile.{MadeFile}
use Rattle.pcrlock_deeds.specs.Acts.{FileStep, Written}
use Rattle.pcrlock_deeds.specs.Deed.{keeps}
use Rattle.pcrlock_lock.specs.LockFirmware.{Halves}

abbrev pub halves : Locked → Halves
halves l = record { early = map spelled l.early; late = map spelled l.late }

-- a component file can hold each
pub record AreFitting (l : Locked) : Type 0 where
  pub early : length l.early ≤ record_limit
  pub late : length l.late ≤ record_limit

-- two files are written, one after the other
abbrev pub both : MadeFile → MadeFile → List FileStep
both a b = Written a.path a.bytes.items keeps ∷ Written b.path b.bytes.items keeps ∷ []
