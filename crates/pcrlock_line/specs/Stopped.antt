-- What stands after a stop: files and stored state are those after some of the command's changes. The
-- open sessions and the number of the next one are left free.
use Rattle.std.specs.Prelude.{◌≡◌, ◌⊎◌, List, [], ◌∷◌, Option, Some}
use Rattle.pl_base.specs.FileMap.{FileMap}
use Rattle.tpm_model.specs.declared.parts.Parts.{Parts}
pub use Rattle.tpm_device.specs.Running.{DiffersInSessions}
use Rattle.tpm_device.specs.Stored.{Stored, Holds, TooLarge, Malformed, BadRule}
use Rattle.pcrlock_line.specs.Machine.{Machine}

-- the same is stored, but for sessions
abbrev pub IsStoredSo : Stored → Stored → Type 0
IsStoredSo (Holds before) now = (s : Parts) × (now ≡ Holds s) × DiffersInSessions before s
IsStoredSo (TooLarge size) now = now ≡ TooLarge size
IsStoredSo (Malformed place) now = now ≡ Malformed place
IsStoredSo (BadRule rule) now = now ≡ BadRule rule

-- the objects tell the machine's files, and its stored state but for sessions
pub record StandsAt (held : Option FileMap) (stored : Option Stored) (m : Machine) : Type 0 where
  pub files : held ≡ Some m.files
  pub device : Stored
  pub tells : stored ≡ Some device
  pub same : IsStoredSo m.device device

-- the objects tell those of one of the machines
abbrev pub StandsAmong : Option FileMap → Option Stored → List Machine → Type 0
StandsAmong held stored [] = ⊥
StandsAmong held stored (m ∷ machines) = StandsAt held stored m ⊎ StandsAmong held stored machines
