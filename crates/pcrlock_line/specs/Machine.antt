-- What the objects of a command tell.
use Rattle.std.specs.Prelude.{◌≡◌, ℕ, List, Option, Some}
use Rattle.pl_base.specs.FileMap.{FileMap}
use Rattle.tpm_model.specs.declared.parts.Parts.{Parts}
use Rattle.tpm_device.specs.Stored.{Stored, Holds}

-- the files, what the TPM's device stores, and the random words to come
pub record Machine : Type 0 where
  pub files : FileMap
  pub device : Stored
  pub draws : List (List ℕ)

-- a machine whose device stores a state
pub record Live : Type 0 where
  pub files : FileMap
  pub state : Parts
  pub draws : List (List ℕ)

abbrev pub machine : Live → Machine
machine live = record { files = live.files; device = Holds live.state; draws = live.draws }

-- the objects tell this machine
pub record Tells (held : Option FileMap) (stored : Option Stored) (words : Option (List (List ℕ))) (m : Machine) : Type 0 where
  pub files : held ≡ Some m.files
  pub state : stored ≡ Some m.device
  pub draws : words ≡ Some m.draws
