-- A device that tells its state.
use Rattle.std.specs.Prelude.{◌≡◌, Option, Some}
use Rattle.tpm_model.specs.declared.parts.Parts.{Parts}
use Rattle.tpm_device.specs.Stored.{Stored, Holds}

-- the state is live and stored
pub record Runs (now : Option Parts) (kept : Option Stored) (s : Parts) : Type 0 where
  pub live : now ≡ Some s
  pub stored : kept ≡ Some (Holds s)

-- the state is stored
pub record Keeps (kept : Option Stored) (s : Parts) : Type 0 where
  pub stored : kept ≡ Some (Holds s)
