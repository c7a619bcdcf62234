-- What a device tells around commands that look at the state, or only touch its sessions.
use Rattle.std.specs.Prelude.{◌≡◌, Bool, true, Option, Some}
use Rattle.tpm_model.specs.declared.parts.Parts.{Parts}
use Rattle.tpm_device.specs.Stored.{Stored, Holds}

-- the state is live, and stored where the device tells what it stores
pub record IsLive (keeps : Bool) (s : Parts) (live : Option Parts) (stored : Option Stored) : Type 0 where
  pub now : live ≡ Some s
  pub same : keeps ≡ true → stored ≡ Some (Holds s)

-- the second state differs from the first at most in the open sessions and the next one's number
pub record DiffersInSessions (before now : Parts) : Type 0 where
  pub banks : now.banks ≡ before.banks
  pub pcrs : now.pcrs ≡ before.pcrs
  pub update_counter : now.update_counter ≡ before.update_counter
  pub write_counter : now.write_counter ≡ before.write_counter
  pub next_object : now.next_object ≡ before.next_object
  pub indices : now.indices ≡ before.indices
  pub objects : now.objects ≡ before.objects
