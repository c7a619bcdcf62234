-- The world that is tied to what a device stores.
use Rattle.std.specs.Prelude.{◌≡◌, true}
use Rattle.tpm_model.specs.declared.parts.Parts.{Parts}
use Rattle.tpm_model.specs.ObjectRules.{keeps_object_order}
use Rattle.tpm_model.specs.World.{World}
use Rattle.tpm_model.specs.Tied.{Tied}
use Rattle.tpm_device.specs.Stored.{Stored, Holds, TooLarge, Malformed, BadRule}
use Rattle.pcrlock_line.specs.Machine.{Machine, Live}

-- a state is stored, in whose order of objects the world is tied to it
pub record IsTiedTo (s : Parts) (w : World) : Type 0 where
  pub tied : Tied s w
  pub order : keeps_object_order s ≡ true

abbrev pub IsTied : Stored → World → Type 0
IsTied (Holds s) w = IsTiedTo s w
IsTied (TooLarge size) w = ⊥
IsTied (Malformed place) w = ⊥
IsTied (BadRule rule) w = ⊥

-- where a state is stored, the world follows it
abbrev pub by_state : Stored → Machine → World → (Live → World → World) → World
by_state (Holds s) m w step = step (record { files = m.files; state = s; draws = m.draws }) w
by_state (TooLarge size) m w step = w
by_state (Malformed place) m w step = w
by_state (BadRule rule) m w step = w
