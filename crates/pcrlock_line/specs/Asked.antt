-- What a device answers and leaves where it tells its live state and stores it.
use Rattle.std.specs.Prelude.{◌≡◌, ◌⊎◌, Bool, true, Option, Some}
use Rattle.tpm_model.specs.declared.command.Command.{Command}
use Rattle.tpm_model.specs.declared.response.Response.{Response}
use Rattle.tpm_model.specs.declared.parts.Parts.{Parts}
use Rattle.tpm_model.specs.Respond.{respond}
use Rattle.tpm_device.specs.Stored.{Stored, Holds}

-- the answer is the state's, the next state is live and stored, and the device stays ready
pub record IsAnswered (command : Command) (s : Parts) (response : Response) (readiness : Bool) (now : Option Parts) (kept : Option Stored) : Type 0 where
  pub answer : response ≡ (respond command s).0
  pub live : now ≡ Some (respond command s).1
  pub stored : kept ≡ Some (Holds (respond command s).1)
  pub ready : readiness ≡ true

-- after a stop the state before is stored, or the next one
abbrev pub IsStopped : Command → Parts → Option Stored → Type 0
IsStopped command s stored = (stored ≡ Some (Holds s)) ⊎ (stored ≡ Some (Holds (respond command s).1))
