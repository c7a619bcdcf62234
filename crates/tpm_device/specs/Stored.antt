-- What a device keeps, and what its calls answer and leave.
use Rattle.std.specs.Prelude.{◌≡◌, ◌⊎◌, ℕ, Bool, true, false, Option, Some, Result, Ok, Err}
use Rattle.tpm_model.specs.declared.command.Command.{Command}
use Rattle.tpm_model.specs.declared.response.Response.{Response}
use Rattle.tpm_model.specs.declared.rules.StateRule.{StateRule}
use Rattle.tpm_model.specs.declared.parts.Parts.{Parts}
use Rattle.tpm_model.specs.Respond.{respond}
use Rattle.tpm_device.specs.declared.device.BeginError.{BeginError}
use Rattle.tpm_device.specs.declared.device.BeginError.TheVariants as begin
use Rattle.tpm_device.specs.declared.device.ExecError.{ExecError}
use Rattle.tpm_device.specs.declared.device.ExecError.TheVariants as exec

-- what is stored: a state, or what is none
pub data Stored : Type 0 where
  Holds : Parts → Stored
  TooLarge : ℕ → Stored
  Malformed : ℕ → Stored
  BadRule : StateRule → Stored

-- the answer of begin is what is stored, and the live state is the stored one
abbrev pub BeginGives : Stored → Result Unit BeginError → Option Parts → Type 0
BeginGives kept (Ok _) now = (s : Parts) × (kept ≡ Holds s) × (now ≡ Some s)
BeginGives kept (Err (begin.TooLarge size)) now = kept ≡ TooLarge size
BeginGives kept (Err (begin.Malformed place)) now = kept ≡ Malformed place
BeginGives kept (Err (begin.BadRule rule)) now = kept ≡ BadRule rule
BeginGives kept (Err begin.Failed) now = Unit {0}
BeginGives kept (Err begin.Memory) now = Unit {0}

-- whether the device is ready after a command: after a failure it isn't
abbrev pub stays_ready : Result Response ExecError → Bool
stays_ready (Ok answer) = true
stays_ready (Err exec.Failed) = false
stays_ready (Err exec.Memory) = true

-- the answer is the state's, and the next state is live; a failure ends the device's readiness, want
-- of memory changes nothing
abbrev pub ExecuteGives : Command → Parts → Result Response ExecError → Bool → Option Parts → Type 0
ExecuteGives command s (Ok answer) ready now = (answer ≡ (respond command s).0) × (now ≡ Some (respond command s).1) × (ready ≡ true)
ExecuteGives command s (Err exec.Failed) ready now = ready ≡ false
ExecuteGives command s (Err exec.Memory) ready now = (now ≡ Some s) × (ready ≡ true)

-- what is stored afterwards: the next state; after a failure that or the one before
abbrev pub ExecuteStores : Command → Parts → Result Response ExecError → Option Stored → Type 0
ExecuteStores command s (Ok answer) now = now ≡ Some (Holds (respond command s).1)
ExecuteStores command s (Err exec.Failed) now = (now ≡ Some (Holds s)) ⊎ (now ≡ Some (Holds (respond command s).1))
ExecuteStores command s (Err exec.Memory) now = now ≡ Some (Holds s)
