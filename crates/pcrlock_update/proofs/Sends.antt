-- The rules of a state after a change of the TPM.
use Rattle.std.proofs.Common.{◌≡◌, ◌⊎◌, subst}
use Rattle.std.specs.Prelude.{Option, Some}
use Rattle.tpm_model.specs.declared.command.Command.{Command}
use Rattle.tpm_model.specs.declared.parts.Parts.{Parts}
use Rattle.tpm_model.specs.Respond.{respond}
use Rattle.tpm_device.specs.Stored.{Stored, Holds}
use Rattle.pcrlock_line.specs.Running.{Keeps}
use Rattle.pcrlock_update.specs.Changes.{command_of}
use Rattle.pcrlock_update.specs.declared.change.TpmChange.{TpmChange}
use Rattle.pcrlock_update.proofs.Removed.{either}

-- after a stop the state before is stored, or the next one
pub send_stopped : (now : Option Stored) (c : TpmChange) (given : Command) (s : Parts) → given ≡ command_of c
    → (now ≡ Some (Holds s)) ⊎ (now ≡ Some (Holds (respond given s).1)) → Keeps now s ⊎ Keeps now (respond (command_of c) s).1
send_stopped now c given s is stop =
    either now s (respond (command_of c) s).1
    (subst (λ (x : Command). (now ≡ Some (Holds s)) ⊎ (now ≡ Some (Holds (respond x s).1))) is stop)
