-- One change of the TPM.
use Rattle.std.specs.Prelude.{◌≡◌, ◌⊎◌, Option, Result, Ok, Err}
use Rattle.tpm_model.specs.declared.parts.Parts.{Parts}
use Rattle.tpm_model.specs.Respond.{respond}
use Rattle.tpm_device.specs.Stored.{Stored}
use Rattle.pcrlock_answer.specs.declared.answer.Answer.{Answer}
use Rattle.pcrlock_line.specs.declared.stop.Stop.{Stop}
use Rattle.pcrlock_line.specs.Running.{Runs, Keeps}
use Rattle.pcrlock_update.specs.Changes.{command_of, refusal_in}
use Rattle.pcrlock_update.specs.declared.change.TpmChange.{TpmChange}

-- the TPM answered the change so; after a stop the state before is stored, or the next one
abbrev pub Sent : Result (Option Answer) Stop → Option Parts → Option Stored → TpmChange → Parts → Type 0
Sent (Ok why) now kept change s = (why ≡ refusal_in change (respond (command_of change) s).0) × Runs now kept (respond (command_of change) s).1
Sent (Err stop) now kept change s = Keeps kept s ⊎ Keeps kept (respond (command_of change) s).1
