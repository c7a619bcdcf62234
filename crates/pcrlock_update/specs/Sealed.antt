-- A pin is sealed, bound to the index that is written with it.
use Rattle.std.specs.Prelude.{◌≡◌, ◌⊎◌, ℕ, ◌&&◌, nat_le, if◌then◌else◌, List, [], ◌∷◌, codes, Option, None, Some, Result, Ok, Err}
use Rattle.tpm_model.specs.declared.parts.Parts.{Parts}
use Rattle.tpm_model.specs.declared.response.Response.{Response}
use Rattle.tpm_model.specs.declared.response.Response.TheVariants as answer
use Rattle.tpm_model.specs.declared.response.Refusal.TheVariants as refusal
use Rattle.tpm_model.specs.Binding.{index_policy}
use Rattle.tpm_model.specs.ObjectCommands.{seal}
use Rattle.tpm_device.specs.Stored.{Stored}
use Rattle.pcrlock_answer.specs.declared.answer.Answer.{Answer}
use Rattle.pcrlock_answer.specs.declared.answer.Answer.TheVariants as said
use Rattle.pcrlock_line.specs.declared.stop.Stop.{Stop}
use Rattle.pcrlock_line.specs.Machine.{Live, machine}
use Rattle.pcrlock_line.specs.Running.{Runs, Keeps}
use Rattle.pcrlock_update.specs.Changes.{Made, made_next}

-- the handle of the object, or why there is none: there are 64, or all numbers of objects were used. For a pin no state
-- with rules answers otherwise; another answer is taken for want of memory
abbrev pub sealed_in : Response → Result ℕ Answer
sealed_in (answer.Object handle) =
    if nat_le 0x81000000 handle && nat_le handle 0x817FFFFF then Ok handle else Err said.Memory
sealed_in (answer.Refused refusal.ObjectsFull) = Err (said.Limit (codes "objects") 65)
sealed_in (answer.Refused refusal.HandlesEnd) = Err (said.Limit (codes "handles") 0x00800000)
sealed_in other = Err said.Memory

-- the pin is sealed to the policy of the index (TPM 2.0 Library Part 3, TPM2_Create)
abbrev pub pin_sealed : ℕ → List ℕ → Parts → Response × Parts
pin_sealed index pin s = seal (index_policy index pin) pin s

-- what else is to be done goes by the object's handle
abbrev pub object_made : Result ℕ Answer → Live → Live → (ℕ → Live → Made) → Made
object_made (Ok object) m n rest = made_next None m n (rest object)
object_made (Err why) m n rest = record { refusal = Some why; after = n; stops = machine m ∷ machine n ∷ [] }

abbrev pub pin_made : ℕ → List ℕ → (ℕ → Live → Made) → Live → Made
pin_made index pin rest m =
    object_made (sealed_in (pin_sealed index pin m.state).0) m (record m { state = (pin_sealed index pin m.state).1 }) rest

-- the TPM answered so; after a stop the state before is stored, or the next one
abbrev pub SealedSo : Result (Result ℕ Answer) Stop → Option Parts → Option Stored → ℕ → List ℕ → Parts → Type 0
SealedSo (Ok sealed) now kept index pin s = (sealed ≡ sealed_in (pin_sealed index pin s).0) × Runs now kept (pin_sealed index pin s).1
SealedSo (Err stop) now kept index pin s = Keeps kept s ⊎ Keeps kept (pin_sealed index pin s).1
