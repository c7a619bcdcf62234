-- The value of a PCR as the TPM answers it.
use Rattle.std.specs.Prelude.{ℕ, ◌==◌, if◌then◌else◌, List, length, Option, None, Some, Result, Ok, Err}
use Rattle.hash_bank.specs.declared.bank.Bank.{Bank}
use Rattle.hash_bank.specs.Hash.{size_in}
use Rattle.tpm_model.specs.declared.response.Response.{Response}
use Rattle.tpm_model.specs.declared.response.Response.TheVariants as answer
use Rattle.tpm_model.specs.declared.response.Refusal.TheVariants as refusal
use Rattle.pcrlock_line.specs.declared.stop.Stop.{Stop}
use Rattle.pcrlock_line.specs.declared.stop.Stop.TheVariants as stop

-- what an answer to a read tells: a value of the bank's length, or that the bank isn't present; no state
-- gives another one
abbrev pub reading_of : Bank → Response → Result (Option (List ℕ)) Stop
reading_of bank (answer.Pcr value) = if length value == size_in bank then Ok (Some value) else Err stop.Memory
reading_of bank (answer.Refused (refusal.BankAbsent absent)) = Ok None
reading_of bank _ = Err stop.Memory
