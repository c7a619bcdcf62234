-- What the commands on PCRs answer and leave.
use Rattle.std.specs.Prelude.{ℕ, ◌+◌, nat_lt, ◌==◌, Bool, not, ◌||◌, if◌then◌else◌, List, [], Option, None, Some}
use Rattle.hash_bank.specs.declared.bank.Bank.{Bank}
use Rattle.hash_bank.specs.declared.banks.Banks.{Banks}
use Rattle.hash_bank.specs.declared.digests.Digests.{Digests}
use Rattle.tpm_model.specs.declared.response.Response.{Response}
use Rattle.tpm_model.specs.declared.response.Response.TheVariants as answer
use Rattle.tpm_model.specs.declared.response.Refusal.TheVariants as refusal
use Rattle.tpm_model.specs.declared.response.Counter.TheVariants as counter
use Rattle.tpm_model.specs.declared.parts.Parts.{Parts}
use Rattle.tpm_model.specs.Pcrs.{pcr_of, after_extend, bank_count}
use Rattle.tpm_model.specs.StartValues.{start_values}
use Rattle.tpm_model.specs.Refusing.{refused}

-- whether a machine may start at the locality: 0, 3 or 4
abbrev pub is_start_locality : ℕ → Bool
is_start_locality locality = locality == 0 || locality == 3 || locality == 4

-- a restart of the machine at a locality, with exactly these banks: their PCRs have their start
-- values, no session is open, and the counter is 0 (TPM 2.0 Library Part 3, TPM2_Startup)
abbrev pub restart : ℕ → Banks → Parts → Response × Parts
restart locality banks s =
    if not (is_start_locality locality) || bank_count banks == 0 then refused refusal.Value s
    else (answer.Done, record s { banks = banks; pcrs = start_values banks locality; update_counter = 0; sessions = [] })

-- an extend in each present bank with a digest; the counter rises by one (TPM 2.0 Library Part 3,
-- TPM2_PCR_Extend)
abbrev pub pcr_extend : ℕ → Digests → Parts → Response × Parts
pcr_extend pcr digests s =
    if nat_lt 23 pcr then refused refusal.Value s
    else if s.update_counter == 4294967295 then refused (refusal.CounterEnd counter.Update) s
    else (answer.Done, record s { pcrs = after_extend s.banks pcr digests s.pcrs; update_counter = s.update_counter + 1 })

-- the value, or that its bank isn't present
abbrev pub value_or_absent : Bank → Option (List ℕ) → Parts → Response × Parts
value_or_absent bank None s = refused (refusal.BankAbsent bank) s
value_or_absent bank (Some value) s = (answer.Pcr value, s)

-- the value of a PCR (TPM 2.0 Library Part 3, TPM2_PCR_Read)
abbrev pub pcr_read : Bank → ℕ → Parts → Response × Parts
pcr_read bank pcr s =
    if nat_lt 23 pcr then refused refusal.Value s
    else value_or_absent bank (pcr_of s.banks s.pcrs bank pcr) s
