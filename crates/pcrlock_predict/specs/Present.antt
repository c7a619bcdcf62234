-- What the PCRs hold that are asked for.
use Rattle.std.specs.Prelude.{◌≡◌, ℕ, if◌then◌else◌, List, length, map, Option, None, Some, Result, Ok, Err}
use Rattle.std.specs.List.{All, range_with_len}
use Rattle.hash_bank.specs.declared.bank.Bank.{Bank}
use Rattle.hash_bank.specs.Hash.{size_in, zeros_in}
use Rattle.pcr_replay.specs.Measured.{all_present}
use Rattle.policy_digest.specs.Mask.{has_pcr}
use Rattle.tpm_model.specs.declared.parts.Parts.{Parts}
use Rattle.tpm_model.specs.Pcrs.{pcr_of}
use Rattle.tpm_device.specs.Stored.{Stored}
use Rattle.pcrlock_answer.specs.declared.answer.Answer.{Answer}
use Rattle.pcrlock_answer.specs.declared.answer.Answer.TheVariants as said
use Rattle.pcrlock_line.specs.Begun.{by_stored}

-- a PCR's value, where its bank is present; zeros stand for the value of a PCR that isn't asked for
abbrev pub asked_value : Bank → ℕ → Parts → ℕ → Option (List ℕ)
asked_value bank asked s pcr = if has_pcr asked pcr then pcr_of s.banks s.pcrs bank pcr else Some (zeros_in bank)

-- the values of the 24 PCRs, if each that is asked for has one
unfoldable pub present_of : Bank → ℕ → Parts → Option (List (List ℕ))
present_of bank asked s = all_present (map (asked_value bank asked s) (range_with_len 0 24))

-- a value of the bank's length for each of the 24 PCRs
pub record AreValues (bank : Bank) (values : List (List ℕ)) : Type 0 where
  pub count : length values ≡ 24
  pub sizes : All (λ v. length v ≡ size_in bank) values

-- the values, or that the bank isn't present
abbrev pub values_or_absent : Bank → Option (List (List ℕ)) → Result (List (List ℕ)) Answer
values_or_absent bank (Some values) = Ok values
values_or_absent bank None = Err (said.BankAbsent bank)

-- by what is stored at the path: the values of the asked PCRs, or why there is no state
abbrev pub values_at : List ℕ → Bank → ℕ → Stored → Result (List (List ℕ)) Answer
values_at path bank asked kept = by_stored kept path (λ s. values_or_absent bank (present_of bank asked s)) (λ answer. Err answer)
