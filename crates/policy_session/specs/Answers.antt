-- Which results are answers of the TPM.
use Rattle.std.specs.Prelude.{◌≡◌, Bool, true, false, Result, Ok, Err, Option, Some}
use Rattle.tpm_model.specs.declared.parts.Parts.{Parts}
use Rattle.policy_session.specs.declared.error.UnsealError.{UnsealError}
use Rattle.policy_session.specs.declared.error.UnsealError.TheVariants as error

-- whether an error is a refusal: each is, but a fault of the device and want of memory
abbrev pub is_refusal : UnsealError → Bool
is_refusal error.Failed = false
is_refusal error.Memory = false
is_refusal error.SessionsFull = true
is_refusal error.HandlesEnd = true
is_refusal (error.BankAbsent bank) = true
is_refusal (error.NotForeseen pcrs now) = true
is_refusal (error.NotLiteral now) = true
is_refusal (error.NoObject object) = true
is_refusal (error.WrongBinding session object) = true

-- whether a result is the value asked for or a refusal
abbrev pub is_answer : {A : Type 0} → Result A UnsealError → Bool
is_answer (Ok value) = true
is_answer (Err error) = is_refusal error

-- where the result is an answer, it is this one, and the device is ready with this state
abbrev pub Told : {A : Type 0} → Result A UnsealError → Parts → Result A UnsealError → Bool → Option Parts → Type 0
Told answer after result ready live =
    is_answer result ≡ true → (result ≡ answer) × (live ≡ Some after) × (ready ≡ true)
