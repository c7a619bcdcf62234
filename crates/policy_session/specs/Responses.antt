-- What a client takes from the TPM's answers. An answer that no state gives at that place of a walk
-- counts as want of memory.
use Rattle.std.specs.Prelude.{ℕ, ◌==◌, if◌then◌else◌, Bool, true, false, List, Result, Ok, Err}
use Rattle.tpm_model.specs.declared.response.Response.{Response}
use Rattle.tpm_model.specs.declared.response.Response.TheVariants as answer
use Rattle.tpm_model.specs.declared.response.Refusal.TheVariants as refusal
use Rattle.policy_session.specs.declared.error.UnsealError.{UnsealError}
use Rattle.policy_session.specs.declared.error.UnsealError.TheVariants as error

-- the handle of the session that was started
abbrev pub started : Response → Result ℕ UnsealError
started (answer.Session handle) = Ok handle
started (answer.Refused refusal.SessionsFull) = Err error.SessionsFull
started (answer.Refused refusal.HandlesEnd) = Err error.HandlesEnd
started _ = Err error.Memory

-- whether PolicyPCR was done
abbrev pub bound : Response → Result (Unit {0}) UnsealError
bound answer.Done = Ok tt
bound (answer.Refused (refusal.BankAbsent bank)) = Err (error.BankAbsent bank)
bound _ = Err error.Memory

-- the session's digest
abbrev pub digest_read : Response → Result (List ℕ) UnsealError
digest_read (answer.PolicyDigest digest) = Ok digest
digest_read _ = Err error.Memory

-- the PCR's value
abbrev pub value_read : Response → Result (List ℕ) UnsealError
value_read (answer.Pcr value) = Ok value
value_read _ = Err error.Memory

-- the object's secret
abbrev pub unsealed : ℕ → Response → Result (List ℕ) UnsealError
unsealed object (answer.Secret secret) = Ok secret
unsealed object (answer.Refused (refusal.PolicyFail session policy)) = Err (error.WrongBinding session policy)
unsealed object (answer.Refused (refusal.Handle handle)) = if handle == object then Err (error.NoObject object) else Err error.Memory
unsealed object _ = Err error.Memory

-- whether the session was ended
abbrev pub ended : Response → Result (Unit {0}) UnsealError
ended answer.Done = Ok tt
ended _ = Err error.Memory

-- whether a command was done
abbrev pub done : Response → Bool
done answer.Done = true
done _ = false
