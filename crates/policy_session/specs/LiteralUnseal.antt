-- When an object that is sealed to one value of one PCR is opened.
use Rattle.std.specs.Prelude.{ℕ, ◌+◌, ◌||◌, nat_le, if◌then◌else◌, List, length, Option, None, Some, Result, Ok, Err}
use Rattle.std.specs.Str.{bytes_eq}
use Rattle.hash_bank.specs.declared.bank.Bank.{Bank}
use Rattle.policy_file.specs.declared.token.Literal.{Literal}
use Rattle.tpm_model.specs.declared.object.Object.{Object}
use Rattle.tpm_model.specs.declared.parts.Parts.{Parts}
use Rattle.tpm_model.specs.Binding.{literal_policy}
use Rattle.tpm_model.specs.Pcrs.{pcr_of}
use Rattle.tpm_model.specs.Sessions.{object_at}
use Rattle.policy_session.specs.declared.error.UnsealError.{UnsealError}
use Rattle.policy_session.specs.declared.error.UnsealError.TheVariants as error

-- the secret of the object that was found, where its policy is this one
abbrev pub opened_by : List ℕ → ℕ → Option Object → Result (List ℕ) UnsealError
opened_by policy handle None = Err (error.NoObject handle)
opened_by policy handle (Some object) =
    if bytes_eq policy object.policy then Ok object.secret else Err (error.WrongBinding policy object.policy)

-- where the PCR has this value: its policy is the literal's, and the object's
abbrev pub opened_at : Option (List ℕ) → Literal → ℕ → Parts → Result (List ℕ) UnsealError
opened_at None literal handle s = Err (error.BankAbsent literal.bank)
opened_at (Some now) literal handle s =
    let policy = literal_policy literal.hash literal.bank literal.pcr now in
    if bytes_eq policy (literal_policy literal.hash literal.bank literal.pcr literal.value)
    then opened_by policy handle (object_at handle s.objects)
    else Err (error.NotLiteral now)

-- the secret, or the first refusal whose cause holds
abbrev pub opened : Literal → ℕ → Parts → Result (List ℕ) UnsealError
opened literal handle s =
    if nat_le 64 (length s.sessions) then Err error.SessionsFull
    else if nat_le 0x01000000 s.next_session then Err error.HandlesEnd
    else opened_at (pcr_of s.banks s.pcrs literal.bank literal.pcr) literal handle s

-- where a session can start, its number is used; all else is as before
abbrev pub after_unseal : Parts → Parts
after_unseal s =
    if nat_le 64 (length s.sessions) || nat_le 0x01000000 s.next_session then s
    else record s { next_session = s.next_session + 1 }

-- a refusal that names a mask comes for bound keys alone
abbrev pub IsNeverForeseen : UnsealError → Type 0
IsNeverForeseen (error.NotForeseen pcrs now) = ⊥
IsNeverForeseen other = Unit {0}
