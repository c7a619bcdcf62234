-- The state while a session is open that was started last, and what its steps answer.
use Rattle.std.specs.Prelude.{◌≡◌, ℕ, ◌+◌, ◌^◌, nat_le, if◌then◌else◌, List, [], ◌∷◌, ◌++◌, length, Option, None, Some, Result, Ok, Err}
use Rattle.std.specs.Str.{bytes_eq}
use Rattle.hash_bank.specs.declared.bank.Bank.{Bank}
use Rattle.hash_bank.specs.Hash.{digest_in}
use Rattle.policy_file.specs.declared.token.Literal.{Literal}
use Rattle.tpm_model.specs.declared.trail.TrailEntry.TheVariants as entry
use Rattle.tpm_model.specs.declared.sessions.Session.{Session}
use Rattle.tpm_model.specs.declared.parts.Parts.{Parts}
use Rattle.tpm_model.specs.Rules.{HasRules}
use Rattle.tpm_model.specs.Sessions.{fresh_session}
use Rattle.tpm_model.specs.SessionCommands.{session_handle}
use Rattle.policy_session.specs.declared.error.UnsealError.{UnsealError}
use Rattle.policy_session.specs.declared.error.UnsealError.TheVariants as error
use Rattle.policy_session.specs.Kept.{IsKept}
use Rattle.tpm_model.specs.Binding.{literal_policy}

-- the state in which this session was started last
unfoldable pub with_open : Session → Parts → Parts
with_open session s = record s { next_session = s.next_session + 1; sessions = s.sessions ++ session ∷ [] }

-- the session has this handle, and the rules hold with it and without it
pub record IsOpen (handle : ℕ) (session : Session) (s : Parts) : Type 0 where
  pub number : handle ≡ session_handle s.next_session
  pub own : session.handle ≡ session_handle s.next_session
  pub rules : HasRules s
  pub kept : IsKept s (with_open session s)

-- the state after that session's end
unfoldable pub closed : Parts → Parts
closed s = record s { next_session = s.next_session + 1 }

-- the next session, just started
unfoldable pub fresh_in : Bank → Parts → Session
fresh_in hash s = fresh_session hash (session_handle s.next_session)

-- the next session, bound to this value of the literal's PCR
unfoldable pub bound_in : Literal → List ℕ → Parts → Session
bound_in literal now s = record {
  hash = literal.hash;
  handle = session_handle s.next_session;
  digest = literal_policy literal.hash literal.bank literal.pcr now;
  noted = Some s.update_counter;
  trail = entry.Pcr literal.bank (2 ^ literal.pcr) (digest_in literal.hash now) ∷ [];
}

-- what the start of a session answers
abbrev pub start_answer : Parts → Result ℕ UnsealError
start_answer s =
    if nat_le 64 (length s.sessions) then Err error.SessionsFull
    else if nat_le 0x01000000 s.next_session then Err error.HandlesEnd
    else Ok (session_handle s.next_session)

-- and leaves
abbrev pub start_leaves : Bank → Parts → Parts
start_leaves hash s =
    if nat_le 64 (length s.sessions) then s
    else if nat_le 0x01000000 s.next_session then s
    else with_open (fresh_in hash s) s

-- what PolicyPCR answers, where the PCR has this value
abbrev pub bind_answer : Bank → Option (List ℕ) → Result (Unit {0}) UnsealError
bind_answer bank None = Err (error.BankAbsent bank)
bind_answer bank (Some now) = Ok tt

-- the session that it leaves
abbrev pub bind_leaves : Literal → Option (List ℕ) → Parts → Session
bind_leaves literal None s = fresh_in literal.hash s
bind_leaves literal (Some now) s = bound_in literal now s

-- what the comparison of the policies gives
abbrev pub compare_answer : Literal → List ℕ → Result (Unit {0}) UnsealError
compare_answer literal now =
    if bytes_eq (literal_policy literal.hash literal.bank literal.pcr now) (literal_policy literal.hash literal.bank literal.pcr literal.value)
    then Ok tt
    else Err (error.NotLiteral now)
