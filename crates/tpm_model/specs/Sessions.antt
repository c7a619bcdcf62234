-- Policy sessions of a state.
use Rattle.std.specs.Prelude.{ℕ, ◌==◌, Bool, true, false, List, [], slice_get, Option, None}
use Rattle.std.specs.List.{find, position_or_len}
use Rattle.hash_bank.specs.declared.bank.Bank.{Bank}
use Rattle.hash_bank.specs.declared.bank.Bank.TheVariants.{Sha1, Sha256, Sha384, Sha512}
use Rattle.hash_bank.specs.Hash.{zeros_in}
use Rattle.tpm_model.specs.declared.sessions.Session.{Session}
use Rattle.tpm_model.specs.declared.object.Object.{Object}

-- whether a session may have this hash
abbrev pub is_session_hash : Bank → Bool
is_session_hash Sha1 = false
is_session_hash Sha256 = true
is_session_hash Sha384 = true
is_session_hash Sha512 = false

-- whether this is the session of the handle
abbrev pub is_session : ℕ → Session → Bool
is_session handle session = session.handle == handle

-- the place of the session of the handle; where there is none, the number of all sessions
abbrev pub session_place : ℕ → List Session → ℕ
session_place handle sessions = position_or_len (is_session handle) sessions

-- the session of the handle
abbrev pub session_at : ℕ → List Session → Option Session
session_at handle sessions = slice_get sessions (session_place handle sessions)

-- whether this is the object of the handle
abbrev pub is_object : ℕ → Object → Bool
is_object handle object = object.handle == handle

-- the place of the object of the handle; where there is none, the number of all objects
abbrev pub object_place : ℕ → List Object → ℕ
object_place handle objects = position_or_len (is_object handle) objects

-- the object of the handle
abbrev pub object_at : ℕ → List Object → Option Object
object_at handle objects = find (is_object handle) objects

-- a new session: the zeros of its hash, nothing noted, an empty trail
abbrev pub fresh_session : Bank → ℕ → Session
fresh_session hash handle = record { hash = hash; handle = handle; digest = zeros_in hash; noted = None; trail = [] }
