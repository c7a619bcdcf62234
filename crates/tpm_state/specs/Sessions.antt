-- Sessions, as a state file has them.
use Rattle.std.specs.Prelude.{◌≡◌, ℕ, ◌^◌, ◌<◌, ◌≤◌, ◌==◌, if◌then◌else◌, List, [], ◌∷◌, ◌++◌, length, Option, Some, None, Result, Ok, Err}
use Rattle.std.specs.Int.{w16, w32, to_be_bytes}
use Rattle.std.specs.List.{flat_map, AllByRecursion}
use Rattle.hash_bank.specs.declared.bank.Bank.{Bank}
use Rattle.hash_bank.specs.declared.bank.Bank.TheVariants.{Sha256, Sha384}
use Rattle.hash_bank.specs.Hash.{size_in, algorithm_in}
use Rattle.pl_layout.specs.Reading.{◌>>=◌, bytes_at, number_at, byte_at}
use Rattle.policy_digest.specs.Policies.{IsPolicyHash}
use Rattle.tpm_model.specs.declared.sessions.Session.{Session}
use Rattle.tpm_state.specs.declared.error.DecodeError.{DecodeError}
use Rattle.tpm_state.specs.declared.version.Version.{Version}
use Rattle.tpm_state.specs.declared.version.Version.TheVariants.{One, Two}
use Rattle.tpm_state.specs.Field.{fault, counted_at, counted_text}
use Rattle.tpm_state.specs.Entries.{EntryFits, entry_text, entry_at}

-- ---- the text

-- a hash by its algorithm's number; in version 1 all is SHA-256
abbrev pub hash_text : Version → Bank → List ℕ
hash_text One hash = []
hash_text Two hash = to_be_bytes w16 (algorithm_in hash)

-- the noted counter behind a flag
abbrev pub noted_text : Option ℕ → List ℕ
noted_text None = 0 ∷ []
noted_text (Some noted) = (1 ∷ []) ++ to_be_bytes w32 noted

abbrev pub session_text : Version → Session → List ℕ
session_text version session =
    to_be_bytes w32 session.handle ++ (hash_text version session.hash
    ++ (session.digest ++ (noted_text session.noted ++ counted_text entry_text session.trail)))

-- what the layout can hold
abbrev pub HashFits : Version → Bank → Type 0
HashFits One hash = hash ≡ Sha256
HashFits Two hash = IsPolicyHash hash

abbrev pub NotedFits : Option ℕ → Type 0
NotedFits None = Unit {0}
NotedFits (Some noted) = noted < 2 ^ 32

pub record SessionFits (version : Version) (session : Session) : Type 0 where
  pub hash : HashFits version session.hash
  pub handle : session.handle < 2 ^ 32
  pub digest : length session.digest ≡ size_in session.hash
  pub noted : NotedFits session.noted
  pub entries : length session.trail ≤ 128
  pub trail : AllByRecursion (EntryFits session.hash) session.trail

-- ---- reading

unfoldable pub hash_at : ℕ → Version → List ℕ → Result (Bank × List ℕ) DecodeError
hash_at all One bytes = Ok (Sha256, bytes)
hash_at all Two bytes = do
  number ← number_at (fault all) w16 bytes
  if number.0 == 0x000B then Ok (Sha256, number.1)
      else if number.0 == 0x000C then Ok (Sha384, number.1)
      else Err (fault all bytes)

unfoldable pub noted_number_at : ℕ → List ℕ → Result (Option ℕ × List ℕ) DecodeError
noted_number_at all bytes = do
  noted ← number_at (fault all) w32 bytes
  Ok (Some noted.0, noted.1)

unfoldable pub noted_at : ℕ → List ℕ → Result (Option ℕ × List ℕ) DecodeError
noted_at all bytes = do
  flag ← byte_at (fault all) bytes
  if flag.0 == 0 then Ok (None, flag.1)
      else if flag.0 == 1 then noted_number_at all flag.1
      else Err (fault all bytes)

unfoldable pub session_at : ℕ → Version → List ℕ → Result (Session × List ℕ) DecodeError
session_at all version bytes = do
  handle ← number_at (fault all) w32 bytes
  hash ← hash_at all version handle.1
  digest ← bytes_at (fault all) (size_in hash.0) hash.1
  noted ← noted_at all digest.1
  trail ← counted_at all 0 128 (entry_at all hash.0) noted.1
  Ok (record { hash = hash.0; handle = handle.0; digest = digest.0; noted = noted.0; trail = trail.0 }, trail.1)
