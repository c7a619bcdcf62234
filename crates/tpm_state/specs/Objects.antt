-- Sealed objects, as a state file has them.
use Rattle.std.specs.Prelude.{◌≡◌, ◌⊎◌, ℕ, ◌^◌, ◌<◌, ◌≤◌, ◌==◌, nat_le, ◌||◌, if◌then◌else◌, List, [], ◌∷◌, ◌++◌, length, Result, Ok, Err}
use Rattle.std.specs.Int.{w16, w32, to_be_bytes}
use Rattle.pl_layout.specs.Reading.{◌>>=◌, bytes_at, number_at, byte_at}
use Rattle.tpm_model.specs.declared.object.Object.{Object}
use Rattle.tpm_state.specs.declared.error.DecodeError.{DecodeError}
use Rattle.tpm_state.specs.declared.version.Version.{Version}
use Rattle.tpm_state.specs.declared.version.Version.TheVariants.{One, Two}
use Rattle.tpm_state.specs.Field.{fault}

-- ---- the text

-- the size of a policy; in version 1 all is SHA-256
abbrev pub size_text : Version → ℕ → List ℕ
size_text One size = []
size_text Two size = to_be_bytes w16 size

-- a secret behind its length
abbrev pub secret_text : List ℕ → List ℕ
secret_text secret = (length secret ∷ []) ++ secret

abbrev pub object_text : Version → Object → List ℕ
object_text version object =
    to_be_bytes w32 object.handle ++ (size_text version (length object.policy) ++ (object.policy ++ secret_text object.secret))

-- what the layout can hold
abbrev pub SizeFits : Version → ℕ → Type 0
SizeFits One size = size ≡ 32
SizeFits Two size = (size ≡ 32) ⊎ (size ≡ 48)

pub record ObjectFits (version : Version) (object : Object) : Type 0 where
  pub handle : object.handle < 2 ^ 32
  pub policy : SizeFits version (length object.policy)
  pub secret : length object.secret ≤ 128

-- ---- reading

unfoldable pub size_at : ℕ → Version → List ℕ → Result (ℕ × List ℕ) DecodeError
size_at all One bytes = Ok (32, bytes)
size_at all Two bytes = do
  size ← number_at (fault all) w16 bytes
  if size.0 == 32 || size.0 == 48 then Ok size else Err (fault all bytes)

unfoldable pub secret_at : ℕ → List ℕ → Result (List ℕ × List ℕ) DecodeError
secret_at all bytes = do
  n ← byte_at (fault all) bytes
  if nat_le n.0 128 then bytes_at (fault all) n.0 n.1 else Err (fault all bytes)

unfoldable pub object_at : ℕ → Version → List ℕ → Result (Object × List ℕ) DecodeError
object_at all version bytes = do
  handle ← number_at (fault all) w32 bytes
  size ← size_at all version handle.1
  policy ← bytes_at (fault all) size.0 size.1
  secret ← secret_at all policy.1
  Ok (record { handle = handle.0; policy = policy.0; secret = secret.0 }, secret.1)
