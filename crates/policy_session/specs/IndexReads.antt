-- What a client reads of an index (TPM 2.0 Library Part 3, TPM2_NV_ReadPublic and TPM2_NV_Read).
use Rattle.std.specs.Prelude.{◌≡◌, ℕ, Bool, true, false, List, Option, None, Some, Result, Ok, Err}
use Rattle.nv_index.specs.Table.{index_at}
use Rattle.nv_index.specs.declared.index.Index.{Index}
use Rattle.nv_index.specs.declared.index.NvPublic.{NvPublic}
use Rattle.nv_index.specs.declared.index.Written.{Written}
use Rattle.tpm_device.specs.Stored.{Stored}
use Rattle.tpm_model.specs.declared.parts.Parts.{Parts}
use Rattle.tpm_model.specs.declared.response.Response.{Response}
use Rattle.tpm_model.specs.declared.response.Response.TheVariants as answer
use Rattle.policy_session.specs.declared.index.IndexError.{IndexError}
use Rattle.policy_session.specs.declared.index.IndexError.TheVariants as error
use Rattle.policy_session.specs.Kept.{Kept}
use Rattle.tpm_device.specs.Running.{IsLive}

-- the public area in an answer, and the content
abbrev pub public_in : Response → Option NvPublic
public_in (answer.Public public) = Some public
public_in other = None

abbrev pub content_in : Response → Option (List ℕ)
content_in (answer.Content content) = Some content
content_in other = None

-- the public area and the content of an index that was found
abbrev pub read_written : NvPublic → Option Written → Result (NvPublic × List ℕ) IndexError
read_written public None = Err error.Unwritten
read_written public (Some written) = Ok (public, written.value)

abbrev pub read_found : Option Index → Result (NvPublic × List ℕ) IndexError
read_found None = Err error.NoIndex
read_found (Some index) = read_written index.public index.written

-- of the index with this handle
abbrev pub index_read : ℕ → Parts → Result (NvPublic × List ℕ) IndexError
index_read index s = read_found (index_at index s.indices)

-- whether an error is told by the TPM
abbrev pub is_told : IndexError → Bool
is_told error.NoIndex = true
is_told error.Unwritten = true
is_told error.Failed = false
is_told error.Memory = false

-- whether a result is what was read, or such an error
abbrev pub is_reading : {A : Type 0} → Result A IndexError → Bool
is_reading (Ok value) = true
is_reading (Err error) = is_told error

-- a reading is this one, and the state is as before; else what is stored differs at most in sessions from it
pub record IsRead (s : Parts) (keeps : Bool) (reading result : Result (NvPublic × List ℕ) IndexError) (ready : Bool) (live : Option Parts) (stored : Option Stored) : Type 0 where
  pub answered : is_reading result ≡ true → (result ≡ reading) × IsLive keeps s live stored × (ready ≡ true)
  pub stopped : is_reading result ≡ false → keeps ≡ true → Kept s stored
