-- What a file stores, as a TPM that is kept in it tells.
use Rattle.std.specs.Prelude.{◌≡◌, ◌≢◌, ◌⊎◌, ℕ, nat_lt, true, if◌then◌else◌, List, length, Option, Some, None, Result, Ok, Err}
use Rattle.std.specs.FinMap.{get, insert}
use Rattle.hash_bank.specs.declared.banks.Banks.{Banks}
use Rattle.pl_base.specs.FileMap.{FileMap}
use Rattle.pl_base.specs.declared.files.ReplaceError.{ReplaceError}
use Rattle.pl_base.specs.declared.files.ReplaceError.TheVariants as replace
use Rattle.tpm_model.specs.declared.parts.Parts.{Parts}
use Rattle.tpm_model.specs.Fresh.{fresh_parts}
use Rattle.tpm_model.specs.declared.response.Response.{Response}
use Rattle.tpm_device.specs.declared.device.BeginError.{BeginError}
use Rattle.tpm_device.specs.declared.device.BeginError.TheVariants as begin
use Rattle.tpm_device.specs.declared.device.ExecError.{ExecError}
use Rattle.tpm_device.specs.declared.device.ExecError.TheVariants as exec
use Rattle.tpm_device.specs.Stored.{Stored, Holds, TooLarge, Malformed, BadRule}
use Rattle.tpm_state.specs.declared.error.DecodeError.{DecodeError}
use Rattle.tpm_state.specs.declared.error.DecodeError.TheVariants as decode
use Rattle.tpm_state.specs.declared.version.Version.TheVariants.{Two}
use Rattle.tpm_state.specs.Decoding.{state_of}
use Rattle.tpm_state.specs.Layout.{text_of}

-- the most bytes of a state file
abbrev pub most_bytes : ℕ
most_bytes = 16777216

abbrev pub all_banks : Banks
all_banks = record { sha1 = true; sha256 = true; sha384 = true; sha512 = true }

-- what the reading of a file says of it; no reading ends for want of memory
abbrev pub stored_as : Result Parts DecodeError → Stored
stored_as (Ok s) = Holds s
stored_as (Err (decode.Malformed place)) = Malformed place
stored_as (Err (decode.BadRule rule)) = BadRule rule
stored_as (Err decode.Memory) = Malformed 0

-- what a file stores; one that isn't there is a TPM that was never used, with all banks
abbrev pub stored_by : Option (List ℕ) → Stored
stored_by None = Holds (fresh_parts all_banks)
stored_by (Some bytes) = if nat_lt most_bytes (length bytes) then TooLarge (length bytes) else stored_as (state_of bytes)

-- the answer of reading a stored state, which may fail and run out of memory besides
abbrev pub StateGives : Stored → Result Parts BeginError → Type 0
StateGives kept (Ok s) = kept ≡ Holds s
StateGives kept (Err (begin.TooLarge size)) = kept ≡ TooLarge size
StateGives kept (Err (begin.Malformed place)) = kept ≡ Malformed place
StateGives kept (Err (begin.BadRule rule)) = kept ≡ BadRule rule
StateGives kept (Err begin.Failed) = Unit {0}
StateGives kept (Err begin.Memory) = Unit {0}

-- what is stored at the path, where the files tell their map
abbrev pub stored_in : Option FileMap → List ℕ → Option Stored
stored_in None path = None
stored_in (Some files) path = Some (stored_by (get files path))

-- what a replacement leaves stored, given what was stored and what the new bytes store
abbrev pub StoreLeaves : Stored → Stored → Result Unit ReplaceError → Option Stored → Type 0
StoreLeaves kept next (Ok _) now = now ≡ Some next
StoreLeaves kept next (Err replace.Failed) now = (now ≡ Some kept) ⊎ (now ≡ Some next)
StoreLeaves kept next (Err replace.Memory) now = now ≡ Some kept

-- the files with the text of a state at the path
abbrev pub storing : FileMap → List ℕ → Parts → FileMap
storing files path s = insert files path (text_of Two s)

-- the files after a command that leads from a state to the next one: nothing is written where they are
-- equal; no other file changes
abbrev pub StoresText : FileMap → List ℕ → Parts → Parts → Result Response ExecError → Option FileMap → Type 0
StoresText files path s next (Ok answer) now = (next ≡ s → now ≡ Some files) × (next ≢ s → now ≡ Some (storing files path next))
StoresText files path s next (Err exec.Failed) now = (now ≡ Some files) ⊎ (now ≡ Some (storing files path next))
StoresText files path s next (Err exec.Memory) now = now ≡ Some files
