-- The entries of a session's trail, as a state file has them.
use Rattle.std.specs.Prelude.{◌≡◌, ℕ, ◌+◌, ◌*◌, ◌/◌, ◌%◌, ◌^◌, ◌<◌, ◌≤◌, ◌==◌, if◌then◌else◌, List, [], ◌∷◌, ◌++◌, length, slice_index, Result, Ok, Err, ok_or}
use Rattle.std.specs.Int.{w16, w32, to_be_bytes}
use Rattle.std.specs.List.{flat_map, AllByRecursion}
use Rattle.hash_bank.specs.declared.bank.Bank.{Bank}
use Rattle.hash_bank.specs.Hash.{size_in, algorithm_in, bank_of_algorithm}
use Rattle.pl_layout.specs.Reading.{◌>>=◌, bytes_at, number_at, byte_at}
use Rattle.tpm_model.specs.declared.trail.TrailEntry.{TrailEntry}
use Rattle.tpm_model.specs.declared.trail.TrailEntry.TheVariants.{Pcr, Or, AuthorizeNv}
use Rattle.tpm_state.specs.declared.error.DecodeError.{DecodeError}
use Rattle.tpm_state.specs.Field.{fault, counted_at, counted_text, digest_text}

-- ---- the text

-- the three selection bytes: bit i of the mask, for PCR i, in byte i / 8 (TPM 2.0 Library Part 2,
-- TPMS_PCR_SELECTION)
abbrev pub mask_text : ℕ → List ℕ
mask_text pcrs = pcrs % 256 ∷ pcrs / 256 % 256 ∷ pcrs / 65536 % 256 ∷ []

abbrev pub entry_text : TrailEntry → List ℕ
entry_text (Pcr bank pcrs values) = (1 ∷ []) ++ (to_be_bytes w16 (algorithm_in bank) ++ (mask_text pcrs ++ values))
entry_text (Or list) = (2 ∷ []) ++ counted_text digest_text list
entry_text (AuthorizeNv name digest written) = (3 ∷ []) ++ (name ++ (digest ++ to_be_bytes w32 written))

-- what the layout can hold in a session of the hash
abbrev pub EntryFits : Bank → TrailEntry → Type 0
EntryFits hash (Pcr bank pcrs values) = (pcrs < 2 ^ 24) × (length values ≡ size_in hash)
EntryFits hash (Or list) = (2 ≤ length list) × (length list ≤ 8) × AllByRecursion (λ digest. length digest ≡ size_in hash) list
EntryFits hash (AuthorizeNv name digest written) = (length name ≡ 32) × (length digest ≡ 32) × (written < 2 ^ 32)

-- ---- reading

unfoldable pub mask_at : ℕ → List ℕ → Result (ℕ × List ℕ) DecodeError
mask_at all bytes = do
  mask ← bytes_at (fault all) 3 bytes
  Ok (slice_index mask.0 0 + 256 * slice_index mask.0 1 + 65536 * slice_index mask.0 2, mask.1)

-- a bank by its algorithm's number
unfoldable pub bank_number_at : ℕ → List ℕ → Result (Bank × List ℕ) DecodeError
bank_number_at all bytes = do
  number ← number_at (fault all) w16 bytes
  bank ← ok_or (bank_of_algorithm number.0) (fault all bytes)
  Ok (bank, number.1)

unfoldable pub pcr_entry_at : ℕ → Bank → List ℕ → Result (TrailEntry × List ℕ) DecodeError
pcr_entry_at all hash bytes = do
  bank ← bank_number_at all bytes
  pcrs ← mask_at all bank.1
  values ← bytes_at (fault all) (size_in hash) pcrs.1
  Ok (Pcr bank.0 pcrs.0 values.0, values.1)

-- 2 to 8 digests behind their number
unfoldable pub or_entry_at : ℕ → Bank → List ℕ → Result (TrailEntry × List ℕ) DecodeError
or_entry_at all hash bytes = do
  list ← counted_at all 2 8 (bytes_at (fault all) (size_in hash)) bytes
  Ok (Or list.0, list.1)

unfoldable pub nv_entry_at : ℕ → List ℕ → Result (TrailEntry × List ℕ) DecodeError
nv_entry_at all bytes = do
  name ← bytes_at (fault all) 32 bytes
  digest ← bytes_at (fault all) 32 name.1
  written ← number_at (fault all) w32 digest.1
  Ok (AuthorizeNv name.0 digest.0 written.0, written.1)

-- an entry behind its tag
unfoldable pub entry_at : ℕ → Bank → List ℕ → Result (TrailEntry × List ℕ) DecodeError
entry_at all hash bytes = do
  tag ← byte_at (fault all) bytes
  if tag.0 == 1 then pcr_entry_at all hash tag.1
      else if tag.0 == 2 then or_entry_at all hash tag.1
      else if tag.0 == 3 then nv_entry_at all tag.1
      else Err (fault all bytes)
