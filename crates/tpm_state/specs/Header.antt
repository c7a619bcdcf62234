-- What a state file begins with: the magic of its version, the present banks, their PCR values, and
-- the counters.
use Rattle.std.specs.Prelude.{◌≡◌, ℕ, ◌+◌, ◌*◌, ◌/◌, ◌%◌, ◌==◌, nat_lt, Bool, true, false, if◌then◌else◌, List, [], ◌∷◌, ◌++◌, length, codes, Result, Ok, Err}
use Rattle.std.specs.Int.{w32, to_be_bytes}
use Rattle.std.specs.List.{flat_map}
use Rattle.std.specs.Str.{bytes_eq}
use Rattle.hash_bank.specs.declared.bank.Bank.{Bank}
use Rattle.hash_bank.specs.declared.bank.Bank.TheVariants.{Sha1, Sha256, Sha384, Sha512}
use Rattle.hash_bank.specs.declared.banks.Banks.{Banks}
use Rattle.hash_bank.specs.Hash.{size_in}
use Rattle.pl_layout.specs.Reading.{◌>>=◌, bytes_at, number_at, repeat_at}
use Rattle.tpm_model.specs.declared.parts.Parts.{Parts}
use Rattle.tpm_state.specs.declared.error.DecodeError.{DecodeError}
use Rattle.tpm_state.specs.declared.version.Version.{Version}
use Rattle.tpm_state.specs.declared.version.Version.TheVariants.{One, Two}
use Rattle.tpm_state.specs.declared.header.Counters.{Counters}
use Rattle.tpm_state.specs.Field.{fault, digest_text}

-- ---- the text

-- the first eight bytes of a file of the version
abbrev pub magic_text : Version → List ℕ
magic_text One = codes "PLTPM" ++ 0 ∷ 0 ∷ 1 ∷ []
magic_text Two = codes "PLTPM" ++ 0 ∷ 0 ∷ 2 ∷ []

abbrev pub weight : Bool → ℕ → ℕ
weight present value = if present then value else 0

-- the present banks as bits 0 to 3
abbrev pub banks_byte : Banks → ℕ
banks_byte banks = weight banks.sha1 1 + weight banks.sha256 2 + weight banks.sha384 4 + weight banks.sha512 8

-- the values of all present banks
abbrev pub values_text : List (List ℕ) → List ℕ
values_text pcrs = flat_map digest_text pcrs

-- the update counter, the next session number, the write counter, and the next object number
abbrev pub counters_text : Counters → List ℕ
counters_text c =
    to_be_bytes w32 c.update_counter ++ (to_be_bytes w32 c.next_session
    ++ (to_be_bytes w32 c.write_counter ++ to_be_bytes w32 c.next_object))

-- ---- reading

-- the version
unfoldable pub version_at : ℕ → List ℕ → Result (Version × List ℕ) DecodeError
version_at all bytes = do
  magic ← bytes_at (fault all) 8 bytes
  if bytes_eq magic.0 (magic_text Two) then Ok (Two, magic.1)
      else if bytes_eq magic.0 (magic_text One) then Ok (One, magic.1)
      else Err (fault all bytes)

-- the banks whose bits are set
abbrev pub banks_of : ℕ → Banks
banks_of byte = record { sha1 = byte % 2 == 1; sha256 = byte / 2 % 2 == 1; sha384 = byte / 4 % 2 == 1; sha512 = byte / 8 % 2 == 1 }

-- the 24 values of a bank that is present, behind those of the banks before; they are one field
unfoldable pub bank_at : ℕ → Bool → Bank → List (List ℕ) → List ℕ → Result (List (List ℕ) × List ℕ) DecodeError
bank_at all present bank before bytes =
    if present then (if nat_lt (length bytes) (24 * size_in bank) then Err (fault all bytes)
    else repeat_at (λ b. bytes_at (fault all) (size_in bank)) 24 before bytes)
    else Ok (before, bytes)

-- the values of all present banks
unfoldable pub values_at : ℕ → Banks → List ℕ → Result (List (List ℕ) × List ℕ) DecodeError
values_at all banks bytes = do
  sha1 ← bank_at all banks.sha1 Sha1 [] bytes
  sha256 ← bank_at all banks.sha256 Sha256 sha1.0 sha1.1
  sha384 ← bank_at all banks.sha384 Sha384 sha256.0 sha256.1
  bank_at all banks.sha512 Sha512 sha384.0 sha384.1

-- the four counters, each a field
unfoldable pub counters_at : ℕ → List ℕ → Result (Counters × List ℕ) DecodeError
counters_at all bytes = do
  update ← number_at (fault all) w32 bytes
  session ← number_at (fault all) w32 update.1
  write ← number_at (fault all) w32 session.1
  object ← number_at (fault all) w32 write.1
  Ok (record { update_counter = update.0; next_session = session.0; write_counter = write.0; next_object = object.0 }, object.1)
