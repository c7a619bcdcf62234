-- How the values of options are read.
use Rattle.std.specs.Prelude.{ℕ, Bool, true, ◌==◌, ◌&&◌, ◌||◌, not, nat_le, if◌then◌else◌, List, length, Option, Some, None, option_map}
use Rattle.std.specs.List.{list_all, list_any}
use Rattle.std.specs.Result.{result_ok}
use Rattle.hex.specs.Hex.{decode_of}
use Rattle.hash_bank.specs.declared.banks.Banks.{Banks}
use Rattle.pl_text.specs.Parts.{parts_of}
use Rattle.pl_text.specs.Words.{◌>>=◌, bytes_of, handle_of, number_up_to}

-- a value that has to be given
abbrev pub required : {A : Type 0} → (List ℕ → Option A) → Option (List ℕ) → Option A
required read None = None
required read (Some value) = read value

-- a value that may be left out
abbrev pub optional : {A : Type 0} → (List ℕ → Option A) → Option (List ℕ) → Option (Option A)
optional read None = Some None
optional read (Some value) = option_map (λ x. Some x) (read value)

-- a value that stands for another where it is left out
abbrev pub defaulted : {A : Type 0} → (List ℕ → Option A) → A → Option (List ℕ) → Option A
defaulted read default None = Some default
defaulted read default (Some value) = read value

-- a path has at least one byte
abbrev pub path_of : List ℕ → Option (List ℕ)
path_of value = if length value == 0 then None else Some value

-- so many clients as there may be, at least one
abbrev pub clients_up_to : ℕ → List ℕ → Option ℕ
clients_up_to limit value = do
  clients ← number_up_to limit value
  if clients == 0 then None else Some clients

-- the number of a machine that is made
abbrev pub machine_of : List ℕ → Option ℕ
machine_of value = number_up_to 511 value

-- at most 16 folders, each a path
abbrev pub folders_of : List ℕ → Option (List (List ℕ))
folders_of value =
    let folders = parts_of 44 value in
    if nat_le (length folders) 16 && not (list_any (λ folder. length folder == 0) folders) then Some folders else None

-- all banks
abbrev pub all_banks : Banks
all_banks = record { sha1 = true; sha256 = true; sha384 = true; sha512 = true }

-- a locality at which a TPM is started (TCG PC Client Platform Firmware Profile, StartupLocality)
abbrev pub locality_of : List ℕ → Option ℕ
locality_of value = do
  locality ← number_up_to 4 value
  if locality == 0 || locality == 3 || locality == 4 then Some locality else None

-- the bytes of pairs of hexadecimal digits of either case, between `low` and `high` digits in all
abbrev pub bytes_between : ℕ → ℕ → List ℕ → Option (List ℕ)
bytes_between low high value =
    if nat_le low (length value) && nat_le (length value) high then result_ok (decode_of value) else None

-- a key has 1 to 128 bytes
abbrev pub key_of : List ℕ → Option (List ℕ)
key_of value = bytes_between 2 256 value

-- the bytes of at most 128 pairs of digits
abbrev pub hex_of : List ℕ → Option (List ℕ)
hex_of value = bytes_between 0 256 value

-- a pin, of 32 bytes
abbrev pub pin_of : List ℕ → Option (List ℕ)
pin_of value = bytes_of 32 value

-- a byte of a variant's name: a graphic character of ASCII, but no slash
abbrev pub is_variant_byte : ℕ → Bool
is_variant_byte byte = nat_le 0x21 byte && nat_le byte 0x7e && not (byte == 47)

-- the name of a variant, 1 to 200 such bytes
abbrev pub variant_of : List ℕ → Option (List ℕ)
variant_of value =
    if nat_le 1 (length value) && nat_le (length value) 200 && list_all is_variant_byte value then Some value else None

-- a handle of an NV index, 01000000 to 01ffffff (TPM 2.0 Library Part 2, TPM_HT_NV_INDEX)
abbrev pub nv_handle : ℕ → Option ℕ
nv_handle handle = if nat_le 0x01000000 handle && nat_le handle 0x01ffffff then Some handle else None

-- the handle of an NV index, in eight hexadecimal digits of either case
abbrev pub index_of : List ℕ → Option ℕ
index_of value = do
  handle ← handle_of value
  nv_handle handle
