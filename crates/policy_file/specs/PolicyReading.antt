-- Reading a policy file field by field, from left to right. The first field that is cut or has no allowed
-- value is the fault.
use Rattle.std.specs.Prelude.{◌≡◌, ℕ, ◌^◌, nat_le, nat_lt, ◌==◌, ◌&&◌, not, Bool, true, List, [], length, Option, Some, None, Result, Ok, Err, if◌then◌else◌}
use Rattle.std.specs.Int.{w16, w32}
use Rattle.std.specs.List.{list_all}
use Rattle.std.specs.Str.{bytes_eq}
use Rattle.hash_bank.specs.declared.bank.Bank.{Bank}
use Rattle.hash_bank.specs.Hash.{size_in, bank_of_algorithm}
use Rattle.pl_layout.specs.Reading.{◌>>=◌, place, bytes_at, number_at, byte_at, tested, repeat_at}
use Rattle.policy_digest.specs.declared.table.Row.{Row}
use Rattle.policy_digest.specs.declared.table.Table.{Table}
use Rattle.policy_digest.specs.Mask.{pcrs_of}
use Rattle.policy_digest.specs.Table.{differ, precedes}
use Rattle.policy_file.specs.declared.error.FileKind.{FileKind}
use Rattle.policy_file.specs.declared.error.FileKind.TheVariants.{Cut, Magic, Value, Trailing}
use Rattle.policy_file.specs.declared.error.FileError.{FileError}
use Rattle.policy_file.specs.declared.error.FileError.TheVariants.{Malformed, Memory}
use Rattle.policy_file.specs.declared.policy.Policy.{Policy}
use Rattle.policy_file.specs.declared.version.Version.{Version}
use Rattle.policy_file.specs.declared.version.Version.TheVariants.{One, Two}
use Rattle.policy_file.specs.PolicyText.{all_single, policy_magic}

-- what a function returned, seen by view, is what reading gives, unless memory ran out
abbrev pub Fails : {Y : Type 0} → FileError → Result Y FileError → Type 0
Fails Memory read = Unit {0}
Fails (Malformed place kind) read = read ≡ Err (Malformed place kind)

abbrev pub Reads : {X Y : Type 0} → (X → Y) → Result X FileError → Result Y FileError → Type 0
Reads view (Ok x) read = read ≡ Ok (view x)
Reads view (Err e) read = Fails e read

-- the fault of the field that begins with these bytes, the last of all that there are
abbrev pub fault : FileKind → ℕ → List ℕ → FileError
fault kind all bytes = Malformed (place all bytes) kind

-- the version
unfoldable pub version_at : ℕ → List ℕ → Result (Version × List ℕ) FileError
version_at all bytes = do
  magic ← bytes_at (fault Cut all) 8 bytes
  if bytes_eq magic.0 (policy_magic One) then Ok (One, magic.1)
      else if bytes_eq magic.0 (policy_magic Two) then Ok (Two, magic.1)
      else Err (fault Magic all bytes)

-- a number within a range, of four bytes, of two, and of one
unfoldable pub handle_at : ℕ → ℕ → ℕ → List ℕ → Result (ℕ × List ℕ) FileError
handle_at all low high bytes = do
  number ← number_at (fault Cut all) w32 bytes
  tested (nat_le low number.0 && nat_le number.0 high) (fault Value all bytes) number

unfoldable pub lists_number_at : ℕ → List ℕ → Result (ℕ × List ℕ) FileError
lists_number_at all bytes = do
  number ← number_at (fault Cut all) w16 bytes
  tested (nat_le 1 number.0 && nat_le number.0 512) (fault Value all bytes) number

unfoldable pub count_at : ℕ → ℕ → List ℕ → Result (ℕ × List ℕ) FileError
count_at all most bytes = do
  number ← byte_at (fault Cut all) bytes
  tested (nat_le 1 number.0 && nat_le number.0 most) (fault Value all bytes) number

-- the bank of an algorithm
abbrev pub known : {A : Type 0} → Option Bank → FileError → A → Result (Bank × A) FileError
known (Some bank) fault x = Ok (bank, x)
known None fault x = Err fault

unfoldable pub bank_at : ℕ → List ℕ → Result (Bank × List ℕ) FileError
bank_at all bytes = do
  number ← number_at (fault Cut all) w16 bytes
  known (bank_of_algorithm number.0) (fault Value all bytes) number.1

-- the PCRs of a row, as a mask
unfoldable pub mask_at : ℕ → Version → List ℕ → Result (ℕ × List ℕ) FileError
mask_at all One bytes = do
  pcr ← byte_at (fault Cut all) bytes
  tested (nat_le pcr.0 23) (fault Value all bytes) (2 ^ pcr.0, pcr.1)
mask_at all Two bytes = do
  mask ← number_at (fault Cut all) w32 bytes
  tested (nat_lt 0 mask.0 && nat_lt mask.0 (2 ^ 24)) (fault Value all bytes) mask

-- the values of a list, each a field
unfoldable pub values_at : ℕ → Bank → ℕ → List ℕ → Result (List (List ℕ) × List ℕ) FileError
values_at all bank count bytes = repeat_at (λ before. bytes_at (fault Cut all) (size_in bank)) count [] bytes

-- a list that no earlier one of its row is
unfoldable pub list_at : ℕ → Bank → ℕ → List (List (List ℕ)) → List ℕ → Result (List (List ℕ) × List ℕ) FileError
list_at all bank count before bytes = do
  values ← values_at all bank count bytes
  tested (list_all (λ b. differ b values.0) before) (fault Value all bytes) values

-- a mask may stand behind rows of which each comes before it, and none shares a PCR with it
abbrev pub follows : List Row → ℕ → Bool
follows before mask = list_all (λ b. precedes b (record { pcrs = mask; choices = [] })) before

unfoldable pub pcrs_at : ℕ → Version → List Row → List ℕ → Result (ℕ × List ℕ) FileError
pcrs_at all version before bytes = do
  mask ← mask_at all version bytes
  tested (follows before mask.0) (fault Value all bytes) mask

unfoldable pub row_at : ℕ → Version → Bank → List Row → List ℕ → Result (Row × List ℕ) FileError
row_at all version bank before bytes = do
  mask ← pcrs_at all version before bytes
  count ← lists_number_at all mask.1
  choices ← repeat_at (list_at all bank (length (pcrs_of mask.0))) count.0 [] count.1
  Ok (record { pcrs = mask.0; choices = choices.0 }, choices.1)

unfoldable pub table_at : ℕ → Version → List ℕ → Result (Table × List ℕ) FileError
table_at all version bytes = do
  bank ← bank_at all bytes
  count ← count_at all 24 bank.1
  rows ← repeat_at (row_at all version bank.0) count.0 [] count.1
  Ok (record { bank = bank.0; rows = rows.0 }, rows.1)

unfoldable pub tables_at : ℕ → Version → List ℕ → Result (List Table × List ℕ) FileError
tables_at all version bytes = do
  count ← count_at all 2 bytes
  repeat_at (λ before. table_at all version) count.0 [] count.1

-- what stands behind the magic
unfoldable pub body_at : ℕ → Version → List ℕ → Result (Policy × List ℕ) FileError
body_at all version bytes = do
  handle ← handle_at all 0x01000000 0x01FFFFFF bytes
  index_policy ← bytes_at (fault Cut all) 32 handle.1
  pin_object ← handle_at all 0x81000000 0x817FFFFF index_policy.1
  tables ← tables_at all version pin_object.1
  Ok (
    record { handle = handle.0; index_policy = index_policy.0; pin_object = pin_object.0; tables = tables.0 },
    tables.1,
  )

-- version 2 is there for rows of several PCRs alone
abbrev pub needs : Version → List Table → Bool
needs One tables = true
needs Two tables = not (all_single tables)

-- the policy that the bytes spell, all of the bytes
unfoldable pub policy_in : List ℕ → Result Policy FileError
policy_in bytes = do
  version ← version_at (length bytes) bytes
  body ← body_at (length bytes) version.0 version.1
  needed ← tested (needs version.0 body.0.tables) (Malformed 7 Value) body
  tested (length needed.1 == 0) (fault Trailing (length bytes) needed.1) needed.0
