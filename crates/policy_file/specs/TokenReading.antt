-- Reading a token file field by field. The first field that is cut or has no allowed value is the fault.
use Rattle.std.specs.Prelude.{ℕ, ◌+◌, ◌&&◌, ◌==◌, nat_le, List, length, Option, Some, None, Result, Ok, if◌then◌else◌}
use Rattle.std.specs.Int.{w8, w16, w32}
use Rattle.std.specs.Str.{bytes_eq}
use Rattle.hash_bank.specs.declared.bank.Bank.{Bank}
use Rattle.hash_bank.specs.declared.bank.Bank.TheVariants.{Sha256, Sha384}
use Rattle.hash_bank.specs.Hash.{size_in, bank_of_algorithm}
use Rattle.policy_file.specs.declared.error.FileKind.TheVariants.{Magic, Value, Trailing}
use Rattle.policy_file.specs.declared.error.FileError.{FileError}
use Rattle.policy_file.specs.declared.token.Kind.{Kind}
use Rattle.policy_file.specs.declared.token.Kind.TheVariants as kinds
use Rattle.policy_file.specs.declared.token.Literal.{Literal}
use Rattle.policy_file.specs.declared.token.Token.{Token}
use Rattle.policy_file.specs.declared.token.Token.TheVariants as token
use Rattle.policy_file.specs.Field.{◌>>=◌, field_at, number_at, tested, found}
use Rattle.policy_file.specs.TokenText.{token_magic}

-- what a kind's number says
abbrev pub kind_of : ℕ → Option Kind
kind_of number =
    if number == 0 then Some kinds.Bound
    else if number == 1 then Some (kinds.Literal Sha256)
    else if number == 2 then Some (kinds.Literal Sha384)
    else None

unfoldable pub magic_in : List ℕ → Result (Unit {0}) FileError
magic_in bytes = do
  magic ← field_at bytes 0 8
  tested 0 Magic (bytes_eq magic token_magic) tt

unfoldable pub object_in : List ℕ → Result ℕ FileError
object_in bytes = do
  object ← number_at w32 bytes 8
  tested 8 Value (nat_le 0x81000000 object && nat_le object 0x817FFFFF) object

unfoldable pub kind_in : List ℕ → Result Kind FileError
kind_in bytes = do
  number ← number_at w8 bytes 12
  found 12 Value (kind_of number)

unfoldable pub bank_in : List ℕ → Result Bank FileError
bank_in bytes = do
  number ← number_at w16 bytes 13
  found 13 Value (bank_of_algorithm number)

unfoldable pub pcr_in : List ℕ → Result ℕ FileError
pcr_in bytes = do
  pcr ← number_at w8 bytes 15
  tested 15 Value (nat_le pcr 23) pcr

-- the value of the bank, with nothing behind it
unfoldable pub value_in : List ℕ → Bank → Result (List ℕ) FileError
value_in bytes bank = do
  value ← field_at bytes 16 (size_in bank)
  tested (16 + size_in bank) Trailing (length bytes == 16 + size_in bank) value

unfoldable pub literal_in : List ℕ → Bank → Result Literal FileError
literal_in bytes hash = do
  bank ← bank_in bytes
  pcr ← pcr_in bytes
  value ← value_in bytes bank
  Ok (record { hash = hash; bank = bank; pcr = pcr; value = value })

-- the object with what its kind asks for: of a bound one nothing stands behind the kind
unfoldable pub said_in : List ℕ → ℕ → Kind → Result Token FileError
said_in bytes object kinds.Bound = tested 13 Trailing (length bytes == 13) (token.Bound object)
said_in bytes object (kinds.Literal hash) = do
  literal ← literal_in bytes hash
  Ok (token.Literal object literal)

unfoldable pub token_in : List ℕ → Result Token FileError
token_in bytes = do
  checked ← magic_in bytes
  object ← object_in bytes
  kind ← kind_in bytes
  said_in bytes object kind
