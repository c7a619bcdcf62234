-- Fields of a file. A field that the file's end cuts is refused as Cut where the field begins.
use Rattle.std.specs.Prelude.{◌≡◌, ℕ, ◌+◌, Bool, List, length, take, drop, Option, Some, None, Result, Ok, Err, nat_lt, if◌then◌else◌}
use Rattle.std.specs.Int.{Width, byte_len, from_be_bytes}
use Rattle.policy_file.specs.declared.error.FileKind.{FileKind}
use Rattle.policy_file.specs.declared.error.FileKind.TheVariants.{Cut}
use Rattle.policy_file.specs.declared.error.FileError.{FileError}
use Rattle.policy_file.specs.declared.error.FileError.TheVariants.{Malformed}

-- one field is read after another, up to the first that is at fault
infixl 10 ◌>>=◌
abbrev pub ◌>>=◌ : {A B : Type 0} → Result A FileError → (A → Result B FileError) → Result B FileError
(Ok x) >>= f = f x
(Err e) >>= f = Err e

-- what a function returned, seen by view, is what reading gives
abbrev pub Gives : {X Y : Type 0} → (X → Y) → Result X FileError → Result Y FileError → Type 0
Gives view (Ok x) read = read ≡ Ok (view x)
Gives view (Err e) read = read ≡ Err e

-- the bytes of a field from its place on
abbrev pub field_at : List ℕ → ℕ → ℕ → Result (List ℕ) FileError
field_at bytes place size =
    if nat_lt (length bytes) (place + size) then Err (Malformed place Cut) else Ok (take size (drop place bytes))

-- a number as a field, the highest byte first
abbrev pub number_at : Width → List ℕ → ℕ → Result ℕ FileError
number_at w bytes place = do
  digits ← field_at bytes place (byte_len w)
  Ok (from_be_bytes w digits)

-- a value that passes a test, else the fault at its place
abbrev pub tested : {A : Type 0} → ℕ → FileKind → Bool → A → Result A FileError
tested place kind passes x = if passes then Ok x else Err (Malformed place kind)

-- what a table has for a value, else the fault at its place
abbrev pub found : {A : Type 0} → ℕ → FileKind → Option A → Result A FileError
found place kind (Some x) = Ok x
found place kind None = Err (Malformed place kind)
