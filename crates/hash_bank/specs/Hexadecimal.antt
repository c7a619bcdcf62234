-- Digests as hexadecimal text.
use Rattle.std.specs.Prelude.{ℕ, ◌+◌, ◌*◌, ◌<◌, ⊤, ◌==◌, not, List, [], ◌∷◌, length, if◌then◌else◌, Option, Some, None, unwrap_or, Result, Ok, Err, position}
use Rattle.hex.specs.Hex.{hex_digit_value, is_hex_digit}
use Rattle.hex.specs.declared.error.FromHexError.{FromHexError}
use Rattle.hex.specs.declared.error.FromHexError.TheVariants.{InvalidHexCharacter, OddLength, InvalidStringLength, OutOfMemory}
use Rattle.hash_bank.specs.declared.bank.Bank.{Bank}
use Rattle.hash_bank.specs.declared.digest.HexError.{HexError}
use Rattle.hash_bank.specs.declared.digest.HexError.TheVariants.{BadLength, BadHex}
use Rattle.hash_bank.specs.Hash.{size_in}

-- the value of a hexadecimal digit of either case
abbrev pub digit_value : ℕ → ℕ
digit_value c = unwrap_or (hex_digit_value c) 0

-- the bytes that pairs of digits spell, the high digit of each first
unfoldable pub bytes_of_digits : List ℕ → List ℕ
bytes_of_digits [] = []
bytes_of_digits (high ∷ []) = []
bytes_of_digits (high ∷ low ∷ rest) = (digit_value high * 16 + digit_value low) ∷ bytes_of_digits rest

-- the place of the first byte that is no hexadecimal digit of either case
abbrev pub first_bad_digit : List ℕ → Option ℕ
first_bad_digit text = position (λ c. not (is_hex_digit c)) text

-- the bytes that a text spells, unless a digit is bad
abbrev pub bytes_unless_bad : List ℕ → Option ℕ → Result (List ℕ) HexError
bytes_unless_bad text None = Ok (bytes_of_digits text)
bytes_unless_bad text (Some n) = Err (BadHex n)

-- the n bytes that a text spells: it has two digits for each byte, and all of them are good
abbrev pub bytes_of_hex : ℕ → List ℕ → Result (List ℕ) HexError
bytes_of_hex n text =
    if length text == 2 * n then bytes_unless_bad text (first_bad_digit text) else Err BadLength

-- the bank's digest that a text spells
abbrev pub digest_of_hex : Bank → List ℕ → Result (List ℕ) HexError
digest_of_hex b text = bytes_of_hex (size_in b) text

-- a decoder's error, as one of ours: its place, or that the length is wrong
abbrev pub hex_error_of : FromHexError → HexError
hex_error_of (InvalidHexCharacter c place) = BadHex place
hex_error_of OddLength = BadLength
hex_error_of InvalidStringLength = BadLength
hex_error_of OutOfMemory = BadLength

-- the place that the error names, where it names one, is below n
abbrev pub IsPlaceWithin : ℕ → FromHexError → Type 0
IsPlaceWithin n (InvalidHexCharacter c place) = place < n
IsPlaceWithin n OddLength = ⊤
IsPlaceWithin n InvalidStringLength = ⊤
IsPlaceWithin n OutOfMemory = ⊤
