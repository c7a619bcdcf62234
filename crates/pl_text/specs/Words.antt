-- What a word of text spells. Hexadecimal digits are of either case, and commas part a list.
use Rattle.std.specs.Prelude.{ℕ, ◌^◌, true, false, ◌==◌, ◌&&◌, nat_le, bit_or, if◌then◌else◌, List, [], ◌∷◌, find, Option, Some, None, option_map}
use Rattle.std.specs.Result.{result_ok}
use Rattle.std.specs.Str.{bytes_eq}
use Rattle.std.specs.Str.Parse.{digits_value}
use Rattle.std.specs.Fmt.{decimal}
use Rattle.std.specs.Int.{from_be_bytes, w32}
use Rattle.hex.specs.Hex.{decode_sized}
use Rattle.hash_bank.specs.declared.bank.Bank.{Bank}
use Rattle.hash_bank.specs.declared.bank.Bank.TheVariants.{Sha1, Sha256, Sha384, Sha512}
use Rattle.hash_bank.specs.declared.banks.Banks.{Banks}
use Rattle.hash_bank.specs.Banks.{has_bank}
use Rattle.hash_bank.specs.Hash.{name_in}
use Rattle.policy_digest.specs.Mask.{has_pcr}
use Rattle.pl_text.specs.Parts.{parts_of}

-- the second reading, of what the first gives
infixl 10 ◌>>=◌
abbrev pub ◌>>=◌ : {A B : Type 0} → Option A → (A → Option B) → Option B
None >>= f = None
Some x >>= f = f x

-- a number up to a limit, in decimal digits with no sign and no leading zero
abbrev pub number_up_to : ℕ → List ℕ → Option ℕ
number_up_to limit word =
    let n = digits_value 10 word in
    if nat_le n limit && bytes_eq word (decimal n) then Some n else None

-- the n bytes of n pairs of digits
abbrev pub bytes_of : ℕ → List ℕ → Option (List ℕ)
bytes_of n word = result_ok (decode_sized word n)

-- a number of 32 bits in eight hexadecimal digits, as a handle or attributes
abbrev pub handle_of : List ℕ → Option ℕ
handle_of word = option_map (from_be_bytes w32) (bytes_of 4 word)

-- the bank of this name
abbrev pub bank_of : List ℕ → Option Bank
bank_of word = find (λ bank. bytes_eq (name_in bank) word) (Sha1 ∷ Sha256 ∷ Sha384 ∷ Sha512 ∷ [])

-- no bank
abbrev pub no_bank : Banks
no_bank = record { sha1 = false; sha256 = false; sha384 = false; sha512 = false }

-- the banks with one more
abbrev pub with_bank : Bank → Banks → Banks
with_bank Sha1 banks = record banks { sha1 = true }
with_bank Sha256 banks = record banks { sha256 = true }
with_bank Sha384 banks = record banks { sha384 = true }
with_bank Sha512 banks = record banks { sha512 = true }

-- the banks with those of further names, none of which is there yet
abbrev pub with_banks : Banks → List (List ℕ) → Option Banks
with_banks banks [] = Some banks
with_banks banks (name ∷ names) = do
  bank ← bank_of name
  if has_bank banks bank then None else with_banks (with_bank bank banks) names

-- the banks of a list of names, none of them twice
abbrev pub banks_of : List ℕ → Option Banks
banks_of word = with_banks no_bank (parts_of 44 word)

-- a PCR's number
abbrev pub pcr_of : List ℕ → Option ℕ
pcr_of word = number_up_to 23 word

-- the mask with one more PCR
abbrev pub with_pcr : ℕ → ℕ → ℕ
with_pcr mask pcr = bit_or mask (2 ^ pcr)

-- the mask with those of further numbers, none of which is there yet
abbrev pub with_pcrs : ℕ → List (List ℕ) → Option ℕ
with_pcrs mask [] = Some mask
with_pcrs mask (number ∷ numbers) = do
  pcr ← pcr_of number
  if has_pcr mask pcr then None else with_pcrs (with_pcr mask pcr) numbers

-- the mask of the PCRs of these numbers, none of them twice
abbrev pub pcr_mask_of : List ℕ → Option ℕ
pcr_mask_of word = with_pcrs 0 (parts_of 44 word)
