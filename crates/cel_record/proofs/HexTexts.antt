-- The hexadecimal digits of a digest, in a JSON text and read back.
use Rattle.std.proofs.Common.{◌≡◌, ℕ, zero, suc, ◌/◌, ◌%◌, ◌<◌, ◌&&◌, Bool, true, List, [], ◌∷◌, length, Ok, refl, inl, inr, arith}
use Rattle.std.specs.Prelude.{slice_index}
use Rattle.std.specs.Str.{bytes_eq}
use Rattle.std.proofs.lemmas.Bool.{and_parts, cases_lt}
use Rattle.std.proofs.lemmas.Slice.Eq.{bytes_eq-Decides}
use Rattle.hex.specs.Hex.{IsBytes, encode_lower, encode_with, lower_digits}
use Rattle.hex.proofs.HexLemmas.{decode_sized-encode_lower}
use Rattle.json.specs.Print.{escape, escape_byte}
use Rattle.hash_bank.specs.declared.bank.Bank.{Bank}
use Rattle.hash_bank.specs.Hash.{size_in}
use Rattle.hash_bank.specs.Hexadecimal.{digest_of_hex}
use Rattle.hash_bank.proofs.Digits.{decoder_answers}
use Rattle.hash_bank.proofs.Sizes.{size_in-le}

-- a digit needs no escape: the test of the first n digits, which computes
abbrev plain_below : ℕ → Bool
plain_below zero = true
plain_below (suc n) = bytes_eq (escape_byte (slice_index lower_digits n)) (slice_index lower_digits n ∷ []) && plain_below n

plain_digit : (n d : ℕ) → plain_below n ≡ true → d < n → escape_byte (slice_index lower_digits d) ≡ slice_index lower_digits d ∷ []
plain_digit zero d h lt = absurd (omega arith)
plain_digit (suc n) d h lt =
    let parts = and_parts (bytes_eq (escape_byte (slice_index lower_digits n)) (slice_index lower_digits n ∷ [])) (plain_below n) h in
    elim (cases_lt d n) [
      | inl below ↦ plain_digit n d parts.1 below
      | inr top ↦
          let e : d ≡ n = omega arith in
          rw e ((bytes_eq-Decides _ _).0 parts.0)
    ]

all_plain : plain_below 16 ≡ true
unfolding escape_byte
all_plain = refl

-- the digits of some bytes need none
pub escape-encode_lower : (bytes : List ℕ) → IsBytes bytes → escape (encode_lower bytes) ≡ encode_lower bytes
unfolding encode_with
escape-encode_lower [] h = refl
escape-encode_lower (b ∷ rest) h =
    let small : b < 256 = h 0 in
    rw (plain_digit 16 (b / 16) all_plain (omega arith), plain_digit 16 (b % 16) all_plain (omega arith), escape-encode_lower rest (λ i. h (suc i)))

-- a digest's digits read as the digest
pub digest_of_hex-encode_lower : (b : Bank) (x : List ℕ) → length x ≡ size_in b → IsBytes x → digest_of_hex b (encode_lower x) ≡ Ok x
digest_of_hex-encode_lower b x len bytes =
    decoder_answers (size_in b) (encode_lower x) (Ok tt) x (size_in-le b) (rw (decode_sized-encode_lower x (size_in b) len bytes) (refl, refl))
