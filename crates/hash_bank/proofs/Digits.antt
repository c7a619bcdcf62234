-- What the decoder of hexadecimal text answers, in the words of the definitions.
use Rattle.std.proofs.Common.{◌≡◌, ◌≢◌, ℕ, ◌+◌, ◌*◌, ◌/◌, ◌%◌, ◌<◌, ◌≤◌, Bool, true, not, cond, List, [], ◌∷◌, length, Option, Some, None, unwrap_or, is_some, Result, Ok, Err, refl, sym, ap, subst, ◌∙◌, inl, inr, ltb, ◌&&◌, arith}
use Rattle.std.specs.Prelude.{MatchResult}
use Rattle.std.specs.List.{position_from}
use Rattle.std.proofs.lemmas.Bool.{and_parts, cases_eq, ltb-true}
use Rattle.std.proofs.lemmas.List.Quantifiers.{position-Some}
use Rattle.std.proofs.lemmas.Iterator.Adapters.{position_from-zero}
use Rattle.std.proofs.lemmas.Str.Ascii.{IsAscii-nil, IsAscii-cons}
use Rattle.std.proofs.lemmas.Str.{IsUtf8-from_ascii}
use Rattle.std.specs.Str.{IsAscii, IsUtf8}
use Rattle.hex.proofs.HexLemmas.{IsAscii-encode_with}
use Rattle.hex.specs.Hex.{encode_lower, lower_digits, decode_pairs, decode_sized, digit_or_error, hex_digit_value, is_hex_digit, ◌>>=◌}
use Rattle.hex.specs.declared.error.FromHexError.{FromHexError}
use Rattle.hex.specs.declared.error.FromHexError.TheVariants.{InvalidHexCharacter, OddLength, InvalidStringLength}
use Rattle.hash_bank.specs.Hexadecimal.{bytes_of_digits, bytes_of_hex, bytes_unless_bad, first_bad_digit, hex_error_of, IsPlaceWithin}
use Rattle.hash_bank.specs.declared.digest.HexError.TheVariants.{BadLength}

-- what a decoder gives for these bytes, unless the digit at this place is bad
abbrev Decoded : List ℕ → Option ℕ → Result (List ℕ) FromHexError → Type 0
Decoded bytes None r = r ≡ Ok bytes
Decoded bytes (Some n) r = (c : ℕ) × (r ≡ Err (InvalidHexCharacter c n))

-- a byte before those of a decoded rest
abbrev put_first : ℕ → Result (List ℕ) FromHexError → Result (List ℕ) FromHexError
put_first byte r = r >>= (λ bytes. Ok (byte ∷ bytes))

Decoded-put_first : (byte : ℕ) (bytes : List ℕ) (bad : Option ℕ) (r : Result (List ℕ) FromHexError)
    → Decoded bytes bad r → Decoded (byte ∷ bytes) bad (put_first byte r)
Decoded-put_first byte bytes None r h = ap (put_first byte) h
Decoded-put_first byte bytes (Some n) r h = (h.0, ap (put_first byte) h.1)

-- a pair of digits, with the values of its digits where they have one
Decoded-pair : (i high low : ℕ) (vh vl bad : Option ℕ) (bytes : List ℕ) (r : Result (List ℕ) FromHexError)
    → Decoded bytes bad r
    → Decoded ((unwrap_or vh 0 * 16 + unwrap_or vl 0) ∷ bytes)
    (cond (not (is_some vh)) (Some i) (cond (not (is_some vl)) (Some (i + 1)) bad))
    ((digit_or_error high i vh >>= (λ h. digit_or_error low (i + 1) vl >>= (λ l. Ok (h * 16 + l))))
    >>= (λ byte. put_first byte r))
Decoded-pair i high low None vl bad bytes r h = (high, refl)
Decoded-pair i high low (Some a) None bad bytes r h = (low, refl)
Decoded-pair i high low (Some a) (Some b) bad bytes r h = Decoded-put_first (a * 16 + b) bytes bad r h

-- a whole text of pairs, from place i on
Decoded-pairs : (i : ℕ) (text : List ℕ) → length text % 2 ≡ 0
    → Decoded (bytes_of_digits text) (position_from (λ c. not (is_hex_digit c)) i text) (decode_pairs i text)
unfolding bytes_of_digits decode_pairs
Decoded-pairs i [] even = refl
Decoded-pairs i (only ∷ []) even = absurd (omega arith)
Decoded-pairs i (high ∷ low ∷ rest) even =
    let next : i + 1 + 1 ≡ i + 2 = omega arith in
    let later : Decoded (bytes_of_digits rest) (position_from (λ c. not (is_hex_digit c)) (i + 1 + 1) rest) (decode_pairs (i + 2) rest) =
    rw next (Decoded-pairs (i + 2) rest (omega arith)) in
    Decoded-pair i high low (hex_digit_value high) (hex_digit_value low) _ _ _ later

-- the answer of the decoder, in the words of the definitions
abbrev pub Answered : ℕ → List ℕ → Result Unit FromHexError → List ℕ → Type 0
Answered n text r out =
    MatchResult r (λ _. bytes_of_hex n text ≡ Ok out)
    (λ e. (bytes_of_hex n text ≡ Err (hex_error_of e)) × IsPlaceWithin 128 e)

-- what `decode_to_slice` says of its answer
abbrev Says : Result (List ℕ) FromHexError → Result Unit FromHexError → List ℕ → Type 0
Says d r out = MatchResult d (λ bytes. (r ≡ Ok tt) × (out ≡ bytes)) (λ e. r ≡ Err e)

Answered-ok : (n : ℕ) (text bytes : List ℕ) (r : Result Unit FromHexError) (out : List ℕ)
    → bytes_of_hex n text ≡ Ok bytes → (r ≡ Ok tt) × (out ≡ bytes) → Answered n text r out
Answered-ok n text bytes r out e h =
    let P : Result Unit FromHexError → Type 0 = λ r. Answered n text r out in
    subst P (sym h.0) (e ∙ ap Ok (sym h.1))

Answered-err : (n : ℕ) (text : List ℕ) (e : FromHexError) (r : Result Unit FromHexError) (out : List ℕ)
    → bytes_of_hex n text ≡ Err (hex_error_of e) → IsPlaceWithin 128 e → r ≡ Err e → Answered n text r out
Answered-err n text e r out h within is =
    let P : Result Unit FromHexError → Type 0 = λ r. Answered n text r out in
    subst P (sym is) (h, within)

-- a text of two digits for each byte
Answered-pairs : (n : ℕ) (text : List ℕ) (bad : Option ℕ) (d : Result (List ℕ) FromHexError) (r : Result Unit FromHexError) (out : List ℕ)
    → bytes_of_hex n text ≡ bytes_unless_bad text bad → ((k : ℕ) → bad ≡ Some k → k < 128)
    → Decoded (bytes_of_digits text) bad d → Says d r out → Answered n text r out
Answered-pairs n text None d r out e below is says =
    let P : Result (List ℕ) FromHexError → Type 0 = λ d. Says d r out in
    Answered-ok n text (bytes_of_digits text) r out e (subst P is says)
Answered-pairs n text (Some k) d r out e below is says =
    let P : Result (List ℕ) FromHexError → Type 0 = λ d. Says d r out in
    Answered-err n text (InvalidHexCharacter is.0 k) r out e (below k refl) (subst P is.1 says)

Answered-even : (n : ℕ) (text : List ℕ) (r : Result Unit FromHexError) (out : List ℕ)
    → n ≤ 64 → length text ≡ 2 * n → Says (decode_sized text n) r out → Answered n text r out
Answered-even n text r out small len says =
    let sized : decode_sized text n ≡ decode_pairs 0 text = grind arith in
    let spelled : bytes_of_hex n text ≡ bytes_unless_bad text (first_bad_digit text) = grind arith in
    let zeroth : first_bad_digit text ≡ position_from (λ c. not (is_hex_digit c)) 0 text =
    position_from-zero (λ c. not (is_hex_digit c)) text in
    let decoded : Decoded (bytes_of_digits text) (first_bad_digit text) (decode_pairs 0 text) =
    rw zeroth (Decoded-pairs 0 text (omega arith)) in
    let P : Result (List ℕ) FromHexError → Type 0 = λ d. Says d r out in
    Answered-pairs n text (first_bad_digit text) (decode_pairs 0 text) r out spelled
    (λ k e. let found = position-Some (λ c. not (is_hex_digit c)) text k 0 e in omega arith)
    decoded (subst P sized says)

-- a text of another length
Answered-other : (n : ℕ) (text : List ℕ) (r : Result Unit FromHexError) (out : List ℕ)
    → n ≤ 64 → length text ≢ 2 * n → Says (decode_sized text n) r out → Answered n text r out
Answered-other n text r out small len says =
    let refused : bytes_of_hex n text ≡ Err BadLength = grind arith in
    let P : Result (List ℕ) FromHexError → Type 0 = λ d. Says d r out in
    elim (cases_eq (length text % 2) 1) [
      | inl odd ↦
          let sized : decode_sized text n ≡ Err OddLength = grind arith in
          Answered-err n text OddLength r out refused tt (subst P sized says)
      | inr even ↦
          let half : length text / 2 ≢ n = λ e. len (omega arith) in
          let sized : decode_sized text n ≡ Err InvalidStringLength = grind arith in
          Answered-err n text InvalidStringLength r out refused tt (subst P sized says)
    ]

-- the answer for any text
pub decoder_answers : (n : ℕ) (text : List ℕ) (r : Result Unit FromHexError) (out : List ℕ)
    → n ≤ 64 → MatchResult (decode_sized text n) (λ bytes. (r ≡ Ok tt) × (out ≡ bytes)) (λ e. r ≡ Err e)
    → Answered n text r out
decoder_answers n text r out small says =
    elim (cases_eq (length text) (2 * n)) [
      | inl len ↦ Answered-even n text r out small len says
      | inr len ↦ Answered-other n text r out small len says
    ]

-- each digit of the table is ASCII: the test of the first n places, which computes
abbrev all_ascii : List ℕ → Bool
all_ascii [] = true
all_ascii (x ∷ xs) = ltb x 128 && all_ascii xs

IsAscii-all_ascii : (xs : List ℕ) → all_ascii xs ≡ true → IsAscii xs
IsAscii-all_ascii [] h = IsAscii-nil
IsAscii-all_ascii (x ∷ xs) h =
    let parts = and_parts (ltb x 128) (all_ascii xs) h in
    IsAscii-cons x xs (ltb-true x 128 parts.0) (IsAscii-all_ascii xs parts.1)

-- the digits of some bytes are text
pub IsUtf8-encode_lower : (bytes : List ℕ) → IsUtf8 (encode_lower bytes)
IsUtf8-encode_lower bytes =
    IsUtf8-from_ascii _ (IsAscii-encode_with lower_digits bytes (IsAscii-all_ascii lower_digits refl))
