-- Numbers in decimal digits, as `parse` reads them and as they print.
use Rattle.std.proofs.Common.{◌≡◌, ℕ, ◌+◌, ◌<◌, ◌≤◌, ◌^◌, Bool, true, false, cond, ◌&&◌, ◌||◌, List, length, get_or, Some, None, Result, Ok, Err, refl, sym, ap, ◌∙◌, subst, inl, inr, arith}
use Rattle.std.specs.Prelude.{not, nat_le, slice_index, ◌==◌}
use Rattle.std.specs.Result.{result_ok}
use Rattle.std.proofs.lemmas.Bool.Decides.{nat_tests}
use Rattle.std.specs.Str.{bytes_eq, IsUtf8}
use Rattle.std.proofs.lemmas.Str.{IsUtf8-from_ascii}
use Rattle.std.specs.Str.Parse.{AllDigits, IsNumeral, ParsesUnsigned, digits_value, without_leading_plus}
use Rattle.std.specs.Fmt.{decimal}
use Rattle.std.proofs.lemmas.Bool.{and_parts, cases_lt, leb-true, not-true, eqb-true, le-leb, lt-leb}
use Rattle.std.proofs.Math.Bool.{or-false}
use Rattle.std.proofs.lemmas.Result.{OkIff-at_ok}
use Rattle.std.proofs.lemmas.Slice.Eq.{bytes_eq-Decides}
use Rattle.std.proofs.lemmas.Str.Parse.{IsNumeralModel, numerals_by_value, tells_digits}
use Rattle.std.proofs.lemmas.Fmt.{IsAscii-decimal, parse-decimal, decimal-digits_value, decimal_digit, first_decimal}
use Rattle.pl_text.specs.Plain.{is_plain}
use Rattle.pl_text.specs.Words.{number_up_to}

-- the digits of std are their own model
own : IsNumeralModel (AllDigits 10) (digits_value 10)
own = numerals_by_value (AllDigits 10) tells_digits

-- nothing is read where a test doesn't hold
none_unless : (test : Bool) (n : ℕ) → (test ≡ true → ⊥) → cond test (Some n) None ≡ None
none_unless true n refused = absurd (refused refl)
none_unless false n refused = refl

-- a value that is read is the text of a number up to the limit
pub is_decimal : (limit : ℕ) (value : List ℕ) → limit < 2 ^ 32 → (nat_le (digits_value 10 value) limit && bytes_eq value (decimal (digits_value 10 value))) ≡ true → (digits_value 10 value < 2 ^ 32) × (value ≡ decimal (digits_value 10 value))
is_decimal limit value small read =
    let n = digits_value 10 value in
    let parts = and_parts (nat_le n limit) (bytes_eq value (decimal n)) read in
    (omega (arith, leb-true n limit parts.0, small), (bytes_eq-Decides value (decimal n)).0 parts.1)

-- what `parse` refuses
pub number-unparsed : {E : Type 0} (limit : ℕ) (value : List ℕ) (r : Result ℕ E) → limit < 2 ^ 32 → ParsesUnsigned 32 10 value r → result_ok r ≡ None → number_up_to limit value ≡ None
number-unparsed limit value r small parsed failed =
    let n = digits_value 10 value in
    none_unless (nat_le n limit && bytes_eq value (decimal n)) n (λ read.
    let facts = is_decimal limit value small read in
    let again = parse-decimal 32 n value r facts.0 (omega (arith, facts.0)) facts.1 parsed in
    let both = sym (ap result_ok again) ∙ failed in
    cc)

-- a first digit other than 0 is neither a sign nor a leading zero
plain_first : (first len : ℕ) → 48 < first → (not (first == 43) && (len == 1 || not (first == 48))) ≡ true
plain_first first len above = grind (arith, nat_tests)

-- one digit alone is no sign
plain_digit : (digit : ℕ) (alone : Bool) → (not (48 + digit == 43) && (true || alone)) ≡ true
plain_digit digit alone = grind (arith, nat_tests)

-- the text of a number has no sign and no leading zero
pub decimal_is_plain : (n : ℕ) → n < 2 ^ 32 → is_plain (decimal n) ≡ true
decimal_is_plain n small =
    elim (cases_lt n 10) [
      | inl one ↦ ap is_plain (decimal_digit n one) ∙ plain_digit n (not (48 + n == 48))
      | inr more ↦ plain_first (get_or (decimal n) 0 0) (length (decimal n)) (first_decimal n (omega (arith, more)) (omega (arith, small)))
    ]

-- what has a sign or a leading zero
pub number-unplain : (limit : ℕ) (value : List ℕ) → limit < 2 ^ 32 → is_plain value ≡ false → number_up_to limit value ≡ None
number-unplain limit value small unplain =
    let n = digits_value 10 value in
    none_unless (nat_le n limit && bytes_eq value (decimal n)) n (λ read.
    let facts = is_decimal limit value small read in
    let both = sym (decimal_is_plain n facts.0) ∙ sym (ap is_plain facts.1) ∙ unplain in
    cc)

-- a result, by its value
ok_from : {E : Type 0} (r : Result ℕ E) (n : ℕ) → result_ok r ≡ Some n → r ≡ Ok n
ok_from (Ok x) n e = cc
ok_from (Err e) n f = cc

-- a value without a sign is read as it stands
unsigned : (value : List ℕ) → is_plain value ≡ true → without_leading_plus value ≡ value
unsigned value plain =
    let parts = and_parts (not (slice_index value 0 == 43)) (length value == 1 || not (slice_index value 0 == 48)) plain in
    let other = not-true (slice_index value 0 == 43) parts.0 in
    rw other

-- a value whose first digit is 0 is that digit alone
zero_alone : (value : List ℕ) → is_plain value ≡ true → slice_index value 0 ≡ 48 → length value ≡ 1
zero_alone value plain zero =
    let parts = and_parts (not (slice_index value 0 == 43)) (length value == 1 || not (slice_index value 0 == 48)) plain in
    let alone : (length value == 1) ≡ true = rw (zero, or-false) at parts.1 in
    eqb-true (length value) 1 alone

-- what has neither a sign nor a leading zero is the text of its number
pub is_text : {E : Type 0} (number : ℕ) (value : List ℕ) (r : Result ℕ E) → ParsesUnsigned 32 10 value r → result_ok r ≡ Some number → is_plain value ≡ true → (number ≡ digits_value 10 value) × (bytes_eq value (decimal (digits_value 10 value)) ≡ true)
is_text number value r parsed found plain =
    let parts =
    OkIff-at_ok r (IsNumeral 10 (without_leading_plus value) × (digits_value 10 (without_leading_plus value) < 2 ^ 32)) (digits_value 10 (without_leading_plus value)) number parsed (ok_from r number found) in
    let same = unsigned value plain in
    let numeral : IsNumeral 10 value = subst (IsNumeral 10) same parts.0.0 in
    let small : digits_value 10 value < 2 ^ 32 = rw same at parts.0.1 in
    let text : decimal (digits_value 10 value) ≡ value =
    decimal-digits_value own value numeral.1 numeral.0 (zero_alone value plain) (omega (arith, small)) in
    (parts.1 ∙ ap (digits_value 10) same, (bytes_eq-Decides value (decimal (digits_value 10 value))).1 (sym text))

pub number-within : {E : Type 0} (limit number : ℕ) (value : List ℕ) (r : Result ℕ E) → ParsesUnsigned 32 10 value r → result_ok r ≡ Some number → is_plain value ≡ true → number ≤ limit → number_up_to limit value ≡ Some number
number-within limit number value r parsed found plain within =
    let text = is_text number value r parsed found plain in
    let below = le-leb (digits_value 10 value) limit (subst (λ n. n ≤ limit) text.0 within) in
    rw (below, text.1) (ap (λ n. Some n) (sym text.0))

pub number-above : {E : Type 0} (limit number : ℕ) (value : List ℕ) (r : Result ℕ E) → ParsesUnsigned 32 10 value r → result_ok r ≡ Some number → is_plain value ≡ true → limit < number → number_up_to limit value ≡ None
number-above limit number value r parsed found plain above =
    let text = is_text number value r parsed found plain in
    let over = lt-leb (digits_value 10 value) limit (subst (λ n. limit < n) text.0 above) in
    rw over

-- a word that isn't text is no number
pub number-no_text : (limit : ℕ) (word : List ℕ) → limit < 2 ^ 32 → (IsUtf8 word → ⊥) → number_up_to limit word ≡ None
number-no_text limit word small broken =
    let n = digits_value 10 word in
    none_unless (nat_le n limit && bytes_eq word (decimal n)) n (λ read.
    let facts = is_decimal limit word small read in
    broken (subst IsUtf8 (sym facts.1) (IsUtf8-from_ascii (decimal n) (IsAscii-decimal n (omega (arith, facts.0))))))

-- what a test lets through
let_through : (test : Bool) (n m : ℕ) → Some m ≡ cond test (Some n) None → (test ≡ true) × (m ≡ n)
let_through true n m e = (refl, cc)
let_through false n m e = cc

-- a number that is read is within the limit
pub number-in_range : (limit n : ℕ) (value : List ℕ) → Some n ≡ number_up_to limit value → n ≤ limit
number-in_range limit n value read =
    let found = digits_value 10 value in
    let parts = let_through (nat_le found limit && bytes_eq value (decimal found)) found n read in
    omega (arith, leb-true found limit (and_parts (nat_le found limit) (bytes_eq value (decimal found)) parts.0).0, parts.1)
