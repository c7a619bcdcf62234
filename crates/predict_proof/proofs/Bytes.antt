-- Which bytes stand in a text, and where it is parted.
use Rattle.std.proofs.Common.{◌≡◌, ℕ, zero, suc, ◌+◌, ◌/◌, ◌%◌, ◌^◌, ◌<◌, ◌≤◌, Bool, true, false, ◌&&◌, eqb, leb, List, [], ◌∷◌, map, refl, ap, ◌∙◌, subst, inl, inr, arith}
use Rattle.std.specs.Prelude.{slice_index}
use Rattle.std.specs.List.{All, join_with_byte}
use Rattle.std.specs.Fmt.{decimal}
use Rattle.std.proofs.lemmas.Bool.{and_parts, cases_lt, leb-true, ne_eqb, eq-eqb}
use Rattle.std.proofs.lemmas.Fmt.{decimal_by_steps}
use Rattle.std.proofs.lemmas.List.Elements.{All-nil, All-cons, All-head, All-tail, All-append, All-weaker}
use Rattle.std.proofs.lemmas.List.Splits.{slice_split_none, slice_split_at}
use Rattle.hex.specs.Hex.{IsBytes, encode_lower, encode_with, lower_digits}
use Rattle.pl_text.specs.Parts.{parts_of}

-- each byte is at least n
abbrev pub From : ℕ → List ℕ → Type 0
From n text = All (λ b. n ≤ b) text

pub from_lower : (n m : ℕ) (text : List ℕ) → n ≤ m → From m text → From n text
from_lower n m text le h = All-weaker (λ b. m ≤ b) (λ b. n ≤ b) (λ b at. omega arith) text h

-- ---- digits

pub decimal_from : (n : ℕ) → n < 2 ^ 64 → From 48 (decimal n)
decimal_from n lt =
    decimal_by_steps (λ n digits. From 48 digits) (λ n below. All-cons (λ b. 48 ≤ b) (48 + n) [] (omega arith) (All-nil (λ b. 48 ≤ b)))
    (λ n digits more so_far. All-append (λ b. 48 ≤ b) digits ((48 + n % 10) ∷ []) so_far (All-cons (λ b. 48 ≤ b) (48 + n % 10) [] (omega arith) (All-nil (λ b. 48 ≤ b)))) n lt

abbrev digits_from : ℕ → Bool
digits_from zero = true
digits_from (suc n) = leb 48 (slice_index lower_digits n) && digits_from n

digit_from : (n d : ℕ) → digits_from n ≡ true → d < n → 48 ≤ slice_index lower_digits d
digit_from zero d h lt = absurd (omega arith)
digit_from (suc n) d h lt =
    let parts = and_parts (leb 48 (slice_index lower_digits n)) (digits_from n) h in
    elim (cases_lt d n) [
      | inl below ↦ digit_from n d parts.1 below
      | inr top ↦ let e : n ≡ d = omega arith in subst (λ k. 48 ≤ slice_index lower_digits k) e (leb-true 48 (slice_index lower_digits n) parts.0)
    ]

pub hex_from : (bytes : List ℕ) → IsBytes bytes → From 48 (encode_lower bytes)
unfolding encode_with
hex_from [] h = All-nil (λ b. 48 ≤ b)
hex_from (b ∷ rest) h =
    let small : b < 256 = h 0 in
    let high : b / 16 < 16 = omega arith in
    let low : b % 16 < 16 = omega arith in
    All-cons (λ b. 48 ≤ b) (slice_index lower_digits (b / 16)) (slice_index lower_digits (b % 16) ∷ encode_lower rest) (digit_from 16 (b / 16) refl high)
    (All-cons (λ b. 48 ≤ b) (slice_index lower_digits (b % 16)) (encode_lower rest) (digit_from 16 (b % 16) refl low) (hex_from rest (λ i. h (suc i))))

-- ---- joined texts

pub joined_from : (n byte : ℕ) → n ≤ byte → (texts : List (List ℕ)) → All (From n) texts → From n (join_with_byte byte texts)
joined_from n byte le [] h = All-nil (λ b. n ≤ b)
joined_from n byte le (x ∷ []) h = All-head (From n) x [] h
joined_from n byte le (x ∷ y ∷ texts) h =
    All-append (λ b. n ≤ b) x (byte ∷ join_with_byte byte (y ∷ texts)) (All-head (From n) x (y ∷ texts) h)
    (All-cons (λ b. n ≤ b) byte (join_with_byte byte (y ∷ texts)) le (joined_from n byte le (y ∷ texts) (All-tail (From n) x (y ∷ texts) h)))

pub none_there : (n byte : ℕ) → byte < n → (text : List ℕ) → From n text → All (λ b. eqb b byte ≡ false) text
none_there n byte lt text h = All-weaker (λ b. n ≤ b) (λ b. eqb b byte ≡ false) (λ b at. ne_eqb b byte (λ same. omega arith)) text h

-- they part where they were joined
pub parts_joined : (n byte : ℕ) → byte < n → (x : List ℕ) (texts : List (List ℕ)) → All (From n) (x ∷ texts) → parts_of byte (join_with_byte byte (x ∷ texts)) ≡ x ∷ texts
parts_joined n byte lt x [] h = slice_split_none (λ b. eqb b byte) x (none_there n byte lt x (All-head (From n) x [] h))
parts_joined n byte lt x (y ∷ texts) h =
    slice_split_at (λ b. eqb b byte) x byte (join_with_byte byte (y ∷ texts)) (none_there n byte lt x (All-head (From n) x (y ∷ texts) h)) (eq-eqb byte byte refl)
    ∙ ap (λ (rest : List (List ℕ)). x ∷ rest) (parts_joined n byte lt y texts (All-tail (From n) x (y ∷ texts) h))

-- all texts of these values
pub texts_from : {X : Type 0} (n : ℕ) (text : X → List ℕ) (P : X → Type 0) → ((x : X) → P x → From n (text x)) → (xs : List X) → All P xs → All (From n) (map text xs)
texts_from n text P from [] h = All-nil (From n)
texts_from n text P from (x ∷ xs) h = All-cons (From n) (text x) (map text xs) (from x (All-head P x xs h)) (texts_from n text P from xs (All-tail P x xs h))
