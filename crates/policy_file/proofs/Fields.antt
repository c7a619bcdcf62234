-- What a field that was read says of the file's bytes.
use Rattle.std.proofs.Common.{◌≡◌, ℕ, ◌+◌, ◌<◌, ◌≤◌, Bool, true, false, cond, ltb, List, [], ◌∷◌, ◌++◌, length, get_or, take, drop, Option, Some, None, Result, Ok, Err, refl, sym, ap, subst, ◌∙◌, arith, inl, inr}
use Rattle.std.specs.Int.{w8, w16, w32, from_be_bytes, to_be_bytes}
use Rattle.std.proofs.lemmas.Bool.{cases_lt, ltb-false}
use Rattle.std.proofs.lemmas.List.{take-append-drop, drop-drop, length-take, get_or-drop, get_or-take, get_or_past}
use Rattle.std.proofs.Math.ListN.{length-drop}
use Rattle.std.proofs.lemmas.Nat.{be_bytes_2, be_bytes_4}
use Rattle.policy_file.specs.declared.error.FileKind.{FileKind}
use Rattle.policy_file.specs.declared.error.FileKind.TheVariants.{Cut}
use Rattle.policy_file.specs.declared.error.FileError.{FileError}
use Rattle.policy_file.specs.declared.error.FileError.TheVariants.{Malformed}
use Rattle.policy_file.specs.Field.{◌>>=◌, field_at, number_at, tested, found}

abbrev pub IsBytes : List ℕ → Type 0
IsBytes bytes = (i : ℕ) → get_or bytes i 0 < 256

IsBytes-drop : (n : ℕ) (bytes : List ℕ) → IsBytes bytes → IsBytes (drop n bytes)
IsBytes-drop n bytes h i = rw get_or-drop (h (n + i))

IsBytes-take : (n : ℕ) (bytes : List ℕ) → IsBytes bytes → IsBytes (take n bytes)
IsBytes-take n bytes h i =
    elim (cases_lt i n) [
      | inl lt ↦ rw (get_or-take n bytes i 0 lt) (h i)
      | inr le ↦ rw (get_or_past (take n bytes) i 0 (omega (arith, length-take n bytes))) (omega arith)
    ]

-- the value of a step that did not fail
pub bind_ok : {A B : Type 0} (r : Result A FileError) (f : A → Result B FileError) (y : B) → (r >>= f) ≡ Ok y → (x : A) × (r ≡ Ok x) × (f x ≡ Ok y)
bind_ok (Ok x) f y e = (x, refl, e)
bind_ok (Err d) f y e = absurd cc

-- a test that did not fail
pub tested_ok : {A : Type 0} (place : ℕ) (kind : FileKind) (b : Bool) (x y : A) → tested place kind b x ≡ Ok y → (b ≡ true) × (x ≡ y)
tested_ok place kind true x y e = (refl, cc)
tested_ok place kind false x y e = absurd cc

pub found_ok : {A : Type 0} (place : ℕ) (kind : FileKind) (o : Option A) (y : A) → found place kind o ≡ Ok y → o ≡ Some y
found_ok place kind (Some x) y e = cc
found_ok place kind None y e = absurd cc

guard_ok : {A : Type 0} (b : Bool) (d : FileError) (x y : A) → cond b (Err d) (Ok x) ≡ Ok y → (b ≡ false) × (x ≡ y)
guard_ok true d x y e = absurd cc
guard_ok false d x y e = (refl, cc)

abbrev done : {A : Type 0} → A → Result A FileError
done x = Ok x

pub ok_is : {A : Type 0} (x y : A) → done x ≡ done y → x ≡ y
ok_is x y e = cc

-- the file has the field whole, and the field is this text
pub record HasField (bytes : List ℕ) (place size : ℕ) (text : List ℕ) : Type 0 where
  pub whole : place + size ≤ length bytes
  pub is : take size (drop place bytes) ≡ text

pub field_has : (bytes : List ℕ) (place size : ℕ) (text : List ℕ) → field_at bytes place size ≡ Ok text → HasField bytes place size text
field_has bytes place size text e =
    let g = guard_ok (ltb (length bytes) (place + size)) (Malformed place Cut) (take size (drop place bytes)) text e in
    record { whole = ltb-false _ _ g.0; is = g.1 }

pub length-field : (bytes : List ℕ) (place size : ℕ) (text : List ℕ) → HasField bytes place size text → length text ≡ size
length-field bytes place size text f = rw (← f.is) (omega (arith, f.whole, length-take size (drop place bytes), length-drop place bytes))

bytes_of_field : (bytes : List ℕ) (place size : ℕ) (text : List ℕ) → IsBytes bytes → HasField bytes place size text → IsBytes text
bytes_of_field bytes place size text fits f = subst IsBytes f.is (IsBytes-take size (drop place bytes) (IsBytes-drop place bytes fits))

-- behind a field comes the next
pub HasField-then : (bytes : List ℕ) (place size : ℕ) (text : List ℕ) → HasField bytes place size text → drop place bytes ≡ text ++ drop (place + size) bytes
HasField-then bytes place size text f =
    sym (take-append-drop size (drop place bytes)) ∙ ap (λ (x : List ℕ). x ++ drop size (drop place bytes)) f.is ∙ ap (λ (x : List ℕ). text ++ x) (drop-drop size place bytes)

pub number_32_has : (bytes : List ℕ) (place n : ℕ) → IsBytes bytes → number_at w32 bytes place ≡ Ok n → HasField bytes place 4 (to_be_bytes w32 n)
number_32_has bytes place n fits e =
    let b = bind_ok (field_at bytes place 4) (λ digits. Ok (from_be_bytes w32 digits)) n e in
    let f = field_has bytes place 4 b.0 b.1 in
    let is = be_bytes_4 b.0 n (length-field bytes place 4 b.0 f) (bytes_of_field bytes place 4 b.0 fits f) (sym (ok_is _ _ b.2)) in
    record { whole = f.whole; is = f.is ∙ sym is }

pub number_16_has : (bytes : List ℕ) (place n : ℕ) → IsBytes bytes → number_at w16 bytes place ≡ Ok n → HasField bytes place 2 (to_be_bytes w16 n)
number_16_has bytes place n fits e =
    let b = bind_ok (field_at bytes place 2) (λ digits. Ok (from_be_bytes w16 digits)) n e in
    let f = field_has bytes place 2 b.0 b.1 in
    let is = be_bytes_2 b.0 n (length-field bytes place 2 b.0 f) (bytes_of_field bytes place 2 b.0 fits f) (sym (ok_is _ _ b.2)) in
    record { whole = f.whole; is = f.is ∙ sym is }

single : (digits : List ℕ) (n : ℕ) → length digits ≡ 1 → from_be_bytes w8 digits ≡ n → digits ≡ n ∷ []
single [] n len is = absurd (omega arith)
single (d ∷ []) n len is = ap (λ (k : ℕ). k ∷ []) is
single (d ∷ c ∷ digits) n len is = absurd (omega arith)

pub number_8_has : (bytes : List ℕ) (place n : ℕ) → number_at w8 bytes place ≡ Ok n → HasField bytes place 1 (n ∷ [])
number_8_has bytes place n e =
    let b = bind_ok (field_at bytes place 1) (λ digits. Ok (from_be_bytes w8 digits)) n e in
    let f = field_has bytes place 1 b.0 b.1 in
    record { whole = f.whole; is = f.is ∙ single b.0 n (length-field bytes place 1 b.0 f) (ok_is _ _ b.2) }
