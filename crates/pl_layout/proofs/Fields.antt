-- A field that is read is the field that was written, and what was written is read again.
use Rattle.std.proofs.Common.{◌≡◌, ℕ, suc, ◌+◌, ◌^◌, ◌<◌, ◌≤◌, false, ltb, List, [], ◌∷◌, ◌++◌, length, get_or, take, drop, refl, sym, ap, subst, ◌∙◌, append_assoc, arith, inl, inr}
use Rattle.std.specs.Prelude.{Result, Ok}
use Rattle.std.specs.Int.{Width, w16, w32, byte_len, from_be_bytes, to_be_bytes, from_le_bytes, to_le_bytes}
use Rattle.std.proofs.lemmas.Bool.{cases_lt, ltb-false, le-ltb}
use Rattle.std.proofs.lemmas.List.{take_at, drop_at, take-append-drop, length-append, length-take, get_or-drop, get_or-take, get_or_past}
use Rattle.std.proofs.lemmas.Nat.{be_bytes_2, be_bytes_4, from_be_bytes-to_be_bytes_2, from_be_bytes-to_be_bytes_4, le_bytes_2, le_bytes_4, from_le_bytes-to_le_bytes_2, from_le_bytes-to_le_bytes_4}
use Rattle.pl_layout.specs.Reading.{bytes_at, coded_at, byte_at}
use Rattle.pl_layout.proofs.Steps.{passed_over, ok_is}

-- ---- bytes

abbrev pub IsBytes : List ℕ → Type 0
IsBytes bytes = (i : ℕ) → get_or bytes i 0 < 256

pub IsBytes-drop : (n : ℕ) (bytes : List ℕ) → IsBytes bytes → IsBytes (drop n bytes)
IsBytes-drop n bytes h i = rw get_or-drop (h (n + i))

pub IsBytes-take : (n : ℕ) (bytes : List ℕ) → IsBytes bytes → IsBytes (take n bytes)
IsBytes-take n bytes h i =
    elim (cases_lt i n) [
      | inl lt ↦ rw (get_or-take n bytes i 0 lt) (h i)
      | inr le ↦ rw (get_or_past (take n bytes) i 0 (omega (arith, length-take n bytes))) (omega arith)
    ]

IsBytes-rest : (b : ℕ) (bytes : List ℕ) → IsBytes (b ∷ bytes) → IsBytes bytes
IsBytes-rest b bytes h i = h (suc i)

-- what a reader took from the front
pub record Takes (bytes text rest : List ℕ) : Type 0 where
  pub parts : bytes ≡ text ++ rest
  pub rest_fits : IsBytes rest

pub Takes-then : {a x b y c : List ℕ} → Takes a x b → Takes b y c → Takes a (x ++ y) c
Takes-then {x = x} {y = y} {c = c} p q = record { parts = p.parts ∙ ap (λ (t : List ℕ). x ++ t) q.parts ∙ sym (append_assoc x y c); rest_fits = q.rest_fits }

pub Takes-nothing : (bytes : List ℕ) → IsBytes bytes → Takes bytes [] bytes
Takes-nothing bytes fits = record { parts = refl; rest_fits = fits }

-- the first byte
pub Takes-byte : (b : ℕ) (bytes : List ℕ) → IsBytes bytes → Takes (b ∷ bytes) (b ∷ []) bytes
Takes-byte b bytes fits = record { parts = refl; rest_fits = fits }

-- what was taken is the text of a value that fits
pub record Taken {A : Type 0} (text : A → List ℕ) (Fits : A → Type 0) (bytes : List ℕ) (x : A × List ℕ) : Type 0 where
  pub takes : Takes bytes (text x.0) x.1
  pub fits : Fits x.0

-- a reader that takes exactly the texts of the values that fit
pub record Grammar {E A : Type 0} (item : List ℕ → Result (A × List ℕ) E) (text : A → List ℕ) (Fits : A → Type 0) : Type 0 where
  pub takes : (bytes : List ℕ) (x : A × List ℕ) → IsBytes bytes → item bytes ≡ Ok x → Taken text Fits bytes x
  pub again : (a : A) (rest : List ℕ) → Fits a → item (text a ++ rest) ≡ Ok (a, rest)

pub record BytesTaken (n : ℕ) (bytes : List ℕ) (x : List ℕ × List ℕ) : Type 0 where
  pub takes : Takes bytes x.0 x.1
  pub count : length x.0 ≡ n
  pub fits : IsBytes x.0

pub bytes_take : {E : Type 0} (fault : List ℕ → E) (n : ℕ) (bytes : List ℕ) (x : List ℕ × List ℕ) → IsBytes bytes → bytes_at fault n bytes ≡ Ok x → BytesTaken n bytes x
bytes_take fault n bytes x fits e =
    let g = passed_over _ e in
    let long : n ≤ length bytes = ltb-false _ _ g.0 in
    subst (λ (y : List ℕ × List ℕ). BytesTaken n bytes y) (ok_is (take n bytes, drop n bytes) x g.1) (record {
      takes = record { parts = sym (take-append-drop n bytes); rest_fits = IsBytes-drop n bytes fits };
      count = omega (arith, length-take n bytes);
      fits = IsBytes-take n bytes fits;
    })

pub bytes_again : {E : Type 0} (fault : List ℕ → E) (n : ℕ) (text rest : List ℕ) → length text ≡ n → bytes_at fault n (text ++ rest) ≡ Ok (text, rest)
bytes_again fault n text rest len =
    let long : ltb (length (text ++ rest)) n ≡ false = le-ltb _ _ (omega (arith, length-append text rest)) in
    rw (long, take_at text rest n len, drop_at text rest n len) refl

-- bytes are their own text
abbrev pub itself : List ℕ → List ℕ
itself text = text

pub bytes_grammar : {E : Type 0} (fault : List ℕ → E) (n : ℕ) → Grammar (bytes_at fault n) itself (λ text. length text ≡ n)
bytes_grammar fault n = record {
  takes = λ bytes x fits e. (let t = bytes_take fault n bytes x fits e in record { takes = t.takes; fits = t.count });
  again = λ text rest len. bytes_again fault n text rest len;
}

-- ---- numbers

-- an order of bytes in which the numbers below a limit are written and read
pub record IsWide (w : Width) (limit : ℕ) (from : List ℕ → ℕ) (to : ℕ → List ℕ) : Type 0 where
  pub len : (n : ℕ) → length (to n) ≡ byte_len w
  pub back : (bytes : List ℕ) → length bytes ≡ byte_len w → IsBytes bytes → to (from bytes) ≡ bytes
  pub again : (n : ℕ) → n < limit → from (to n) ≡ n
  pub below : (bytes : List ℕ) → IsBytes bytes → from bytes < limit

pub wide16 : IsWide w16 (2 ^ 16) (from_be_bytes w16) (to_be_bytes w16)
wide16 = record {
  len = λ n. refl;
  back = λ bytes len fits. be_bytes_2 bytes _ len fits refl;
  again = λ n lt. from_be_bytes-to_be_bytes_2 n lt;
  below = λ bytes fits. omega (arith, fits 0, fits 1);
}

pub wide32 : IsWide w32 (2 ^ 32) (from_be_bytes w32) (to_be_bytes w32)
wide32 = record {
  len = λ n. refl;
  back = λ bytes len fits. be_bytes_4 bytes _ len fits refl;
  again = λ n lt. from_be_bytes-to_be_bytes_4 n lt;
  below = λ bytes fits. omega (arith, fits 0, fits 1, fits 2, fits 3);
}

-- the lowest byte first
pub little16 : IsWide w16 (2 ^ 16) (from_le_bytes w16) (to_le_bytes w16)
little16 = record {
  len = λ n. refl;
  back = λ bytes len fits. le_bytes_2 bytes _ len fits refl;
  again = λ n lt. from_le_bytes-to_le_bytes_2 n lt;
  below = λ bytes fits. omega (arith, fits 0, fits 1);
}

pub little32 : IsWide w32 (2 ^ 32) (from_le_bytes w32) (to_le_bytes w32)
little32 = record {
  len = λ n. refl;
  back = λ bytes len fits. le_bytes_4 bytes _ len fits refl;
  again = λ n lt. from_le_bytes-to_le_bytes_4 n lt;
  below = λ bytes fits. omega (arith, fits 0, fits 1, fits 2, fits 3);
}

number_takes : {E : Type 0} {w : Width} {limit : ℕ} {from : List ℕ → ℕ} {to : ℕ → List ℕ} (wide : IsWide w limit from to) (fault : List ℕ → E) (bytes : List ℕ) (x : ℕ × List ℕ) → IsBytes bytes → coded_at fault from w bytes ≡ Ok x
    → Taken to (λ n. n < limit) bytes x
number_takes {w = w} {limit = limit} {from = from} {to = to} wide fault bytes x fits e =
    let g = passed_over _ e in
    let long : byte_len w ≤ length bytes = ltb-false _ _ g.0 in
    let front : to (from (take (byte_len w) bytes)) ≡ take (byte_len w) bytes = wide.back (take (byte_len w) bytes) (omega (arith, length-take (byte_len w) bytes)) (IsBytes-take (byte_len w) bytes fits) in
    subst (λ (y : ℕ × List ℕ). Taken to (λ n. n < limit) bytes y) (ok_is (from (take (byte_len w) bytes), drop (byte_len w) bytes) x g.1) (record {
      takes = record { parts = rw front (sym (take-append-drop (byte_len w) bytes)); rest_fits = IsBytes-drop (byte_len w) bytes fits };
      fits = wide.below (take (byte_len w) bytes) (IsBytes-take (byte_len w) bytes fits);
    })

number_again : {E : Type 0} {w : Width} {limit : ℕ} {from : List ℕ → ℕ} {to : ℕ → List ℕ} (wide : IsWide w limit from to) (fault : List ℕ → E) (n : ℕ) (rest : List ℕ) → n < limit → coded_at fault from w (to n ++ rest) ≡ Ok (n, rest)
number_again {w = w} {to = to} wide fault n rest lt =
    let len = wide.len n in
    let long : ltb (length (to n ++ rest)) (byte_len w) ≡ false = le-ltb _ _ (omega (arith, length-append (to n) rest)) in
    rw (long, take_at (to n) rest (byte_len w) len, drop_at (to n) rest (byte_len w) len, wide.again n lt) refl

pub number_grammar : {E : Type 0} {w : Width} {limit : ℕ} {from : List ℕ → ℕ} {to : ℕ → List ℕ} → IsWide w limit from to → (fault : List ℕ → E) → Grammar (coded_at fault from w) to (λ n. n < limit)
number_grammar wide fault = record {
  takes = λ bytes x fits e. number_takes wide fault bytes x fits e;
  again = λ n rest lt. number_again wide fault n rest lt;
}

-- a number of one byte
abbrev pub byte_text : ℕ → List ℕ
byte_text b = b ∷ []

pub byte_takes : {E : Type 0} (fault : List ℕ → E) (bytes : List ℕ) (x : ℕ × List ℕ) → IsBytes bytes → byte_at fault bytes ≡ Ok x → Takes bytes (byte_text x.0) x.1
byte_takes fault [] x fits e = absurd cc
byte_takes fault (b ∷ bytes) x fits e =
    subst (λ (y : ℕ × List ℕ). Takes (b ∷ bytes) (byte_text y.0) y.1) (ok_is (b, bytes) x e) (Takes-byte b bytes (IsBytes-rest b bytes fits))

byte_below : {E : Type 0} (fault : List ℕ → E) (bytes : List ℕ) (x : ℕ × List ℕ) → IsBytes bytes → byte_at fault bytes ≡ Ok x → x.0 < 256
byte_below fault [] x fits e = absurd cc
byte_below fault (b ∷ bytes) x fits e = subst (λ (y : ℕ × List ℕ). y.0 < 256) (ok_is (b, bytes) x e) (fits 0)

pub byte_grammar : {E : Type 0} (fault : List ℕ → E) → Grammar (byte_at fault) byte_text (λ b. b < 256)
byte_grammar fault = record {
  takes = λ bytes x fits e. (record { takes = byte_takes fault bytes x fits e; fits = byte_below fault bytes x fits e });
  again = λ b rest lt. refl;
}
