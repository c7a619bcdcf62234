-- Fields that are read from left to right: the value with the bytes behind it, or the first fault. A
-- file names its own faults: `fault` gives that of the field that begins with these bytes, the last of
-- all that there are.
use Rattle.std.specs.Prelude.{◌≡◌, ℕ, zero, suc, ◌-◌, ◌^◌, min, nat_le, nat_lt, ◌&&◌, if◌then◌else◌, List, [], ◌∷◌, ◌++◌, length, take, drop, Bool, Result, Ok, Err}
use Rattle.std.specs.Int.{Width, byte_len, from_be_bytes, from_le_bytes}
use Rattle.std.specs.List.{flat_map}

-- what a function returned, seen by view, is what reading gives
abbrev pub Gives : {E X Y : Type 0} → (X → Y) → Result X E → Result Y E → Type 0
Gives view (Ok x) read = read ≡ Ok (view x)
Gives view (Err e) read = read ≡ Err e

-- where the field begins that begins with these bytes, the last of all that there are. No layout goes on
-- so far that a place has no number of 32 bits
abbrev pub place : ℕ → List ℕ → ℕ
place all bytes = min (all - length bytes) (2 ^ 32 - 1)

-- one field is read after another, up to the first that is at fault
infixl 10 ◌>>=◌
abbrev pub ◌>>=◌ : {E A B : Type 0} → Result A E → (A → Result B E) → Result B E
(Ok x) >>= f = f x
(Err e) >>= f = Err e

-- so many bytes
abbrev pub bytes_at : {E : Type 0} → (List ℕ → E) → ℕ → List ℕ → Result (List ℕ × List ℕ) E
bytes_at fault n bytes = if nat_lt (length bytes) n then Err (fault bytes) else Ok (take n bytes, drop n bytes)

-- a number, as its bytes tell it
abbrev pub coded_at : {E : Type 0} → (List ℕ → E) → (List ℕ → ℕ) → Width → List ℕ → Result (ℕ × List ℕ) E
coded_at fault from w bytes =
    if nat_lt (length bytes) (byte_len w) then Err (fault bytes)
    else Ok (from (take (byte_len w) bytes), drop (byte_len w) bytes)

-- a number, the highest byte first
abbrev pub number_at : {E : Type 0} → (List ℕ → E) → Width → List ℕ → Result (ℕ × List ℕ) E
number_at fault w bytes = coded_at fault (from_be_bytes w) w bytes

-- a number, the lowest byte first
abbrev pub little_at : {E : Type 0} → (List ℕ → E) → Width → List ℕ → Result (ℕ × List ℕ) E
little_at fault w bytes = coded_at fault (from_le_bytes w) w bytes

-- a number of one byte
abbrev pub byte_at : {E : Type 0} → (List ℕ → E) → List ℕ → Result (ℕ × List ℕ) E
byte_at fault [] = Err (fault [])
byte_at fault (b ∷ bytes) = Ok (b, bytes)

-- what passes a test, else the fault
abbrev pub tested : {A E : Type 0} → Bool → E → A → Result A E
tested passes fault x = if passes then Ok x else Err fault

-- so many items behind those read before, which each of them may look at
unfoldable pub repeat_at : {A E : Type 0} → (List A → List ℕ → Result (A × List ℕ) E) → ℕ → List A → List ℕ → Result (List A × List ℕ) E
repeat_at item zero before bytes = Ok (before, bytes)
repeat_at item (suc n) before bytes = do
  a ← item before bytes
  repeat_at item n (before ++ a.0 ∷ []) a.1

-- items behind their number, which is within a range
unfoldable pub counted_at : {A E : Type 0} → (List ℕ → Result (ℕ × List ℕ) E) → ℕ → ℕ → (List ℕ → E) → (List A → List ℕ → Result (A × List ℕ) E) → List ℕ → Result (List A × List ℕ) E
counted_at number low high fault item bytes = do
  n ← number bytes
  if nat_le low n.0 && nat_le n.0 high then repeat_at item n.0 [] n.1 else Err (fault bytes)

-- the text of items behind their number
abbrev pub counted_text : {A : Type 0} → (ℕ → List ℕ) → (A → List ℕ) → List A → List ℕ
counted_text number text items = number (length items) ++ flat_map text items
