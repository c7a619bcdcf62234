-- The fields of a state file, read from left to right: the value with the bytes after it, or the
-- first fault. All numbers are big-endian.
use Rattle.std.specs.Prelude.{◌≡◌, ℕ, List, ◌∷◌, length, Result, Ok, Err}
use Rattle.std.specs.List.{flat_map}
use Rattle.pl_layout.specs.Reading.{place, byte_at, counted_at as items_at}
use Rattle.tpm_state.specs.declared.error.DecodeError.{DecodeError}
use Rattle.tpm_state.specs.declared.error.DecodeError.TheVariants.{Malformed, BadRule, Memory}

-- what a function returned, seen by view, is what reading gives, unless memory ran out
abbrev pub Fails : {Y : Type 0} → DecodeError → Result Y DecodeError → Type 0
Fails Memory read = Unit {0}
Fails (Malformed place) read = read ≡ Err (Malformed place)
Fails (BadRule rule) read = read ≡ Err (BadRule rule)

abbrev pub Gives : {X Y : Type 0} → (X → Y) → Result X DecodeError → Result Y DecodeError → Type 0
Gives view (Ok x) read = read ≡ Ok (view x)
Gives view (Err e) read = Fails e read

-- the fault of the field that begins with these bytes, the last of all that there are
abbrev pub fault : ℕ → List ℕ → DecodeError
fault all bytes = Malformed (place all bytes)

-- items behind their number of one byte, which is within a range
abbrev pub counted_at : {A : Type 0} → ℕ → ℕ → ℕ → (List ℕ → Result (A × List ℕ) DecodeError) → List ℕ → Result (List A × List ℕ) DecodeError
counted_at all low high item bytes = items_at (byte_at (fault all)) low high (fault all) (λ before. item) bytes

-- the text of items behind their number
abbrev pub counted_text : {A : Type 0} → (A → List ℕ) → List A → List ℕ
counted_text text items = length items ∷ flat_map text items

-- a digest is spelled by its bytes
abbrev pub digest_text : List ℕ → List ℕ
digest_text digest = digest
