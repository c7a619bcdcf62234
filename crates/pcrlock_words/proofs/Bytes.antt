-- The test of two texts.
use Rattle.std.proofs.Common.{◌≡◌, ℕ, false, List, Bor, Option, Some, None, is_some, refl, sym, inl, inr}
use Rattle.std.specs.Prelude.{option_copied}
use Rattle.std.specs.Str.{bytes_eq}
use Rattle.std.proofs.lemmas.Bool.{cases_Bool}
use Rattle.std.proofs.lemmas.Slice.Eq.{bytes_eq-Decides}

-- texts that are not equal
pub bytes_eq-differ : (xs ys : List ℕ) → (ys ≡ xs → ⊥) → bytes_eq xs ys ≡ false
bytes_eq-differ xs ys differ =
    elim (cases_Bool (bytes_eq xs ys)) [
      | inl same ↦ absurd (differ (sym ((bytes_eq-Decides xs ys).0 same)))
      | inr other ↦ other
    ]

-- the value that a read found, as a value
pub is_some-copied : (found : Option (Bor (List ℕ))) → is_some (option_copied found) ≡ is_some found
is_some-copied None = refl
is_some-copied (Some value) = refl
