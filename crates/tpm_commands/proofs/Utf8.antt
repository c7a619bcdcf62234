-- The test of UTF-8.
use Rattle.std.proofs.Common.{◌≡◌, ℕ, false, List}
use Rattle.std.specs.Str.{IsUtf8, is_utf8}
use Rattle.std.proofs.lemmas.Bool.{cases_Bool}
use Rattle.std.proofs.Common.{inl, inr}
use Rattle.std.proofs.lemmas.Str.{IsUtf8-from_is_utf8}

pub not_utf8 : (bytes : List ℕ) → (IsUtf8 bytes → ⊥) → is_utf8 bytes ≡ false
not_utf8 bytes broken =
    elim (cases_Bool (is_utf8 bytes)) [
      | inl whole ↦ absurd (broken (IsUtf8-from_is_utf8 bytes whole))
      | inr other ↦ other
    ]
