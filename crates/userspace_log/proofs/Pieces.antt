-- Bytes that are cut at each separator.
use Rattle.std.proofs.Common.{◌≡◌, ◌<◌, ◌+◌, ◌-◌, ℕ, suc, Bool, true, false, List, [], ◌∷◌, ◌++◌, length, take, drop, get_or, Some, None, refl, sym, ap, ◌∙◌, arith, add-one}
use Rattle.std.specs.Prelude.{All}
use Rattle.std.specs.List.{slice_split}
use Rattle.std.proofs.Math.Seq.{drop-cons}
use Rattle.std.proofs.lemmas.List.{take-append-drop, take_all, get_or-take, length-take, length-drop}
use Rattle.std.proofs.lemmas.List.Elements.{All-from_get_or}
use Rattle.std.proofs.lemmas.List.Splits.{slice_split_at, slice_split_none}
use Rattle.memchr.specs.Find.{IsFirstByte, is_byte}
use Rattle.userspace_log.specs.UserText.{is_separator}

not_true : (b : Bool) → (b ≡ true → ⊥) → b ≡ false
not_true true h = absurd (h refl)
not_true false h = refl

-- no separator stands before the first
pub slice_split-some : (xs : List ℕ) (i : ℕ) → IsFirstByte (is_byte 0x1E) xs (Some i)
    → slice_split is_separator xs ≡ take i xs ∷ slice_split is_separator (drop (i + 1) xs)
slice_split-some xs i h =
    let within : i < length xs = h.0.high in
    let before : All (λ x. is_separator x ≡ false) (take i xs) =
    All-from_get_or (λ x. is_separator x ≡ false) (take i xs) 0 (λ k lt.
    let below : k < i = omega (arith, length-take {A = ℕ}) in
    rw (get_or-take i xs k 0 below) (not_true _ (h.0.before k (omega arith) below))) in
    let parts : xs ≡ take i xs ++ get_or xs i 0 ∷ drop (suc i) xs = sym (take-append-drop i xs) ∙ ap (λ s. take i xs ++ s) (drop-cons xs i 0 within) in
    ap (slice_split is_separator) parts ∙ rw add-one (slice_split_at is_separator (take i xs) (get_or xs i 0) (drop (suc i) xs) before h.1)

pub slice_split-none : (xs : List ℕ) → IsFirstByte (is_byte 0x1E) xs None → slice_split is_separator xs ≡ xs ∷ []
slice_split-none xs h =
    slice_split_none is_separator xs (All-from_get_or (λ x. is_separator x ≡ false) xs 0 (λ k lt. not_true _ (h k (omega arith) lt)))

-- the same, as the code takes the rest
pub slice_split-range : (xs : List ℕ) (i : ℕ) → IsFirstByte (is_byte 0x1E) xs (Some i)
    → slice_split is_separator xs ≡ take i xs ∷ slice_split is_separator (take (length xs - (i + 1)) (drop (i + 1) xs))
slice_split-range xs i h = rw (take_all (length xs - (i + 1)) (drop (i + 1) xs) (omega (arith, length-drop {A = ℕ}))) (slice_split-some xs i h)
