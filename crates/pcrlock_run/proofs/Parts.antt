-- The first line of a text, and those behind it.
use Rattle.std.proofs.Common.{◌≡◌, ℕ, ◌<◌, true, false, cond, List, [], ◌∷◌, ◌++◌, length, refl, ap, ◌∙◌, get_or, arith}
use Rattle.std.specs.Prelude.{◌==◌, ◌≢◌, not}
use Rattle.std.specs.List.{All, slice_split}
use Rattle.std.proofs.lemmas.List.{get_or_default, append-nil}
use Rattle.std.proofs.lemmas.Bool.{ne_eqb}
use Rattle.std.proofs.lemmas.Bool.Decides.{nat_tests}
use Rattle.std.proofs.lemmas.List.Splits.{slice_split_at, slice_split_none}
use Rattle.pcrlock_words.specs.Lines.{words_of}
use Rattle.pcrlock_run.specs.Lines.{is_line_feed, is_passed_over, lines_among, lines_of}

-- no byte is a line feed
abbrev pub HasNoFeed : List ℕ → Type 0
HasNoFeed text = (i : ℕ) → i < length text → get_or text i 0 ≢ 10

all_other : (text : List ℕ) → HasNoFeed text → All (λ b. is_line_feed b ≡ false) text
all_other text none = λ k d inside. ap is_line_feed (get_or_default text k d 0 inside) ∙ ne_eqb (get_or text k 0) 10 (none k inside)

among-cons : (first : List ℕ) (rest : List (List ℕ)) → lines_among (first ∷ rest) ≡ lines_among (first ∷ []) ++ lines_among rest
among-cons first rest =
    elim (not (is_passed_over (words_of first))) as (λ v. cond v (first ∷ lines_among rest) (lines_among rest) ≡ cond v (first ∷ []) [] ++ lines_among rest) [
      | true ↦ refl
      | false ↦ refl
    ]

-- a text without a line is empty
pub no_lines : lines_of [] ≡ []
unfolding lines_of words_of
no_lines = refl

-- the line before the first line feed comes before those behind it
pub first_line : (text first rest : List ℕ) → text ≡ first ++ (10 ∷ rest) → HasNoFeed first → lines_of text ≡ lines_among (first ∷ []) ++ lines_of rest
unfolding lines_of
first_line text first rest is none =
    ap (λ t. lines_among (slice_split is_line_feed t)) is
    ∙ ap lines_among (slice_split_at is_line_feed first 10 rest (all_other first none) refl)
    ∙ among-cons first (slice_split is_line_feed rest)

-- a text without a line feed is one line
one_part : (text : List ℕ) → HasNoFeed text → lines_of text ≡ lines_among (text ∷ [])
unfolding lines_of
one_part text none = ap lines_among (slice_split_none is_line_feed text (all_other text none))

pub only_line : (text : List ℕ) → HasNoFeed text → lines_of text ≡ lines_among (text ∷ []) ++ lines_of []
only_line text none = rw (no_lines, append-nil) (one_part text none)

is_zero : (n : ℕ) → (n == 0) ≡ true → n ≡ 0
is_zero n zero = grind (arith, nat_tests)

pub nothing_left : (text : List ℕ) → (length text == 0) ≡ true → lines_of text ≡ []
nothing_left [] none = no_lines
nothing_left (byte ∷ text) none = absurd (omega (arith, is_zero (length (byte ∷ text)) none))
