-- The lines of a script.
use Rattle.std.specs.Prelude.{ℕ, ◌+◌, Bool, true, false, ◌==◌, not, if◌then◌else◌, List, [], ◌∷◌, filter, length, slice_index, ◌-◌, ◌||◌}
use Rattle.std.specs.List.{slice_split, count_by}
use Rattle.pcrlock_words.specs.Lines.{words_of}

-- the byte that ends a line
abbrev pub is_line_feed : ℕ → Bool
is_line_feed byte = byte == 10

-- whether a line is passed over: it has no word, or its first word begins with `#`
abbrev pub is_passed_over : List (List ℕ) → Bool
is_passed_over [] = true
is_passed_over ([] ∷ words) = false
is_passed_over ((byte ∷ bytes) ∷ words) = byte == 35

-- the lines among the parts of a text that aren't passed over
abbrev pub lines_among : List (List ℕ) → List (List ℕ)
lines_among parts = filter (λ line. not (is_passed_over (words_of line))) parts

-- the lines that are run: those of the text, each ended by a line feed but for the last, that aren't
-- passed over
unfoldable pub lines_of : List ℕ → List (List ℕ)
lines_of text = lines_among (slice_split is_line_feed text)

-- how many lines a text has, those that are passed over among them; the last one may lack its line feed
unfoldable pub line_count : List ℕ → ℕ
line_count text =
    if length text == 0 || is_line_feed (slice_index text (length text - 1))
    then count_by is_line_feed text
    else count_by is_line_feed text + 1
