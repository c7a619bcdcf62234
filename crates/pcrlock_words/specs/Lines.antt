-- How a script's line is cut into words.
use Rattle.std.specs.Prelude.{ℕ, Bool, ◌==◌, ◌||◌, not, List, length, filter}
use Rattle.std.specs.List.{slice_split}

-- a space or a tab; a carriage return is no blank
abbrev pub is_blank : ℕ → Bool
is_blank byte = byte == 32 || byte == 9

-- the words among the parts that blanks part: those that aren't empty
abbrev pub words_among : List (List ℕ) → List (List ℕ)
words_among parts = filter (λ part. not (length part == 0)) parts

-- the words of a line, which one or more blanks part
unfoldable pub words_of : List ℕ → List (List ℕ)
words_of line = words_among (slice_split is_blank line)
