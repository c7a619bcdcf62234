-- For private clauses: numbers without signs and leading zeros.
use Rattle.std.specs.Prelude.{ℕ, Bool, ◌==◌, ◌&&◌, ◌||◌, not, slice_index, List, length}

-- whether a word has no sign, and no zero before another digit
abbrev pub is_plain : List ℕ → Bool
is_plain word = not (slice_index word 0 == 43) && (length word == 1 || not (slice_index word 0 == 48))
