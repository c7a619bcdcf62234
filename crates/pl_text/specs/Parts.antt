-- Texts that are parted at each place of one byte.
use Rattle.std.specs.Prelude.{ℕ, ◌==◌, List, [], ◌∷◌, Option, None, Some, option_map}
use Rattle.std.specs.Borrow.{Bor}
use Rattle.std.specs.List.{slice_split}

-- the parts of a text, between the places of the byte
abbrev pub parts_of : ℕ → List ℕ → List (List ℕ)
parts_of byte text = slice_split (λ b. b == byte) text

-- the parts of what stands behind a place of the byte; none where there is no such place
abbrev pub parts_behind : ℕ → Option (Bor (List ℕ)) → List (List ℕ)
parts_behind byte None = []
parts_behind byte (Some text) = parts_of byte text.now

-- the one part, where there is exactly one
abbrev pub one_of : List (List ℕ) → Option (List ℕ)
one_of [] = None
one_of (first ∷ []) = Some first
one_of (first ∷ second ∷ parts) = None

-- both parts, where there are exactly two
abbrev pub two_of : List (List ℕ) → Option (List ℕ × List ℕ)
two_of [] = None
two_of (first ∷ parts) = option_map (λ second. (first, second)) (one_of parts)

-- all parts, where there are exactly three
abbrev pub three_of : List (List ℕ) → Option (List ℕ × List ℕ × List ℕ)
three_of [] = None
three_of (first ∷ parts) = option_map (λ others. (first, others.0, others.1)) (two_of parts)

-- all parts, where there are exactly four
abbrev pub four_of : List (List ℕ) → Option (List ℕ × List ℕ × List ℕ × List ℕ)
four_of [] = None
four_of (first ∷ parts) = option_map (λ others. (first, others.0, others.1, others.2)) (three_of parts)
