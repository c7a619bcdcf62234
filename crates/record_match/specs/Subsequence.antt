-- Lists of digests: equal, and one among another.
use Rattle.std.specs.Prelude.{ℕ, Bool, true, false, ◌&&◌, ◌||◌, List, [], ◌∷◌}
use Rattle.std.specs.Cmp.Lexicographic.{pointwise}
use Rattle.std.specs.Str.{bytes_eq}

abbrev pub digests_eq : List (List ℕ) → List (List ℕ) → Bool
digests_eq = pointwise bytes_eq

-- whether the first list is what is left of the second where some of its members are taken out
abbrev pub is_subsequence : List (List ℕ) → List (List ℕ) → Bool
is_subsequence [] list = true
is_subsequence (d ∷ digests) [] = false
is_subsequence (d ∷ digests) (e ∷ list) = (bytes_eq d e && is_subsequence digests list) || is_subsequence (d ∷ digests) list
