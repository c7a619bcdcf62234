-- A random word that was drawn.
use Rattle.std.specs.Prelude.{◌≡◌, ℕ, List, ◌∷◌, Option, Some}

-- the word was the next one, and the rest is to come
abbrev pub IsDrawn : List (List ℕ) → List ℕ → Option (List (List ℕ)) → Type 0
IsDrawn words word now = (rest : List (List ℕ)) × (words ≡ word ∷ rest) × (now ≡ Some rest)
