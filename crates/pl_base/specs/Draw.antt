-- What a drawn word leaves of the words to come.
use Rattle.std.specs.Prelude.{◌≡◌, ℕ, List, ◌∷◌, Option, Some, Result, Ok, Err}
use Rattle.pl_base.specs.declared.entropy.Failed.{Failed}

-- the word was the next one; after a failure the words are those before
abbrev pub DrawLeaves : List (List ℕ) → Result (List ℕ) Failed → Option (List (List ℕ)) → Type 0
DrawLeaves before (Ok word) now = (rest : List (List ℕ)) × (before ≡ word ∷ rest) × (now ≡ Some rest)
DrawLeaves before (Err _) now = now ≡ Some before
