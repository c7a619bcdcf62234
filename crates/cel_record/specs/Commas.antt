-- For private clauses: texts that are written one after another.
use Rattle.std.specs.Prelude.{ℕ, List, [], ◌∷◌, ◌++◌, Bool, true, if◌then◌else◌}

-- a comma where a text stands before
abbrev pub comma_if : Bool → List ℕ
comma_if later = if later then 44 ∷ [] else []

-- the texts, with a comma before each but the first
abbrev pub comma_texts : Bool → List (List ℕ) → List ℕ
comma_texts later [] = []
comma_texts later (t ∷ ts) = comma_if later ++ (t ++ comma_texts true ts)
