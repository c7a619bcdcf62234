-- Lists in which later repeats are dropped.
use Rattle.std.specs.Prelude.{Bool, List, [], ◌∷◌, ◌++◌, fold, if◌then◌else◌}
use Rattle.std.specs.List.{list_any}

-- one more member at the end, unless it is there
abbrev pub put : {A : Type 0} → (A → A → Bool) → List A → A → List A
put same list x = if list_any (same x) list then list else list ++ x ∷ []

-- the members of a second list, one after the other, each unless it is there
abbrev pub put_all : {A : Type 0} → (A → A → Bool) → List A → List A → List A
put_all same list xs = fold (put same) list xs

abbrev pub distinct : {A : Type 0} → (A → A → Bool) → List A → List A
distinct same xs = put_all same [] xs
