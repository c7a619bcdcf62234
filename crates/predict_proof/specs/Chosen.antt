-- For private clauses: a choice, place after place.
use Rattle.std.specs.Prelude.{ℕ, Bool, true, false, ◌&&◌, nat_lt, List, [], ◌∷◌, length, slice_get, Option, Some, None}
use Rattle.cel_record.specs.Spelled.{Spelled}
use Rattle.component_tree.specs.PlainTree.{PlainVariant, PlainComponent}

-- one number for each place, below the number of its alternatives
abbrev pub is_choice : {A : Type 0} → List (List A) → List ℕ → Bool
is_choice [] [] = true
is_choice [] (v ∷ choice) = false
is_choice (alternatives ∷ more) [] = false
is_choice (alternatives ∷ more) (v ∷ choice) = nat_lt v (length alternatives) && is_choice more choice

-- the records of a variant, where it is there
abbrev pub records_of : Option PlainVariant → List Spelled
records_of None = []
records_of (Some v) = v.records

-- the variant that is chosen, where one is
abbrev pub variant_by : PlainComponent → Option ℕ → Option PlainVariant
variant_by c None = None
variant_by c (Some v) = slice_get c.variants v
