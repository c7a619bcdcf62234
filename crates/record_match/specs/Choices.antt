-- One alternative at each of several places.
use Rattle.std.specs.Prelude.{ℕ, List, [], ◌∷◌, ◌++◌, length, map, slice_get}
use Rattle.std.specs.List.{flat_map, range_with_len}
use Rattle.std.specs.Option.{option_to_list}

-- every list of one number for each place, counted from 0 among its alternatives, in lexicographic
-- order; for no places the empty list alone
abbrev pub choices : {A : Type 0} → List (List A) → List (List ℕ)
choices [] = [] ∷ []
choices (alternatives ∷ more) = flat_map (λ v. map (λ choice. v ∷ choice) (choices more)) (range_with_len 0 (length alternatives))

-- the alternatives that a choice takes, in order
abbrev pub chosen : {A : Type 0} → List (List A) → List ℕ → List A
chosen [] choice = []
chosen (alternatives ∷ more) [] = []
chosen (alternatives ∷ more) (v ∷ choice) = option_to_list (slice_get alternatives v) ++ chosen more choice
