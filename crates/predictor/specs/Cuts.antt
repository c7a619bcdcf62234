-- Where a window's boots may stand. A cut is a number of components, all of which have been measured.
use Rattle.std.specs.Prelude.{ℕ, ◌+◌, ◌-◌, Bool, not, List, filter}
use Rattle.std.specs.List.{range_with_len}
use Rattle.component_tree.specs.PlainTree.{PlainComponent}
use Rattle.predictor.specs.Ends.{is_greater}

abbrev pub is_inside : List ℕ → PlainComponent → Bool
is_inside end c = not (is_greater c.id end)

-- the components whose id isn't greater than the end, by the bytes
abbrev pub inside_of : List ℕ → List PlainComponent → List PlainComponent
inside_of end components = filter (is_inside end) components

-- every number from the first to the last
abbrev pub cuts_between : ℕ → ℕ → List ℕ
cuts_between first last = range_with_len first (last + 1 - first)
