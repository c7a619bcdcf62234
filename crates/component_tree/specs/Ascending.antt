-- Names in the order of their bytes.
use Rattle.std.specs.Prelude.{ℕ, Bool, true, ◌&&◌, List, [], ◌∷◌}
use Rattle.std.specs.Ordering.{nat_cmp, is_lt}
use Rattle.std.specs.Cmp.Lexicographic.{slice_cmp}

-- each is below the next
abbrev pub ascend : List (List ℕ) → Bool
ascend [] = true
ascend (x ∷ []) = true
ascend (x ∷ y ∷ names) = is_lt (slice_cmp nat_cmp x y) && ascend (y ∷ names)
