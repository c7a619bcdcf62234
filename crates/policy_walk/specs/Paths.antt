-- The way from a leaf up to its row's top, from each level on.
use Rattle.std.specs.Prelude.{ℕ, zero, suc, ◌/◌, List, [], ◌++◌}
use Rattle.or_tree.specs.Branching.{level_at}
use Rattle.policy_digest.specs.Levels.{group, listed, path_of}

-- the place of a leaf's branch in a level
abbrev pub place_in : ℕ → ℕ → ℕ
place_in leaf zero = leaf
place_in leaf (suc level) = place_in leaf level / 8

-- its group in the level
abbrev pub group_in : List (List ℕ) → ℕ → ℕ → List (List ℕ)
group_in leaves leaf level = group (level_at leaves level) (place_in leaf level / 8)

-- the lists of the PolicyORs that are left from a level on, of three
abbrev pub path_from : List (List ℕ) → ℕ → ℕ → List (List (List ℕ))
path_from leaves leaf zero = path_of leaves leaf
path_from leaves leaf (suc zero) = listed (group_in leaves leaf 1) ++ listed (group_in leaves leaf 2)
path_from leaves leaf (suc (suc zero)) = listed (group_in leaves leaf 2)
path_from leaves leaf (suc (suc (suc more))) = []
