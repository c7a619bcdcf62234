-- A row's levels, by number: the leaves are level 0, and the third level above them is one digest.
use Rattle.std.specs.Prelude.{ℕ, zero, suc, ◌+◌, nat_lt, if◌then◌else◌, List, length}
use Rattle.policy_digest.specs.Levels.{next_level}

-- the level of this number
abbrev pub level_at : List (List ℕ) → ℕ → List (List ℕ)
level_at leaves zero = leaves
level_at leaves (suc n) = next_level (level_at leaves n)

-- one level for which PolicyORs stand, or none: that of a single digest passes it up
abbrev pub joined : List (List ℕ) → ℕ
joined level = if nat_lt 1 (length level) then 1 else 0

-- the number of levels that PolicyORs join
abbrev pub joined_levels : List (List ℕ) → ℕ
joined_levels leaves = joined (level_at leaves 0) + joined (level_at leaves 1) + joined (level_at leaves 2)
