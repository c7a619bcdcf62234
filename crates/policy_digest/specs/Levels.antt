-- How PolicyORs of at most 8 digests join the leaves of a row into one. Each level is cut from the
-- left into groups of 8, the last of which may be shorter; three levels join 512 leaves. SHA-256
-- throughout.
use Rattle.std.specs.Prelude.{ℕ, ◌+◌, ◌*◌, ◌/◌, List, [], ◌∷◌, ◌++◌, length, take, drop, map}
use Rattle.std.specs.List.{range_with_len}
use Rattle.hash_bank.specs.declared.bank.Bank.TheVariants.{Sha256}
use Rattle.policy_digest.specs.Policies.{policy_or_of}

-- group q of a level
abbrev pub group : List (List ℕ) → ℕ → List (List ℕ)
group level q = take 8 (drop (8 * q) level)

-- the number of its groups
abbrev pub group_count : List (List ℕ) → ℕ
group_count level = (length level + 7) / 8

-- its groups in order
abbrev pub groups : List (List ℕ) → List (List (List ℕ))
groups level = map (group level) (range_with_len 0 (group_count level))

-- what stands for a group in the level above: for two or more digests their PolicyOR, for one the
-- digest itself
abbrev pub up : List (List ℕ) → List ℕ
up [] = []
up (d ∷ []) = d
up (d ∷ e ∷ ds) = policy_or_of Sha256 (d ∷ e ∷ ds)

-- the level above
unfoldable pub next_level : List (List ℕ) → List (List ℕ)
next_level level = map up (groups level)

-- a level's first digest
abbrev pub first_of : List (List ℕ) → List ℕ
first_of [] = []
first_of (d ∷ ds) = d

-- the one digest of the third level above the leaves
abbrev pub top_of_leaves : List (List ℕ) → List ℕ
top_of_leaves leaves = first_of (next_level (next_level (next_level leaves)))

-- the list that a group gives to PolicyOR: a group of one gives none
abbrev pub listed : List (List ℕ) → List (List (List ℕ))
listed [] = []
listed (d ∷ []) = []
listed (d ∷ e ∷ ds) = (d ∷ e ∷ ds) ∷ []

-- the lists of the PolicyORs from leaf p up to the top
abbrev pub path_of : List (List ℕ) → ℕ → List (List (List ℕ))
path_of leaves p =
    listed (group leaves (p / 8))
    ++ listed (group (next_level leaves) (p / 8 / 8))
    ++ listed (group (next_level (next_level leaves)) (p / 8 / 8 / 8))
