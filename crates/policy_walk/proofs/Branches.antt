-- The way from a leaf up: it stays within each level, and one level after another gives the whole path.
use Rattle.std.proofs.Common.{◌≡◌, ℕ, zero, suc, ◌+◌, ◌*◌, ◌/◌, ◌<◌, ◌≤◌, Bool, true, false, List, [], ◌∷◌, ◌++◌, length, refl, sym, ap, ◌∙◌, append_assoc, append-nil, arith}
use Rattle.std.specs.Prelude.{nat_lt}
use Rattle.std.proofs.lemmas.Bool.{ltb-false}
use Rattle.or_tree.specs.Branching.{level_at}
use Rattle.or_tree.proofs.Groups.{next_length}
use Rattle.policy_digest.specs.Levels.{group, listed, next_level, path_of}
use Rattle.policy_walk.specs.Paths.{place_in, group_in, path_from}
use Rattle.policy_walk.specs.Walking.{behind_list}

-- a leaf's branch is one of the level's
pub within : (leaves : List (List ℕ)) (leaf level : ℕ) → level < 3 → leaf < length leaves → place_in leaf level < length (level_at leaves level)
within leaves leaf zero few inside = inside
within leaves leaf (suc zero) few inside = let n = next_length leaves in omega arith
within leaves leaf (suc (suc zero)) few inside =
    let n = next_length leaves in
    let m = next_length (next_level leaves) in
    omega arith
within leaves leaf (suc (suc (suc level))) few inside = absurd (omega arith)

-- one level, and those above
pub path_step : (leaves : List (List ℕ)) (leaf level : ℕ) → level < 3 → path_from leaves leaf level ≡ listed (group_in leaves leaf level) ++ path_from leaves leaf (level + 1)
path_step leaves leaf zero few = append_assoc (listed (group_in leaves leaf 0)) (listed (group_in leaves leaf 1)) (listed (group_in leaves leaf 2))
path_step leaves leaf (suc zero) few = refl
path_step leaves leaf (suc (suc zero)) few = sym (append-nil (listed (group_in leaves leaf 2)))
path_step leaves leaf (suc (suc (suc level))) few = absurd (omega arith)

-- a group of one lists nothing
alone : (group : List (List ℕ)) → nat_lt 1 (length group) ≡ false → listed group ≡ []
alone [] e = refl
alone (d ∷ []) e = refl
alone (d ∷ f ∷ ds) e = let few : length (d ∷ f ∷ ds) ≤ 1 = ltb-false 1 (length (d ∷ f ∷ ds)) e in absurd (omega arith)

pub passed_over : (leaves : List (List ℕ)) (leaf level : ℕ) → level < 3 → nat_lt 1 (length (group_in leaves leaf level)) ≡ false → path_from leaves leaf (level + 1) ≡ path_from leaves leaf level
passed_over leaves leaf level few e =
    sym (path_step leaves leaf level few ∙ ap (λ l. l ++ path_from leaves leaf (level + 1)) (alone (group_in leaves leaf level) e))

-- a group of several is the first list
several : (group : List (List ℕ)) → 1 < length group → listed group ≡ group ∷ []
several [] h = absurd (omega arith)
several (d ∷ []) h = absurd (omega arith)
several (d ∷ f ∷ ds) h = refl

begins : (leaves : List (List ℕ)) (leaf level : ℕ) → level < 3 → 1 < length (group_in leaves leaf level)
    → path_from leaves leaf level ≡ group_in leaves leaf level ∷ path_from leaves leaf (level + 1)
begins leaves leaf level few h = path_step leaves leaf level few ∙ ap (λ l. l ++ path_from leaves leaf (level + 1)) (several (group_in leaves leaf level) h)

-- behind the first list are those from the next level on
pub behind_first : (leaves : List (List ℕ)) (leaf level : ℕ) → level < 3 → 1 < length (group_in leaves leaf level) → path_from leaves leaf (level + 1) ≡ behind_list (path_from leaves leaf level)
behind_first leaves leaf level few h = sym (ap behind_list (begins leaves leaf level few h))
