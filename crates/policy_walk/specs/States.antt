-- What the typed states of a walk tell.
use Rattle.std.specs.Prelude.{ℕ, ◌<◌, List, length, Option, Some, None, Result, Ok, Err}
use Rattle.or_tree.specs.Plan.{Plan}
use Rattle.policy_walk.specs.declared.started.At.{At}
use Rattle.policy_walk.specs.declared.started.At.TheVariants as at
use Rattle.policy_walk.specs.Paths.{group_in, path_from}
use Rattle.policy_walk.specs.Places.{Step, at_pcr, at_digest, at_or}

-- a step, as it is kept: a leaf and a level stand for the lists from there on
abbrev pub step_of : List (List ℕ) → At → Step
step_of leaves at.Pcr = at_pcr
step_of leaves at.Digest = at_digest
step_of leaves (at.Or leaf level) = at_or (path_from leaves leaf level)

-- the level joins the leaf's branch with others
abbrev pub IsAt : List (List ℕ) → At → Type 0
IsAt leaves at.Pcr = Unit {0}
IsAt leaves at.Digest = Unit {0}
IsAt leaves (at.Or leaf level) = (leaf < length leaves) × (level < 3) × (1 < length (group_in leaves leaf level))
