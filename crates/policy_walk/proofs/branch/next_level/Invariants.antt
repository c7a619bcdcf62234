use Rattle.std.proofs.Common.{◌≡◌}
use Rattle.or_tree.specs.Plan.{leaves_at}
use Rattle.policy_walk.specs.Paths.{path_from}
use Rattle.policy_walk.proofs.branch.next_level.Given as goal

-- the levels so far list nothing
abbrev pub invariant-loop-level : goal.invariant-loop-level
invariant-loop-level l = path_from (leaves_at l.plan l.row) l.leaf l.level ≡ path_from (leaves_at l.plan l.row) l.leaf l.from
