-- the leaves of the lists so far
use Rattle.std.proofs.Common.{◌≡◌, length, map, take}
use Rattle.std.specs.List.{All}
use Rattle.policy_digest.specs.PlainTable.{leaf_of}
use Rattle.policy_digest.specs.Strings.{values_string}
use Rattle.or_tree.proofs.row.leaves.Given as goal

abbrev pub invariant-loop-values : goal.invariant-loop-values
invariant-loop-values l =
    (l.leaves ≡ map (leaf_of l.bank l.before l.row.pcrs) (map values_string (take l.values-index l.row.choices)))
    × All (λ d. length d ≡ 32) l.leaves
