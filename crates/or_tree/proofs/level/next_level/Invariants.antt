-- what stands for the groups so far
use Rattle.std.proofs.Common.{◌≡◌, length}
use Rattle.std.specs.List.{All}
use Rattle.or_tree.proofs.Groups.{raised_groups}
use Rattle.or_tree.proofs.level.next_level.Given as goal

abbrev pub invariant-loop-number : goal.invariant-loop-number
invariant-loop-number l = (l.next ≡ raised_groups l.level l.number) × All (λ d. length d ≡ 32) l.next
