use Rattle.std.proofs.Common.{◌≡◌, ◌++◌, length, take}
use Rattle.std.specs.Int.{w32, to_le_bytes}
use Rattle.std.specs.List.{flat_map}
use Rattle.tcg_log.specs.Text.{algorithm_text}
use Rattle.tcg_log.proofs.writing.put_algorithms.Given as goal

abbrev pub invariant-loop-algorithm : goal.invariant-loop-algorithm
invariant-loop-algorithm l = l.out.items ≡ l.fn.out.items ++ (to_le_bytes w32 (length l.algorithms) ++ flat_map algorithm_text (take l.algorithm-index l.algorithms))
