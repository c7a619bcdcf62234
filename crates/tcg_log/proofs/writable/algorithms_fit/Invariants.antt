use Rattle.std.proofs.Common.{◌≡◌, [], take, drop}
use Rattle.std.specs.List.{All}
use Rattle.tcg_log.specs.Allowed.{are_algorithms, AlgorithmFits}
use Rattle.tcg_log.proofs.writable.algorithms_fit.Given as goal

abbrev pub invariant-loop-i : goal.invariant-loop-i
invariant-loop-i l = record {
  value : are_algorithms (take l.i l.algorithms) (drop l.i l.algorithms) ≡ are_algorithms [] l.algorithms;
  fits : All AlgorithmFits (take l.i l.algorithms);
}
