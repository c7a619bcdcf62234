use Rattle.std.proofs.Common.{◌≡◌, [], take, drop}
use Rattle.std.specs.List.{All}
use Rattle.tcg_log.specs.Allowed.{are_digests, TaggedFits}
use Rattle.tcg_log.proofs.writable.digests_fit.Given as goal

abbrev pub invariant-loop-i : goal.invariant-loop-i
invariant-loop-i l = record {
  value : are_digests l.algorithms (take l.i l.digests) (drop l.i l.digests) ≡ are_digests l.algorithms [] l.digests;
  fits : All TaggedFits (take l.i l.digests);
}
