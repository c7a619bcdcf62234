use Rattle.std.proofs.Common.{◌≡◌, ◌≤◌, length, drop}
use Rattle.record_match.specs.Walk.{begins}
use Rattle.record_match.proofs.choosing.begins_with.Given as goal

abbrev pub invariant-loop-place : goal.invariant-loop-place
invariant-loop-place l = record {
  within : length l.digests ≤ length l.list;
  rest : begins (drop l.place l.digests) (drop l.place l.list) ≡ begins l.digests l.list;
}
