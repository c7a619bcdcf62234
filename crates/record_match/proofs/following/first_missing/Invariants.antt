use Rattle.std.proofs.Common.{◌≡◌, ◌≤◌, length, drop}
use Rattle.record_match.specs.Follow.{missing_from}
use Rattle.record_match.proofs.following.first_missing.Given as goal

abbrev pub invariant-loop-number : goal.invariant-loop-number
invariant-loop-number l = record {
  within : l.place ≤ length l.list;
  rest : missing_from l.list l.number l.place (drop l.number l.steps) ≡ missing_from l.list 0 0 l.steps;
}
