use Rattle.std.proofs.Common.{◌≡◌, ◌≤◌, length, take}
use Rattle.std.specs.Prelude.{IfSome}
use Rattle.record_match.specs.Follow.{earliest_from}
use Rattle.record_match.proofs.following.earliest.Given as goal

abbrev pub invariant-loop-digests : goal.invariant-loop-digests
invariant-loop-digests l = record {
  value : l.least ≡ earliest_from l.list l.place (take l.digests-index l.alternatives);
  bound : IfSome l.least (λ next. next ≤ length l.list);
}
