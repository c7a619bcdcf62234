use Rattle.std.proofs.Common.{◌≡◌, ◌≤◌, length, drop}
use Rattle.record_match.specs.Follow.{followed_from}
use Rattle.record_match.proofs.following.follow_from.Given as goal

abbrev pub invariant-loop-digest : goal.invariant-loop-digest
invariant-loop-digest l = record {
  within : l.next ≤ length l.list;
  rest : followed_from l.list l.next (drop l.digest-index l.digests) ≡ followed_from l.list l.fn.place l.digests;
}
