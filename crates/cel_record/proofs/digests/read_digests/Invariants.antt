use Rattle.std.proofs.Common.{◌≡◌, drop}
use Rattle.serde_json.specs.View.{items_view}
use Rattle.cel_record.specs.Listed.{listed, none_listed}
use Rattle.cel_record.specs.RecordText.{digests_after}
use Rattle.cel_record.proofs.digests.read_digests.Given as goal

abbrev pub invariant-loop-member : goal.invariant-loop-member
invariant-loop-member l = digests_after (listed l.digests) (items_view (drop l.member-index l.members)) ≡ digests_after none_listed (items_view l.members)
