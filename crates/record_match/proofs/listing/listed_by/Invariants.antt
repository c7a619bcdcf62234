use Rattle.std.proofs.Common.{◌≡◌, drop}
use Rattle.std.specs.List.{position_from}
use Rattle.component_tree.specs.PlainTree.{plain}
use Rattle.pcr_replay.specs.Row.{row}
use Rattle.record_match.specs.ListedBy.{lists}
use Rattle.record_match.proofs.listing.listed_by.Given as goal

abbrev pub invariant-loop-number : goal.invariant-loop-number
invariant-loop-number l = position_from (lists (row l.entry)) l.number (plain (drop l.number l.tree.components)) ≡ position_from (lists (row l.entry)) 0 (plain l.tree.components)
