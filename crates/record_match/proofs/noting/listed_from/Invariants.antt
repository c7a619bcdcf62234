use Rattle.std.proofs.Common.{◌≡◌, drop}
use Rattle.std.specs.List.{position_from}
use Rattle.component_tree.specs.PlainTree.{plain}
use Rattle.pcr_replay.specs.Row.{row}
use Rattle.record_match.specs.ListedBy.{lists}
use Rattle.record_match.proofs.noting.listed_from.Given as goal

abbrev pub invariant-loop-number : goal.invariant-loop-number
invariant-loop-number l = position_from (lists (row l.entry)) l.number (plain (drop l.number l.components)) ≡ position_from (lists (row l.entry)) l.first (plain (drop l.first l.components))
