use Rattle.std.proofs.Common.{sym, ◌∙◌, drop}
use Rattle.std.specs.List.{position_from}
use Rattle.component_tree.specs.PlainTree.{plain}
use Rattle.pcr_replay.specs.Row.{row}
use Rattle.record_match.specs.ListedBy.{lists}
use Rattle.record_match.proofs.Plainly.{listed_here, listed_later}
use Rattle.record_match.proofs.noting.listed_from.Goals as goal

pub returns-then-is_in_component : goal.returns-then-is_in_component
returns-then-is_in_component c =
    sym
    (listed_here (row c.args.entry.now) c.args.components.now c.loop-number.number c.index-components-number.result (position_from (lists (row c.args.entry.now)) c.args.first (plain (drop c.args.first c.args.components.now))) c.loop-number-test.true c.index-components-number.is (sym c.is_in_component.ensures ∙ c.if-is_in_component.true) c.loop-number.invariant)

pub loop-number-preserved : goal.loop-number-preserved
loop-number-preserved c =
    listed_later (row c.args.entry.now) c.args.components.now c.loop-number.number c.index-components-number.result (position_from (lists (row c.args.entry.now)) c.args.first (plain (drop c.args.first c.args.components.now))) c.loop-number-test.true c.index-components-number.is (sym c.is_in_component.ensures ∙ c.if-is_in_component.false) c.loop-number.invariant
