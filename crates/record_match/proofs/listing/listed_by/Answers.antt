use Rattle.std.proofs.Common.{sym, ◌∙◌}
use Rattle.component_tree.specs.PlainTree.{plain}
use Rattle.pcr_replay.specs.Row.{row}
use Rattle.record_match.specs.ListedBy.{listed_by_of}
use Rattle.record_match.proofs.Plainly.{listed_here, listed_later}
use Rattle.record_match.proofs.listing.listed_by.Goals as goal

pub returns-then-is_in_component : goal.returns-then-is_in_component
returns-then-is_in_component c =
    sym (listed_here (row c.args.entry.now) c.args.tree.now.components c.loop-number.number c.component-item.result (listed_by_of (row c.args.entry.now) (plain c.args.tree.now.components))
    (rw c.as_slice-component-items.ensures at c.loop-number-test.true) (rw c.as_slice-component-items.ensures at c.component-item.is)
    (sym c.is_in_component.ensures ∙ c.if-is_in_component.true) c.loop-number.invariant)

pub loop-number-preserved : goal.loop-number-preserved
loop-number-preserved c =
    listed_later (row c.args.entry.now) c.args.tree.now.components c.loop-number.number c.component-item.result (listed_by_of (row c.args.entry.now) (plain c.args.tree.now.components))
    (rw c.as_slice-component-items.ensures at c.loop-number-test.true) (rw c.as_slice-component-items.ensures at c.component-item.is)
    (sym c.is_in_component.ensures ∙ c.if-is_in_component.false) c.loop-number.invariant
