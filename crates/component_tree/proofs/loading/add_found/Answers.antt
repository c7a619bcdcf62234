use Rattle.component_tree.specs.PlainTree.{plain}
use Rattle.component_tree.proofs.Keeping.{kept_after}
use Rattle.component_tree.proofs.loading.add_found.Goals as goal

pub returns-in-Some-clause-within : goal.returns-in-Some-clause-within
returns-in-Some-clause-within c =
    (kept_after (plain c.args.components.now) c.add_records.new.components c.args.place.now c.in-Some.records c.args.total c.add_records.result c.requires.within c.requires.in_order c.requires.counted c.add_records.ensures.gives c.add_records.ensures.counts).within

pub returns-in-Some-clause-in_order : goal.returns-in-Some-clause-in_order
returns-in-Some-clause-in_order c =
    (kept_after (plain c.args.components.now) c.add_records.new.components c.args.place.now c.in-Some.records c.args.total c.add_records.result c.requires.within c.requires.in_order c.requires.counted c.add_records.ensures.gives c.add_records.ensures.counts).up_to

pub returns-in-Some-clause-counted : goal.returns-in-Some-clause-counted
returns-in-Some-clause-counted c =
    (kept_after (plain c.args.components.now) c.add_records.new.components c.args.place.now c.in-Some.records c.args.total c.add_records.result c.requires.within c.requires.in_order c.requires.counted c.add_records.ensures.gives c.add_records.ensures.counts).counted
