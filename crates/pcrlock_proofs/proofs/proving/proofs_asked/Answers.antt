use Rattle.component_tree.specs.PlainTree.{plain}
use Rattle.pcrlock_proofs.proofs.Passing.{result_each, result_joint}
use Rattle.pcrlock_proofs.proofs.proving.proofs_asked.Goals as goal

pub returns-then-asked-clause-passing : goal.returns-then-asked-clause-passing
returns-then-asked-clause-passing c =
    result_joint c.args.asked c.args.location.now (plain c.args.tree.now.components) c.args.asked.pcrs c.proofs_for.result c.proofs_for.ensures.few c.proofs_for.ensures.passing

pub returns-else-asked-clause-passing : goal.returns-else-asked-clause-passing
returns-else-asked-clause-passing c =
    result_each c.args.asked c.args.location.now (plain c.args.tree.now.components) c.proofs_each.result c.proofs_each.ensures.few c.proofs_each.ensures.passing
