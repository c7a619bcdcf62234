use Rattle.std.proofs.Common.{length, ap, arith}
use Rattle.component_tree.specs.PlainTree.{plain}
use Rattle.pcrlock_proofs.proofs.Checked.{number_below}
use Rattle.pcrlock_proofs.proofs.checking.verdict.Goals as goal

pub overflow_add-result : goal.overflow_add-result
overflow_add-result c =
    let below = number_below c.args.file.now.bank c.args.file.now.locality c.args.location.now (plain c.args.tree.now.components) c.as_slice-proofs.result.now c.in-Err.error c.in-Err.ensures.refused in
    omega (arith, below, c.number.ensures, ap length c.as_slice-proofs.ensures, c.requires.few)
