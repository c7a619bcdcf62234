use Rattle.std.proofs.Common.{◌≤◌, length, sym, subst}
use Rattle.std.proofs.lemmas.Result.{IfOk-weaker}
use Rattle.component_tree.specs.PlainTree.{plain}
use Rattle.policy_digest.specs.Mask.{pcrs_of}
use Rattle.pcrlock_proofs.proofs.Passing.{of_more, one_pcr}
use Rattle.pcrlock_proofs.proofs.proving.proofs_of_pcr.Goals as goal

pub returns-clause-passing : goal.returns-clause-passing
returns-clause-passing c =
    let one : length (pcrs_of c.mask_of_pcr.result) ≤ 1 = subst (λ m. length (pcrs_of m) ≤ 1) (sym c.mask_of_pcr.ensures.value) (one_pcr c.args.pcr c.requires) in
    IfOk-weaker c.proofs_for.result _ _
    (λ list are. of_more c.args.asked c.args.location.now (plain c.args.tree.now.components) (length (pcrs_of c.mask_of_pcr.result)) 1 list one are) c.proofs_for.ensures.passing
