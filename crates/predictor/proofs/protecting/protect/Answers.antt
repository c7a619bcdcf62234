use Rattle.std.proofs.Common.{◌≡◌, ◌∙◌, ℕ, List, true, false, subst}
use Rattle.component_tree.specs.PlainTree.{plain}
use Rattle.pcr_replay.specs.Row.{rows}
use Rattle.policy_digest.specs.Mask.{pcrs_of}
use Rattle.predictor.specs.Protected.{Answers, protected_each, protected_joint}
use Rattle.predictor.proofs.Valid.{protected_valid}
use Rattle.predictor.proofs.protecting.protect.Goals as goal

pub returns-then-joint-clause-valid : goal.returns-then-joint-clause-valid
returns-then-joint-clause-valid c =
    let pcrs : c.as_slice-pcrs.result.now ≡ pcrs_of c.args.asked = c.as_slice-pcrs.ensures ∙ c.in_ok-pcrs.ensures.value in
    protected_valid true c.args.tree.now.components c.args.window.now c.args.asked c.args.bank (rows c.args.log.now) c.args.locality c.args.now.now c.protect_together.result
    (subst (λ (ps : List ℕ). Answers c.protect_together.result (protected_joint (plain c.args.tree.now.components) c.args.window.now ps c.args.bank (rows c.args.log.now) c.args.locality c.args.now.now)) pcrs c.protect_together.ensures)

pub returns-clause-valid : goal.returns-clause-valid
returns-clause-valid c =
    let pcrs : c.as_slice-pcrs.result.now ≡ pcrs_of c.args.asked = c.as_slice-pcrs.ensures ∙ c.in_ok-pcrs.ensures.value in
    protected_valid false c.args.tree.now.components c.args.window.now c.args.asked c.args.bank (rows c.args.log.now) c.args.locality c.args.now.now c.protect_each.result
    (subst (λ (ps : List ℕ). Answers c.protect_each.result (protected_each (plain c.args.tree.now.components) c.args.window.now ps c.args.bank (rows c.args.log.now) c.args.locality c.args.now.now)) pcrs c.protect_each.ensures)
