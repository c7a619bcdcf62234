use Rattle.std.proofs.Common.{◌≡◌, ◌∙◌}
use Rattle.policy_digest.specs.Mask.{pcrs_of}
use Rattle.policy_digest.proofs.MaskLists.{some_listed}
use Rattle.predictor.proofs.Sound.{joint_counted}
use Rattle.predictor.proofs.foreseeing.foresee_joint.Goals as goal

pub foresee_pcrs-requires-clause-some : goal.foresee_pcrs-requires-clause-some
foresee_pcrs-requires-clause-some c =
    let pcrs : c.as_slice.result.now ≡ pcrs_of c.args.pcrs = c.as_slice.ensures ∙ c.in_ok-pcrs.ensures.value in
    rw pcrs (some_listed c.args.pcrs c.requires.some c.requires.in_range)

pub returns-clause-counted : goal.returns-clause-counted
returns-clause-counted c =
    joint_counted c.args.bank c.args.locality c.as_slice.result.now c.args.window.now c.args.tree.now.components c.foresee_pcrs.result c.foresee_pcrs.ensures
