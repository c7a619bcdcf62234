use Rattle.std.proofs.Common.{◌≡◌, ◌∙◌}
use Rattle.policy_digest.specs.Mask.{pcrs_of}
use Rattle.policy_digest.proofs.MaskLists.{some_listed}
use Rattle.predictor.proofs.Sound.{reached_counted}
use Rattle.predictor.proofs.foreseeing.foresee_choices.Goals as goal

pub reach-requires-clause-some : goal.reach-requires-clause-some
reach-requires-clause-some c =
    let pcrs : c.as_slice.result.now ≡ pcrs_of c.args.pcrs = c.as_slice.ensures ∙ c.in_ok-pcrs.ensures.value in
    rw pcrs (some_listed c.args.pcrs c.requires.some c.requires.in_range)

pub returns-clause-counted : goal.returns-clause-counted
returns-clause-counted c =
    reached_counted c.args.bank c.args.locality c.as_slice.result.now c.args.window.now c.args.tree.now.components c.reach.result c.reach.ensures.states
