use Rattle.std.proofs.Common.{[], ◌∷◌, ◌++◌, ap, sym, ◌∙◌}
use Rattle.policy_digest.specs.Levels.{up}
use Rattle.or_tree.proofs.Groups.{pushed_sizes, raised_groups, raised_more}
use Rattle.or_tree.proofs.level.next_level.Goals as goal

pub loop-number-preserved : goal.loop-number-preserved
loop-number-preserved c =
    let level = c.args.level.now in
    let last = c.raised.ensures.value ∙ ap up c.group_at.ensures.value in (
      c.in_ok-push.ensures
          ∙ ap (λ so_far. so_far ++ c.raised.result ∷ []) c.loop-number.invariant.0
          ∙ ap (λ one. raised_groups level c.loop-number.number ++ one ∷ []) last
          ∙ sym (raised_more level c.loop-number.number),
      pushed_sizes _ _ _ c.in_ok-push.ensures c.loop-number.invariant.1 c.raised.ensures.size,
    )
