use Rattle.std.proofs.Common.{arith, refl}
use Rattle.component_tree.proofs.LastComponent.{grown_is}
use Rattle.component_tree.proofs.growing.grow_last.Goals as goal

pub returns : goal.returns
returns c = grown_is c.args.components.now c.remove-component.new.self c.push-2.new.self _ c.remove-component.result _ c.args.variant
    (omega (arith, c.len-last.ensures, c.requires.some)) c.remove-component.ensures.value c.remove-component.ensures.rest c.in_ok-push-2.ensures refl c.in_ok-push.ensures
