use Rattle.std.proofs.Common.{ap, option_copied, ◌∙◌}
use Rattle.std.specs.Prelude.{None}
use Rattle.pcrlock_policy.specs.Asked.{target_of}
use Rattle.pcrlock_policy.specs.Foreseen.{foreseen_of}
use Rattle.pcrlock_policy.specs.MakePolicy.{replaced_line}
use Rattle.pcrlock_policy.proofs.Forced.{safely_stands_as, safely_told_as, stands_as, told_as}
use Rattle.pcrlock_policy.proofs.forcing.replace.Goals as goal

pub returns-in-Some-default-clause-told : goal.returns-in-Some-default-clause-told
returns-in-Some-default-clause-told g c = λ words m tells live safe.
    told_as c.update_given.result _ _ words _ _
    (ap (λ pin. replaced_line (target_of c.args.target.now) (option_copied pin) (option_copied c.args.found) (foreseen_of c.args.foreseen) c.args.public.now c.args.content.now m) c.in-Some-default.is-0)
    (c.update_given.ensures.told words m tells live)

pub returns-in-Some-default-clause-stops : goal.returns-in-Some-default-clause-stops
returns-in-Some-default-clause-stops g c = λ words m tells live safe.
    stands_as c.update_given.result _ _ _ _
    (ap (λ pin. replaced_line (target_of c.args.target.now) (option_copied pin) (option_copied c.args.found) (foreseen_of c.args.foreseen) c.args.public.now c.args.content.now m) c.in-Some-default.is-0)
    (c.update_given.ensures.stops words m tells live)

pub returns-in-None-Some-clause-told : goal.returns-in-None-Some-clause-told
returns-in-None-Some-clause-told g c = λ words m tells live.
    safely_told_as c.update_unsealed.result _ _ words _ _
    (ap (λ pin. replaced_line (target_of c.args.target.now) (option_copied pin) (option_copied c.args.found) (foreseen_of c.args.foreseen) c.args.public.now c.args.content.now m) c.in-None-Some.is-0
    ∙ ap (λ found. replaced_line (target_of c.args.target.now) None (option_copied found) (foreseen_of c.args.foreseen) c.args.public.now c.args.content.now m) c.in-None-Some.is-1)
    (c.update_unsealed.ensures.told words m tells live)

pub returns-in-None-Some-clause-stops : goal.returns-in-None-Some-clause-stops
returns-in-None-Some-clause-stops g c = λ words m tells live.
    safely_stands_as c.update_unsealed.result _ _ _ _
    (ap (λ pin. replaced_line (target_of c.args.target.now) (option_copied pin) (option_copied c.args.found) (foreseen_of c.args.foreseen) c.args.public.now c.args.content.now m) c.in-None-Some.is-0
    ∙ ap (λ found. replaced_line (target_of c.args.target.now) None (option_copied found) (foreseen_of c.args.foreseen) c.args.public.now c.args.content.now m) c.in-None-Some.is-1)
    (c.update_unsealed.ensures.stops words m tells live)
