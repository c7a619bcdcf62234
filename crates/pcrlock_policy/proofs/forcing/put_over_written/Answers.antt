use Rattle.std.proofs.Common.{sym, ap, option_copied, ◌∙◌}
use Rattle.std.specs.Prelude.{Ok}
use Rattle.pcrlock_line.proofs.Devices.{stands}
use Rattle.pcrlock_line.specs.Machine.{machine}
use Rattle.pcrlock_policy.specs.Asked.{target_of}
use Rattle.pcrlock_policy.specs.Foreseen.{foreseen_of}
use Rattle.pcrlock_policy.specs.MakePolicy.{tested_line}
use Rattle.pcrlock_policy.proofs.Forced.{safely_stands_as, safely_told_as, written_first}
use Rattle.pcrlock_policy.proofs.forcing.put_over_written.Goals as goal

pub returns-in-Ok-Ok-false-clause-told : goal.returns-in-Ok-Ok-false-clause-told
returns-in-Ok-Ok-false-clause-told g c = λ words m tells live.
    safely_told_as c.replace.result _ _ words _ _
    (ap (λ tested. tested_line tested (target_of c.args.target.now) (option_copied c.args.found) (foreseen_of c.args.foreseen) c.args.public.now c.args.content.now m)
    (sym c.in-Ok-Ok-false.ensures ∙ c.in-Ok-Ok-false.field-0-is ∙ ap Ok c.in-Ok-Ok-false.field-0-0-test))
    (c.replace.ensures.told words m tells live)

pub returns-in-Ok-Ok-false-clause-stops : goal.returns-in-Ok-Ok-false-clause-stops
returns-in-Ok-Ok-false-clause-stops g c = λ words m tells live.
    safely_stands_as c.replace.result _ _ _ _
    (ap (λ tested. tested_line tested (target_of c.args.target.now) (option_copied c.args.found) (foreseen_of c.args.foreseen) c.args.public.now c.args.content.now m)
    (sym c.in-Ok-Ok-false.ensures ∙ c.in-Ok-Ok-false.field-0-is ∙ ap Ok c.in-Ok-Ok-false.field-0-0-test))
    (c.replace.ensures.stops words m tells live)

pub returns-in-Err-clause-stops : goal.returns-in-Err-clause-stops
returns-in-Err-clause-stops g c = λ words m tells live safe.
    written_first _ _ (target_of c.args.target.now) (option_copied c.args.found) (foreseen_of c.args.foreseen) c.args.public.now c.args.content.now m (stands _ _ words (machine m) tells)
