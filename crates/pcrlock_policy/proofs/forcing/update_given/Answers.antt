use Rattle.std.proofs.Common.{sym, ap, option_copied}
use Rattle.pcrlock_update.specs.Update.{pinned_line}
use Rattle.pcrlock_policy.proofs.Forced.{stands_as, told_as}
use Rattle.pcrlock_policy.proofs.forcing.update_given.Goals as goal

pub returns-clause-told : goal.returns-clause-told
returns-clause-told g c = λ words m tells live.
    told_as c.update_with_pin.result _ _ words _ _
    (ap (λ handle. pinned_line c.args.foreseen.text.items c.args.target.now.path.now (option_copied c.args.found) handle c.args.pin.now c.args.content.now c.args.foreseen.table m) (sym c.handle_for.ensures.value))
    (c.update_with_pin.ensures.told words m tells live)

pub returns-clause-stops : goal.returns-clause-stops
returns-clause-stops g c = λ words m tells live.
    stands_as c.update_with_pin.result _ _ _ _
    (ap (λ handle. pinned_line c.args.foreseen.text.items c.args.target.now.path.now (option_copied c.args.found) handle c.args.pin.now c.args.content.now c.args.foreseen.table m) (sym c.handle_for.ensures.value))
    (c.update_with_pin.ensures.stops words m tells live)
