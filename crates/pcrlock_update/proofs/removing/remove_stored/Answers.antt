use Rattle.std.proofs.Common.{◌⊎◌}
use Rattle.pcrlock_line.specs.Running.{Keeps}
use Rattle.pcrlock_update.specs.RemovePolicy.{without_index, without_pin}
use Rattle.pcrlock_update.proofs.Removed.{keeps_on, stops_later}
use Rattle.pcrlock_update.proofs.removing.remove_stored.Goals as goal

pub returns-in-Ok-clause-runs : goal.returns-in-Ok-clause-runs
returns-in-Ok-clause-runs g c = λ s runs.
    let policy = c.args.policy.now in
    keeps_on c.remove_pin.result _ _ _ (c.remove_pin.ensures.runs (without_index policy s) (c.in-Ok.ensures.runs s runs))

pub returns-in-Ok-clause-stops : goal.returns-in-Ok-clause-stops
returns-in-Ok-clause-stops g c = λ s runs.
    let policy = c.args.policy.now in
    let next = without_index policy s in
    stops_later (Keeps (g.T.Tpm.stored c.remove_pin.new.tpm) s) (Keeps (g.T.Tpm.stored c.remove_pin.new.tpm) next ⊎ Keeps (g.T.Tpm.stored c.remove_pin.new.tpm) (without_pin policy next))
    c.remove_pin.result (c.remove_pin.ensures.stops next (c.in-Ok.ensures.runs s runs))
