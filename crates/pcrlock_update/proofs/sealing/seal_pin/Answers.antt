use Rattle.pcrlock_update.proofs.Seals.{sealed_so, seal_stopped}
use Rattle.pcrlock_update.proofs.sealing.seal_pin.Goals as goal

pub returns-in-Ok-clause-sealed : goal.returns-in-Ok-clause-sealed
returns-in-Ok-clause-sealed g c = λ s runs.
    sealed_so c.sealed_in.result c.in-Some.command c.in-Ok.response _ _ _ c.args.index c.args.pin.now s c.in-Some.ensures.value
    (c.in-Ok.ensures.told s runs.live runs.stored) c.sealed_in.ensures.told

pub returns-in-Err-clause-sealed : goal.returns-in-Err-clause-sealed
returns-in-Err-clause-sealed g c = λ s runs.
    seal_stopped _ c.in-Some.command c.args.index c.args.pin.now s c.in-Some.ensures.value (c.in-Err.ensures.stops s runs.live runs.stored)
