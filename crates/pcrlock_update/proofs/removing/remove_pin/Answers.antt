use Rattle.tpm_model.specs.ObjectCommands.{evict}
use Rattle.pcrlock_update.proofs.Removed.{either}
use Rattle.pcrlock_update.proofs.removing.remove_pin.Goals as goal

pub returns-in-Err-clause-stops : goal.returns-in-Err-clause-stops
returns-in-Err-clause-stops g c = λ s runs.
    let handle = c.args.policy.now.pin_object in
    either _ s (evict handle s).1 (c.in-Err.ensures.stops s runs.live runs.stored)
