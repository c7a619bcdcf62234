use Rattle.tpm_model.specs.IndexCommands.{nv_undefine}
use Rattle.pcrlock_update.proofs.Removed.{either}
use Rattle.pcrlock_update.proofs.removing.undefine.Goals as goal

pub returns-in-Err-clause-stops : goal.returns-in-Err-clause-stops
returns-in-Err-clause-stops g c = λ s runs.
    either _ s (nv_undefine c.args.index s).1 (c.in-Err.ensures.stops s runs.live runs.stored)
