use Rattle.pcrlock_run.proofs.Fronts.{anyway, memory_says}
use Rattle.pcrlock_run.proofs.Said.{says_nothing}
use Rattle.pcrlock_run.proofs.show.tell.Goals as goal

pub returns-in_err-line-clause-unsaid : goal.returns-in_err-line-clause-unsaid
returns-in_err-line-clause-unsaid g c = anyway _ c.from_residual.result (says_nothing _ _)

pub returns-clause-unsaid : goal.returns-clause-unsaid
returns-clause-unsaid g c =
    memory_says _ _ _ _ _ c.in-Err-Memory.field-0 c.in-Err-Memory.field-0-is c.in-Err-Memory.ensures.cause.later c.in-Err-Memory.ensures.told
