use Rattle.std.proofs.Common.{ap}
use Rattle.std.specs.Prelude.{Err}
use Rattle.pcrlock_run.proofs.Fronts.{failed_gains, memory_gains}
use Rattle.pcrlock_run.proofs.show.write.Goals as goal

pub returns-in-Err-Failed-clause-front : goal.returns-in-Err-Failed-clause-front
returns-in-Err-Failed-clause-front g c =
    failed_gains _ _ _ _ _ c.in-Err-Failed.field-0 c.in-Err-Failed.field-0-is (c.in-Err-Failed.ensures.cause.cause (ap Err c.in-Err-Failed.field-0-is)) c.in-Err-Failed.ensures.told

pub returns-in-Err-Memory-clause-front : goal.returns-in-Err-Memory-clause-front
returns-in-Err-Memory-clause-front g c = memory_gains _ _ _ _ _ c.in-Err-Memory.field-0 c.in-Err-Memory.field-0-is c.in-Err-Memory.ensures.told
