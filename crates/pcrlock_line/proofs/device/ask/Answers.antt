use Rattle.pcrlock_line.proofs.Refusals.{after_failure, after_memory}
use Rattle.pcrlock_line.proofs.device.ask.Goals as goal

pub returns-in-Ok-clause-told : goal.returns-in-Ok-clause-told
returns-in-Ok-clause-told g c = λ s live stored.
    let told = c.in-Ok.ensures.told s live in
    record { answer = told.0; live = told.1; stored = c.in-Ok.ensures.stored s live stored; ready = told.2 }

pub returns-in-Err-Failed-clause-stops : goal.returns-in-Err-Failed-clause-stops
returns-in-Err-Failed-clause-stops g c = λ s live stored.
    after_failure c.args.command.now s c.in-Err-Failed.field-0 _ c.in-Err-Failed.field-0-is (c.in-Err-Failed.ensures.stored s live stored)

pub returns-in-Err-Memory-clause-stops : goal.returns-in-Err-Memory-clause-stops
returns-in-Err-Memory-clause-stops g c = λ s live stored.
    after_memory c.args.command.now s c.in-Err-Memory.field-0 _ c.in-Err-Memory.field-0-is (c.in-Err-Memory.ensures.stored s live stored)
