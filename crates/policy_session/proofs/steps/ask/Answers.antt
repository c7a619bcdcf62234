use Rattle.std.proofs.Common.{ap}
use Rattle.std.specs.Prelude.{Ok}
use Rattle.policy_session.proofs.Answered.{failed_stores, memory_stores}
use Rattle.policy_session.proofs.steps.ask.Goals as goal

pub returns-in-Ok-clause-told : goal.returns-in-Ok-clause-told
returns-in-Ok-clause-told g c = λ s live ready is. let told = c.in-Ok.ensures.told s live in (ap Ok told.0, told.1, told.2)

pub returns-in-Err-Failed-clause-stored : goal.returns-in-Err-Failed-clause-stored
returns-in-Err-Failed-clause-stored g c = λ base s live ready stored before next.
    failed_stores c.args.command.now base s c.in-Err-Failed.field-0 _ c.in-Err-Failed.field-0-is (c.in-Err-Failed.ensures.stored s live stored) before next

pub returns-in-Err-Memory-clause-stored : goal.returns-in-Err-Memory-clause-stored
returns-in-Err-Memory-clause-stored g c = λ base s live ready stored before next.
    memory_stores c.args.command.now base s c.in-Err-Memory.field-0 _ c.in-Err-Memory.field-0-is (c.in-Err-Memory.ensures.stored s live stored) before
