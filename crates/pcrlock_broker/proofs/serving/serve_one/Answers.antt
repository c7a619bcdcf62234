use Rattle.tpm_broker.specs.Served.{served}
use Rattle.pcrlock_broker.proofs.Turns.{stored_either}
use Rattle.pcrlock_broker.proofs.serving.serve_one.Goals as goal

pub returns-in-Err-Failed-clause-stops : goal.returns-in-Err-Failed-clause-stops
returns-in-Err-Failed-clause-stops g c = λ s runs.
    stored_either (served c.args.asked.now.0 c.args.asked.now.1 c.args.broker.now s) s c.in-Err-Failed.field-0 (g.T.Tpm.stored c.execute.new.tpm) (c.in-Err-Failed.ensures.stored s runs.live runs.stored)

pub returns-in-Err-Memory-clause-stops : goal.returns-in-Err-Memory-clause-stops
returns-in-Err-Memory-clause-stops g c = λ s runs.
    stored_either (served c.args.asked.now.0 c.args.asked.now.1 c.args.broker.now s) s c.in-Err-Memory.field-0 (g.T.Tpm.stored c.execute.new.tpm) (c.in-Err-Memory.ensures.stored s runs.live runs.stored)
