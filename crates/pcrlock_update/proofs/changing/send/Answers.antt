use Rattle.pcrlock_update.proofs.Sends.{send_stopped}
use Rattle.pcrlock_update.proofs.changing.send.Goals as goal

pub returns-in-Err-clause-sent : goal.returns-in-Err-clause-sent
returns-in-Err-clause-sent g c = λ s runs.
    send_stopped _ c.args.change.now c.command_of.result s c.command_of.ensures (c.in-Err.ensures.stops s runs.live runs.stored)
