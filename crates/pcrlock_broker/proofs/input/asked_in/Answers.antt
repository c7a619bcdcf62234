use Rattle.pcrlock_broker.proofs.Numbers.{file_below}
use Rattle.pcrlock_broker.proofs.input.asked_in.Goals as goal

pub returns-in-Ok-clause-numbers : goal.returns-in-Ok-clause-numbers
returns-in-Ok-clause-numbers c = file_below c.args.clients c.args.bytes.now c.in-Ok.commands c.in-Ok.ensures
