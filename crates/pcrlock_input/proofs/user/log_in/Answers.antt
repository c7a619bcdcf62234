use Rattle.pcrlock_input.proofs.Few.{few_read}
use Rattle.pcrlock_input.proofs.user.log_in.Goals as goal

pub returns-in-Ok-clause-few : goal.returns-in-Ok-clause-few
returns-in-Ok-clause-few c = few_read c.args.bytes.now c.in-Ok.log c.in-Ok.ensures
