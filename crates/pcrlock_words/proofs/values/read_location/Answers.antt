use Rattle.pcrlock_words.proofs.WindowLemmas.{window_is}
use Rattle.pcrlock_words.proofs.values.read_location.Goals as goal

pub returns-in-Ok : goal.returns-in-Ok
returns-in-Ok c = window_is c.args.value.now c.in-Ok.window c.in-Ok.ensures
