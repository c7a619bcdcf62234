use Rattle.std.proofs.Common.{length}
use Rattle.pcrlock_update.proofs.updating.+named_in.Given as goal

abbrev pub decreases-named_in : goal.decreases-named_in
decreases-named_in l = length l.tables.now
