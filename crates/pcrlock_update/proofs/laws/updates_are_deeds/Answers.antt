use Rattle.pcrlock_update.proofs.Comes.{kept_as, new_as, pinned_as}
use Rattle.pcrlock_update.proofs.laws.updates_are_deeds.Goals as goal

pub returns-clause-anew : goal.returns-clause-anew
returns-clause-anew c = λ text path old stands index table pin m. new_as text path old stands index table pin m

pub returns-clause-pinned : goal.returns-clause-pinned
returns-clause-pinned c = λ text path found index pin content table m. pinned_as text path found index pin content table m

pub returns-clause-kept : goal.returns-clause-kept
returns-clause-kept c = λ text path policy pin content table m. kept_as text path policy pin content table m
