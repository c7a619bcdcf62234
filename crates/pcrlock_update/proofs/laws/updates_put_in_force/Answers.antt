use Rattle.pcrlock_update.proofs.Makes.{in_force_current, kept_makes, new_makes, pinned_makes}
use Rattle.pcrlock_update.proofs.laws.updates_put_in_force.Goals as goal

pub returns-clause-anew : goal.returns-clause-anew
returns-clause-anew c = λ text path old stands index table pin m w out fine. new_makes text path old stands index table pin m w out fine

pub returns-clause-pinned : goal.returns-clause-pinned
returns-clause-pinned c = λ text path found index pin content table m w out fine. pinned_makes text path found index pin content table m w out fine

pub returns-clause-kept : goal.returns-clause-kept
returns-clause-kept c = λ text path policy pin content table m w out fine. kept_makes text path policy pin content table m w out fine

pub returns-clause-current : goal.returns-clause-current
returns-clause-current c = λ index pin table w h. in_force_current index pin table w h
