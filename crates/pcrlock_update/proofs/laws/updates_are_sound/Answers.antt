use Rattle.pcrlock_update.proofs.Sound.{kept_sound, new_sound, pinned_sound}
use Rattle.pcrlock_update.proofs.laws.updates_are_sound.Goals as goal

pub returns-clause-anew : goal.returns-clause-anew
returns-clause-anew c = λ text path old stands index table pin m w range valid. new_sound text path old stands index table pin m w range valid

pub returns-clause-pinned : goal.returns-clause-pinned
returns-clause-pinned c = λ text path found index pin content table m w range valid kept read. pinned_sound text path found index pin content table m w range valid kept read

pub returns-clause-kept : goal.returns-clause-kept
returns-clause-kept c = λ text path policy pin content table m w valid kept read same safe. kept_sound text path policy pin content table m w valid kept read same safe
