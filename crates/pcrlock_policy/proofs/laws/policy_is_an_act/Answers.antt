use Rattle.pcrlock_policy.proofs.Acts.{make_policy_is}
use Rattle.pcrlock_policy.proofs.Makes.{make_policy_makes}
use Rattle.pcrlock_policy.proofs.Sound.{make_policy_sound}
use Rattle.pcrlock_policy.proofs.laws.policy_is_an_act.Goals as goal

pub returns-clause-act : goal.returns-clause-act
returns-clause-act c = λ state asked target. make_policy_is state asked target

pub returns-clause-sound : goal.returns-clause-sound
returns-clause-sound c = λ asked target m w range kept safe. make_policy_sound asked target m w range kept safe

pub returns-clause-makes : goal.returns-clause-makes
returns-clause-makes c = λ state asked target m w out fine kept clean safe. make_policy_makes state asked target m w out fine kept clean safe
