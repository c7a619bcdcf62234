use Rattle.pcrlock_update.proofs.Acts.{remove_policy_is, remove_policy_sound, removed_index, removed_world}
use Rattle.pcrlock_update.proofs.laws.removal_is_an_act.Goals as goal

pub returns-clause-act : goal.returns-clause-act
returns-clause-act c = λ state path. remove_policy_is state path

pub returns-clause-sound : goal.returns-clause-sound
returns-clause-sound c = λ path m w. remove_policy_sound path m w

pub returns-clause-leaves : goal.returns-clause-leaves
returns-clause-leaves c = λ path policy m w. removed_world path policy m w

pub returns-clause-index : goal.returns-clause-index
returns-clause-index c = λ path policy m w holds. removed_index path policy m w holds
