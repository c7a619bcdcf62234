use Rattle.pcrlock_deeds.proofs.Tying.{kept_tie, own_tie}
use Rattle.pcrlock_deeds.proofs.laws.policy_is_tied.Goals as goal

pub returns-clause-own : goal.returns-clause-own
returns-clause-own c = λ policy. own_tie policy

pub returns-clause-trails : goal.returns-clause-trails
returns-clause-trails c = λ policy. kept_tie policy
