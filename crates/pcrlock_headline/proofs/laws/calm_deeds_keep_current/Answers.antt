use Rattle.pcrlock_headline.proofs.Calm.{act_current, act_leaves, deed_current, deed_leaves}
use Rattle.pcrlock_headline.proofs.laws.calm_deeds_keep_current.Goals as goal

pub returns-clause-deed : goal.returns-clause-deed
returns-clause-deed c = λ d m w calm current. deed_current d m w calm current

pub returns-clause-act : goal.returns-clause-act
returns-clause-act c = λ act m w calm current. act_current act m w calm current

pub returns-clause-leaves : goal.returns-clause-leaves
returns-clause-leaves c = λ d m w calm. deed_leaves d m w calm

pub returns-clause-act_leaves : goal.returns-clause-act_leaves
returns-clause-act_leaves c = λ act m w calm. act_leaves act m w calm
