use Rattle.std.proofs.Common.{inr, refl}
use Rattle.pcrlock_run.proofs.Fronts.{told_so}
use Rattle.pcrlock_run.proofs.top.stopped.Goals as goal

pub returns-in-Ok-clause-told : goal.returns-in-Ok-clause-told
returns-in-Ok-clause-told g c = told_so _ c.stop_number.result _ _ _ _ c.answer_of.result c.tell.result c.stop_number.ensures c.answer_of.ensures.told c.in-Ok.is c.tell.ensures.later c.tell.ensures.told

pub returns-clause-told : goal.returns-clause-told
returns-clause-told g c = inr (refl, c.in-Err.ensures.unsaid)
