use Rattle.std.specs.Prelude.{[], ◌∷◌}
use Rattle.tpm_model.specs.declared.trail.TrailEntry.TheVariants.{AuthorizeNv}
use Rattle.tpm_unseals.proofs.Strict.{forgotten, once, one_look, unwritten}
use Rattle.tpm_unseals.proofs.laws.authorizations_are_strict.Goals as goal

pub returns-clause-unwritten : goal.returns-clause-unwritten
returns-clause-unwritten c = λ w trail index pin none by. unwritten w trail index pin none by

pub returns-clause-once : goal.returns-clause-once
returns-clause-once c = λ w earlier last index pin by. once w earlier last index pin by

pub returns-clause-twice : goal.returns-clause-twice
returns-clause-twice c = λ w name digest number last index pin by. (once w (AuthorizeNv name digest number ∷ []) last index pin by).0

pub returns-clause-one_look : goal.returns-clause-one_look
returns-clause-one_look c = λ w number index pin bank pcrs list wrote. one_look w number index pin bank pcrs list wrote

pub returns-clause-forgotten : goal.returns-clause-forgotten
returns-clause-forgotten c = λ s w index written stands was none unknown tie. forgotten s w index written stands was none unknown tie
