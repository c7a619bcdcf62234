use Rattle.pcrlock_run.proofs.Fronts.{anyway, unwritten_gains}
use Rattle.pcrlock_run.proofs.show.mark.Goals as goal

pub returns-in_err-text-clause-front : goal.returns-in_err-text-clause-front
returns-in_err-text-clause-front g c = anyway _ c.from_residual.result (unwritten_gains _ _ _ _ _ (λ written e. e))
