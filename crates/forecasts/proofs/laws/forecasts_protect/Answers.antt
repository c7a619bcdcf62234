use Rattle.forecasts.proofs.Tables.{protects_any}
use Rattle.forecasts.proofs.laws.forecasts_protect.Goals as goal

pub returns : goal.returns
returns c = record { protects = λ f table t p. protects_any f table t p }
