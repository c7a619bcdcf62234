use Rattle.forecasts.proofs.Tables.{protects_any}
use Rattle.pcrlock_foretold.specs.Foretold.{forecast_of}
use Rattle.pcrlock_foretold.proofs.Made.{makes_foretold}
use Rattle.pcrlock_foretold.proofs.Settled.{settled_line}
use Rattle.pcrlock_foretold.proofs.laws.policy_is_foretold.Goals as goal

pub returns-clause-makes : goal.returns-clause-makes
returns-clause-makes c = λ state asked target m w kept clean safe. makes_foretold state asked target m w kept clean safe

pub returns-clause-protects : goal.returns-clause-protects
returns-clause-protects c = λ asked target m w made p. protects_any (forecast_of asked made.finds.inputs made.finds.now) made.newest.table made.table p

pub returns-clause-settled : goal.returns-clause-settled
returns-clause-settled c = λ state asked target foreseen m w kept current safe settled. settled_line state asked target foreseen m w kept current safe settled
