use Rattle.forecasts.proofs.Tables.{opens_any, opens_rows}
use Rattle.forecasts.proofs.laws.forecasts_open.Goals as goal

pub returns-clause-opens : goal.returns-clause-opens
returns-clause-opens c = λ f table banks pcrs has t. opens_any f table banks pcrs has t

pub returns-clause-rows : goal.returns-clause-rows
returns-clause-rows c = λ f table banks pcrs has t some. opens_rows f table banks pcrs has t some
