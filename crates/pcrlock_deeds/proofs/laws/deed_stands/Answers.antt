use Rattle.pcrlock_deeds.proofs.Standing.{deed_first, deed_last, deed_stops}
use Rattle.pcrlock_deeds.proofs.laws.deed_stands.Goals as goal

pub returns-clause-stages : goal.returns-clause-stages
returns-clause-stages c = λ d m w. deed_stops d m w

pub returns-clause-first : goal.returns-clause-first
returns-clause-first c = λ held kept d m at. deed_first held kept d m at

pub returns-clause-last : goal.returns-clause-last
returns-clause-last c = λ held kept d m at. deed_last held kept d m at
