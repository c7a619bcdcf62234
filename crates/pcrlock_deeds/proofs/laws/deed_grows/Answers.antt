use Rattle.pcrlock_deeds.proofs.Growing.{deed_grows, deed_hashed}
use Rattle.pcrlock_deeds.proofs.laws.deed_grows.Goals as goal

pub returns-clause-grows : goal.returns-clause-grows
returns-clause-grows c = λ d m w. deed_grows d m w

pub returns-clause-hashed : goal.returns-clause-hashed
returns-clause-hashed c = λ d m w. deed_hashed d m w
