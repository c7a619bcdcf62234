use Rattle.pcrlock_deeds.proofs.Broken.{lost_index}
use Rattle.pcrlock_deeds.proofs.laws.lost_index_is_noticed.Goals as goal

pub returns : goal.returns
returns c = λ policy m w handle live none found kept. lost_index policy m w handle live none found kept
