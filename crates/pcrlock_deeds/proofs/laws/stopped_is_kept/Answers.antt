use Rattle.pcrlock_deeds.proofs.Resuming.{stands_kept}
use Rattle.pcrlock_deeds.proofs.laws.stopped_is_kept.Goals as goal

pub returns : goal.returns
returns c = λ policy held kept stages tied. stands_kept policy held kept stages tied
