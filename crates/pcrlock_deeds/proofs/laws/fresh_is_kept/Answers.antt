use Rattle.pcrlock_deeds.proofs.Tying.{fresh_kept}
use Rattle.pcrlock_deeds.proofs.laws.fresh_is_kept.Goals as goal

pub returns : goal.returns
returns c = λ policy banks held words some none. fresh_kept policy banks held words some none
