use Rattle.pcrlock_headline.proofs.Only.{line_only}
use Rattle.pcrlock_headline.proofs.laws.unseal_is_only_where_unlocked.Goals as goal

pub returns : goal.returns
returns c = λ m w state token policy handle bound text orderly own clean safe are have names found e.
    line_only m w orderly own clean handle bound found state token policy are have names safe text e
