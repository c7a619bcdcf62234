use Rattle.pcrlock_open.proofs.Stops.{kept_after, stops_so}
use Rattle.pcrlock_open.proofs.opening.open_on.Goals as goal

pub returns-clause-stops : goal.returns-clause-stops
returns-clause-stops g c = λ s live stored.
    stops_so s c.reply_to.result _ (kept_after s c.unseal_literal-opened.result _
    (c.unseal_literal-opened.ensures.rules s live) (c.unseal_literal-opened.ensures.stored s live stored))
