use Rattle.std.proofs.Common.{◌≡◌, rules}
use Rattle.std.specs.Prelude.{Ok}
use Rattle.pcrlock_open.proofs.BoundGives.{ended}
use Rattle.pcrlock_open.proofs.Stops.{stops_so}
use Rattle.pcrlock_open.proofs.bound.open_printed.Goals as goal

pub returns-in-Ok-clause-told : goal.returns-in-Ok-clause-told
returns-in-Ok-clause-told g c = λ s live stored safe.
    let was : c.open_secret.result ≡ Ok c.in-Ok.opened = search rules in
    ended c.open_secret.result c.secret_reply.result _ _ c.in-Ok.opened _ _ _ was (c.open_secret.ensures.told s live stored safe) c.secret_reply.ensures.told

pub returns-in-Ok-clause-stops : goal.returns-in-Ok-clause-stops
returns-in-Ok-clause-stops g c = λ s live stored.
    stops_so s c.secret_reply.result _ (c.open_secret.ensures.kept s live stored)
