use Rattle.pcrlock_update.proofs.Refusals.{refused_only}
use Rattle.pcrlock_update.proofs.laws.changes_are_refused_only.Goals as goal

pub returns : goal.returns
returns c = refused_only
