use Rattle.std.proofs.Common.{subst, sym}
use Rattle.pcrlock_input.specs.Logs.{IsLocality}
use Rattle.pcrlock_input.proofs.Localities.{of_log}
use Rattle.pcrlock_input.proofs.logs.Logs.locality.Goals as goal

pub returns-clause-known : goal.returns-clause-known
returns-clause-known c = subst IsLocality (sym c.announced.ensures) (of_log c.args.self.now.firmware)
