use Rattle.std.proofs.Common.{refl}
use Rattle.pcr_replay.specs.Row.{rows}
use Rattle.pcrlock_tpm.specs.Boot.{restarted, IsPartWay}
use Rattle.pcrlock_line.specs.Running.{Keeps}
use Rattle.pcrlock_tpm.proofs.Boots.{stops_later}
use Rattle.pcrlock_tpm.proofs.boot.restart_and_extend.Goals as goal

pub returns-in-Ok-clause-stops : goal.returns-in-Ok-clause-stops
returns-in-Ok-clause-stops g c = λ s runs.
    stops_later (Keeps (g.T.Tpm.stored c.extend_all.new.tpm) s) (IsPartWay (g.T.Tpm.stored c.extend_all.new.tpm) (rows c.args.list.now) (restarted c.args.locality c.args.banks s))
    c.extend_all.result (c.extend_all.ensures.stops (restarted c.args.locality c.args.banks s) (c.in-Ok.ensures.told s runs) refl)
