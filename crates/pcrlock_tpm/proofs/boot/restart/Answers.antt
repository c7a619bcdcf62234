use Rattle.std.proofs.Common.{ap}
use Rattle.std.specs.Prelude.{◌≡◌}
use Rattle.tpm_model.specs.PcrCommands.{restart}
use Rattle.pcrlock_tpm.specs.Boot.{restarted}
use Rattle.pcrlock_tpm.proofs.Boots.{restart_is, runs_on, stopped_at}
use Rattle.pcrlock_tpm.proofs.boot.restart.Goals as goal

pub returns-in-Ok-clause-told : goal.returns-in-Ok-clause-told
returns-in-Ok-clause-told g c = λ s runs.
    let told = c.in-Ok.ensures.told s runs.live runs.stored in
    runs_on (g.T.Tpm.live c.ask.new.tpm) (g.T.Tpm.stored c.ask.new.tpm) (restart c.args.locality c.args.banks s).1 (restarted c.args.locality c.args.banks s)
    told.live told.stored (ap (λ x. x.1) (restart_is c.args.locality c.args.banks s c.requires.locality c.requires.banks))

pub returns-in-Err-clause-stops : goal.returns-in-Err-clause-stops
returns-in-Err-clause-stops g c = λ s runs.
    let is : (restart c.args.locality c.args.banks s).1 ≡ restarted c.args.locality c.args.banks s = ap (λ x. x.1) (restart_is c.args.locality c.args.banks s c.requires.locality c.requires.banks) in
    stopped_at (g.T.Tpm.stored c.ask.new.tpm) s (restart c.args.locality c.args.banks s).1 (restarted c.args.locality c.args.banks s)
    (c.in-Err.ensures.stops s runs.live runs.stored) is
