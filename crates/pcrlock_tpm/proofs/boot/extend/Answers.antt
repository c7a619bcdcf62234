use Rattle.std.proofs.Common.{ap, ◌∙◌}
use Rattle.std.specs.Prelude.{◌≡◌}
use Rattle.pcr_replay.specs.Row.{row}
use Rattle.tpm_model.specs.PcrCommands.{pcr_extend}
use Rattle.pcrlock_tpm.specs.Boot.{measured_row}
use Rattle.pcrlock_tpm.specs.Extend.{is_extended}
use Rattle.pcrlock_tpm.proofs.Boots.{extend_is, runs_on, stopped_at}
use Rattle.pcrlock_tpm.proofs.boot.extend.Goals as goal

pub returns-in-Ok-clause-told : goal.returns-in-Ok-clause-told
returns-in-Ok-clause-told g c = λ s runs free.
    let r = c.args.«record».now in
    let told = c.in-Ok.ensures.told s runs.live runs.stored in
    let is = extend_is r s free in (
      c.is_done.ensures ∙ ap is_extended (told.answer ∙ ap (λ x. x.0) is),
      runs_on (g.T.Tpm.live c.ask.new.tpm) (g.T.Tpm.stored c.ask.new.tpm) (pcr_extend r.pcr r.digests s).1 (measured_row s (row r))
          told.live told.stored (ap (λ x. x.1) is),
    )

pub returns-in-Err-clause-stops : goal.returns-in-Err-clause-stops
returns-in-Err-clause-stops g c = λ s runs free.
    let r = c.args.«record».now in
    let is : (pcr_extend r.pcr r.digests s).1 ≡ measured_row s (row r) = ap (λ x. x.1) (extend_is r s free) in
    stopped_at (g.T.Tpm.stored c.ask.new.tpm) s (pcr_extend r.pcr r.digests s).1 (measured_row s (row r))
    (c.in-Err.ensures.stops s runs.live runs.stored) is
