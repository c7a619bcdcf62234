use Rattle.std.proofs.Common.{ap, ◌∙◌}
use Rattle.pcrlock_line.specs.PcrAnswer.{reading_of}
use Rattle.pcrlock_line.specs.Running.{Runs}
use Rattle.pcrlock_line.proofs.Composed.{if_ok, without_fault}
use Rattle.pcrlock_line.proofs.PcrReads.{read_tells, runs_on, stopped, told_by}
use Rattle.pcrlock_line.proofs.pcr.present_value.Goals as goal

pub returns-in-Ok-clause-causes : goal.returns-in-Ok-clause-causes
returns-in-Ok-clause-causes g c =
    without_fault (0, 0, g.T.Tpm.faults c.args.tpm.now, 0) (0, 0, g.T.Tpm.faults c.ask.new.tpm, 0) c.ask.result c.reading.result c.ask.ensures.causes c.reading.ensures.cause

pub returns-in-Ok-clause-told : goal.returns-in-Ok-clause-told
returns-in-Ok-clause-told g c = λ s runs.
    let told = c.in-Ok.ensures.told s runs.live runs.stored in
    told_by c.reading.result _ _ (c.reading.ensures.value ∙ ap (reading_of c.args.bank) told.answer) (read_tells c.args.bank c.args.pcr s c.requires.number (c.in-Ok.ensures.rules s runs.live))

pub returns-in-Ok-clause-runs : goal.returns-in-Ok-clause-runs
returns-in-Ok-clause-runs g c = λ s runs.
    let told = c.in-Ok.ensures.told s runs.live runs.stored in
    if_ok (Runs (g.T.Tpm.live c.ask.new.tpm) (g.T.Tpm.stored c.ask.new.tpm) s) c.reading.result
    (runs_on _ _ c.args.bank c.args.pcr s c.requires.number told.live told.stored)

pub returns-in-Ok-clause-same : goal.returns-in-Ok-clause-same
returns-in-Ok-clause-same g c = λ s runs.
    let told = c.in-Ok.ensures.told s runs.live runs.stored in
    (runs_on _ _ c.args.bank c.args.pcr s c.requires.number told.live told.stored).stored

pub returns-in-Err-clause-same : goal.returns-in-Err-clause-same
returns-in-Err-clause-same g c = λ s runs.
    stopped c.args.bank c.args.pcr s _ c.requires.number (c.in-Err.ensures.stops s runs.live runs.stored)
