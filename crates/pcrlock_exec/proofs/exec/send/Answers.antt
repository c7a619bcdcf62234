use Rattle.tpm_model.specs.Respond.{respond}
use Rattle.tpm_commands.specs.Responses.{response_text}
use Rattle.pcrlock_line.specs.Running.{Keeps, Runs}
use Rattle.pcrlock_exec.proofs.Steps.{kept_next, runs_on, stopped_at, told_causes, told_line}
use Rattle.pcrlock_exec.proofs.exec.send.Goals as goal

pub returns-in-Ok-clause-causes : goal.returns-in-Ok-clause-causes
returns-in-Ok-clause-causes g c =
    told_causes (g.T.Tpm.faults c.args.tpm.now) (g.T.Tpm.faults c.ask.new.tpm) c.ask.result c.tell.result c.ask.ensures.causes c.tell.ensures.memory

pub returns-in-Ok-clause-told : goal.returns-in-Ok-clause-told
returns-in-Ok-clause-told g c = λ s runs.
    let told = c.in-Ok.ensures.told s runs.live runs.stored in
    told_line (Runs (g.T.Tpm.live c.ask.new.tpm) (g.T.Tpm.stored c.ask.new.tpm) (respond c.args.command.now s).1) c.tell.result response_text
    c.tell.new.text.items c.args.text.now.items c.in-Ok.response (respond c.args.command.now s).0
    (runs_on (g.T.Tpm.live c.ask.new.tpm) (g.T.Tpm.stored c.ask.new.tpm) c.args.command.now s c.in-Ok.response (g.T.Tpm.ready c.ask.new.tpm) told)
    told.answer c.tell.ensures.told

pub returns-in-Ok-clause-stops : goal.returns-in-Ok-clause-stops
returns-in-Ok-clause-stops g c = λ s runs.
    let told = c.in-Ok.ensures.told s runs.live runs.stored in
    let on = runs_on (g.T.Tpm.live c.ask.new.tpm) (g.T.Tpm.stored c.ask.new.tpm) c.args.command.now s c.in-Ok.response (g.T.Tpm.ready c.ask.new.tpm) told in
    kept_next (Keeps (g.T.Tpm.stored c.ask.new.tpm) s) (Keeps (g.T.Tpm.stored c.ask.new.tpm) (respond c.args.command.now s).1) c.tell.result
    (record { stored = on.stored })

pub returns-in-Err-clause-stops : goal.returns-in-Err-clause-stops
returns-in-Err-clause-stops g c = λ s runs.
    stopped_at (g.T.Tpm.stored c.ask.new.tpm) c.args.command.now s (c.in-Err.ensures.stops s runs.live runs.stored)
