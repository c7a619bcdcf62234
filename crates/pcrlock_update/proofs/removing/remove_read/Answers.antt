use Rattle.pcrlock_line.proofs.Composed.{stops, on_tpm}
use Rattle.std.proofs.Common.{sym, ap, ◌∙◌}
use Rattle.std.specs.Prelude.{Some, IfOk, IfErr}
use Rattle.pcrlock_line.specs.declared.reply.Reply.{Reply}
use Rattle.pcrlock_line.specs.Outcome.{Outcome, Gives}
use Rattle.pcrlock_line.specs.Stopped.{StandsAmong}
use Rattle.pcrlock_line.proofs.Devices.{begun_by, tells_begun, kept_tells, gives_refused}
use Rattle.pcrlock_update.specs.RemovePolicy.{removed_line}
use Rattle.pcrlock_update.proofs.removing.remove_read.Goals as goal

pub returns-in-Err-clause-causes : goal.returns-in-Err-clause-causes
returns-in-Err-clause-causes g c =
    let F = g.F.Files.faults in let T = g.T.Tpm.faults in
    stops (F c.args.files.now, 0, T c.args.tpm.now, 0) (F c.args.files.now, 0, T c.ready.new.tpm, 0) c.ready.result c.in-Err.stop
    (on_tpm (F c.args.files.now) 0 0 (T c.args.tpm.now) (T c.ready.new.tpm) c.ready.result c.ready.ensures.causes) c.in-Err.is

pub returns-in-Ok-None-clause-told : goal.returns-in-Ok-None-clause-told
returns-in-Ok-None-clause-told g c = λ words m tells.
    begun_by m.device c.args.state.now m (removed_line c.args.path.now c.args.policy.now)
    (λ (o : Outcome). IfOk c.remove_all.result (λ (r : Reply). Gives (g.F.Files.held c.remove_all.new.files) (g.T.Tpm.stored c.remove_all.new.tpm) words r o))
    (sym c.in-Ok-None.field-0-is ∙ c.in-Ok-None.ensures.told m.device tells.state)
    (λ s e. c.remove_all.ensures.told words (record { files = m.files; state = s; draws = m.draws })
    (tells_begun _ _ _ _ m s c.ready.ensures.same e tells) (c.in-Ok-None.ensures.live s (tells.state ∙ ap Some e)).live_is)

pub returns-in-Ok-None-clause-stops : goal.returns-in-Ok-None-clause-stops
returns-in-Ok-None-clause-stops g c = λ words m tells.
    begun_by m.device c.args.state.now m (removed_line c.args.path.now c.args.policy.now)
    (λ (o : Outcome). IfErr c.remove_all.result (λ _. StandsAmong (g.F.Files.held c.remove_all.new.files) (g.T.Tpm.stored c.remove_all.new.tpm) o.stops))
    (sym c.in-Ok-None.field-0-is ∙ c.in-Ok-None.ensures.told m.device tells.state)
    (λ s e. c.remove_all.ensures.stops words (record { files = m.files; state = s; draws = m.draws })
    (tells_begun _ _ _ _ m s c.ready.ensures.same e tells) (c.in-Ok-None.ensures.live s (tells.state ∙ ap Some e)).live_is)

pub returns-in-Ok-Some-clause-told : goal.returns-in-Ok-Some-clause-told
returns-in-Ok-Some-clause-told g c = λ words m tells.
    gives_refused _ _ _ c.args.state.now m (removed_line c.args.path.now c.args.policy.now) c.in-Ok-Some.answer
    (sym c.in-Ok-Some.field-0-is ∙ c.in-Ok-Some.ensures.told m.device tells.state) (kept_tells _ _ _ _ m c.ready.ensures.same tells)
