use Rattle.std.proofs.Common.{◌∙◌, [], ◌∷◌, ap, subst, sym}
use Rattle.std.specs.Prelude.{IfOk, IfErr}
use Rattle.pcrlock_line.specs.Stopped.{StandsAmong}
use Rattle.pcrlock_run.specs.declared.status.Status.{Status}
use Rattle.pcrlock_run.specs.Status.{number_of}
use Rattle.pcrlock_run.specs.Lines.{is_passed_over, lines_among}
use Rattle.pcrlock_run.specs.Setting.{setting_of}
use Rattle.pcrlock_run.specs.Script.{Whole}
use Rattle.pcrlock_run.specs.Leaves.{Leaves, Safe}
use Rattle.pcrlock_run.proofs.Fronts.{err_as}
use Rattle.pcrlock_run.proofs.Halts.{one_halts, unread_halts}
use Rattle.pcrlock_run.proofs.Texts.{by_equal, one_line}
use Rattle.pcrlock_run.proofs.script.step.Goals as goal

pub returns-clause-told : goal.returns-clause-told
returns-clause-told g c = λ m tells.
    by_equal _ _
    (λ (w : Whole). IfOk c.marked_line.result (λ (s : Status). Leaves (g.F.Files.held c.marked_line.new.files) (g.T.Tpm.stored c.marked_line.new.tpm) (g.E.Entropy.draws c.marked_line.new.entropy) (g.O.Sink.written c.args.out.now) (g.O.Sink.written c.marked_line.new.out) (g.R.Sink.faults c.args.err.now) (g.R.Sink.written c.args.err.now) (g.R.Sink.faults c.marked_line.new.err) (g.R.Sink.written c.marked_line.new.err) (number_of s) w))
    (one_line (setting_of c.args.setting.now) c.args.text.now c.as_slice-2.result.now (number_of c.args.status) m (c.as_slice-2.ensures ∙ c.in-Ok.ensures)
    (ap is_passed_over (c.as_slice-2.ensures ∙ sym c.as_slice.ensures) ∙ sym c.is_passed_over.ensures ∙ c.if-is_passed_over.false))
    (λ free. c.marked_line.ensures.told m tells free)

pub returns-clause-stops : goal.returns-clause-stops
returns-clause-stops g c = λ m tells.
    by_equal _ _
    (λ (w : Whole). IfErr c.marked_line.result (λ _. StandsAmong (g.F.Files.held c.marked_line.new.files) (g.T.Tpm.stored c.marked_line.new.tpm) w.stops))
    (one_line (setting_of c.args.setting.now) c.args.text.now c.as_slice-2.result.now (number_of c.args.status) m (c.as_slice-2.ensures ∙ c.in-Ok.ensures)
    (ap is_passed_over (c.as_slice-2.ensures ∙ sym c.as_slice.ensures) ∙ sym c.is_passed_over.ensures ∙ c.if-is_passed_over.false))
    (λ free. c.marked_line.ensures.stops m tells free)

pub returns-clause-halts : goal.returns-clause-halts
returns-clause-halts g c = λ m tells safe.
    err_as _ _ c.marked_line.result
    (one_halts _ _ _ _ _ _ _ _ _ _ (setting_of c.args.setting.now) c.args.text.now c.as_slice-2.result.now m (c.as_slice-2.ensures ∙ c.in-Ok.ensures)
    (ap is_passed_over (c.as_slice-2.ensures ∙ sym c.as_slice.ensures) ∙ sym c.is_passed_over.ensures ∙ c.if-is_passed_over.false))
    (c.marked_line.ensures.halts m tells
    (subst (λ (w : Whole). Safe w.hashed)
    (one_line (setting_of c.args.setting.now) c.args.text.now c.as_slice-2.result.now (number_of c.args.status) m (c.as_slice-2.ensures ∙ c.in-Ok.ensures)
    (ap is_passed_over (c.as_slice-2.ensures ∙ sym c.as_slice.ensures) ∙ sym c.is_passed_over.ensures ∙ c.if-is_passed_over.false)) safe))

pub returns-in_default-clause-halts : goal.returns-in_default-clause-halts
returns-in_default-clause-halts g c = λ m tells safe. unread_halts _ _ _ _ _ _ _ (setting_of c.args.setting.now) (lines_among (c.args.text.now ∷ [])) m tells
