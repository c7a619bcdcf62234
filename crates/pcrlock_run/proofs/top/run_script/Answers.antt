use Rattle.std.proofs.Common.{◌∙◌, sym, ap}
use Rattle.std.specs.Prelude.{Ok, IfOk, IfErr}
use Rattle.pcrlock_line.specs.Stopped.{StandsAmong}
use Rattle.pcrlock_line.proofs.Composed.{stops}
use Rattle.pcrlock_line.proofs.Devices.{stands}
use Rattle.pcrlock_run.specs.declared.status.Status.{Status}
use Rattle.pcrlock_run.specs.Status.{number_of}
use Rattle.pcrlock_run.specs.Setting.{setting_of}
use Rattle.pcrlock_run.specs.Script.{Whole}
use Rattle.pcrlock_run.specs.ScriptText.{text_read}
use Rattle.pcrlock_run.specs.Leaves.{Leaves}
use Rattle.pcrlock_run.proofs.Widened.{beside_files}
use Rattle.pcrlock_run.proofs.Firsts.{script_first}
use Rattle.pcrlock_run.proofs.Texts.{by_equal, script_as}
use Rattle.pcrlock_run.specs.Leaves.{Safe}
use Rattle.pcrlock_run.specs.ScriptText.{script_text}
use Rattle.pcrlock_run.specs.Worlds.{lines_read}
use Rattle.pcrlock_run.proofs.Fronts.{err_as}
use Rattle.pcrlock_run.proofs.Halts.{read_halts, unread_halts, unspoken_halts}
use Rattle.std.proofs.Common.{subst}
use Rattle.pcrlock_run.proofs.top.run_script.Goals as goal

pub returns-in-Err-clause-causes : goal.returns-in-Err-clause-causes
returns-in-Err-clause-causes g c = stops _ _ c.read_script.result c.in-Err.stop (beside_files _ _ _ _ _ c.read_script.result c.read_script.ensures.causes) c.in-Err.is

pub returns-in-Err-clause-stops : goal.returns-in-Err-clause-stops
returns-in-Err-clause-stops g c = λ m tells safe.
    script_first _ _ (setting_of c.args.setting.now) c.args.file.now m
    (stands _ _ _ m (record { files = c.read_script.ensures.same ∙ tells.files; state = tells.state; draws = tells.draws }))

pub returns-in-Ok-Ok-clause-told : goal.returns-in-Ok-Ok-clause-told
returns-in-Ok-Ok-clause-told g c = λ m tells.
    by_equal _ _
    (λ (w : Whole). IfOk c.script.result (λ (s : Status). Leaves (g.F.Files.held c.script.new.files) (g.T.Tpm.stored c.script.new.tpm) (g.E.Entropy.draws c.script.new.entropy) (g.O.Sink.written c.args.out.now) (g.O.Sink.written c.script.new.out) (g.R.Sink.faults c.args.err.now) (g.R.Sink.written c.args.err.now) (g.R.Sink.faults c.script.new.err) (g.R.Sink.written c.script.new.err) (number_of s) w))
    (script_as (setting_of c.args.setting.now) c.args.file.now c.as_str.result.now m (text_read c.in-Ok-Ok.field-0) (c.in-Ok-Ok.ensures.told m.files tells.files) (ap text_read c.in-Ok-Ok.field-0-is ∙ ap Ok (sym c.as_str.ensures.value)))
    (λ free. c.script.ensures.told m (record { files = c.read_script.ensures.same ∙ tells.files; state = tells.state; draws = tells.draws }) free)

pub returns-in-Ok-Ok-clause-stops : goal.returns-in-Ok-Ok-clause-stops
returns-in-Ok-Ok-clause-stops g c = λ m tells.
    by_equal _ _
    (λ (w : Whole). IfErr c.script.result (λ _. StandsAmong (g.F.Files.held c.script.new.files) (g.T.Tpm.stored c.script.new.tpm) w.stops))
    (script_as (setting_of c.args.setting.now) c.args.file.now c.as_str.result.now m (text_read c.in-Ok-Ok.field-0) (c.in-Ok-Ok.ensures.told m.files tells.files) (ap text_read c.in-Ok-Ok.field-0-is ∙ ap Ok (sym c.as_str.ensures.value)))
    (λ free. c.script.ensures.stops m (record { files = c.read_script.ensures.same ∙ tells.files; state = tells.state; draws = tells.draws }) free)

pub returns-in-Ok-Ok-clause-halts : goal.returns-in-Ok-Ok-clause-halts
returns-in-Ok-Ok-clause-halts g c = λ m tells safe.
    err_as _ _ c.script.result
    (read_halts _ _ _ _ _ _ _ _ _ _ (setting_of c.args.setting.now) c.args.file.now c.as_str.result.now m (text_read c.in-Ok-Ok.field-0) (c.in-Ok-Ok.ensures.told m.files tells.files) (ap text_read c.in-Ok-Ok.field-0-is ∙ ap Ok (sym c.as_str.ensures.value)))
    (c.script.ensures.halts m (record { files = c.read_script.ensures.same ∙ tells.files; state = tells.state; draws = tells.draws })
    (subst (λ (w : Whole). Safe w.hashed)
    (script_as (setting_of c.args.setting.now) c.args.file.now c.as_str.result.now m (text_read c.in-Ok-Ok.field-0) (c.in-Ok-Ok.ensures.told m.files tells.files) (ap text_read c.in-Ok-Ok.field-0-is ∙ ap Ok (sym c.as_str.ensures.value))) safe))

pub returns-in-Ok-Err-clause-halts : goal.returns-in-Ok-Err-clause-halts
returns-in-Ok-Err-clause-halts g c = λ m tells safe.
    err_as _ _ c.refuse.result
    (unspoken_halts _ _ _ _ _ _ _ _ _ (setting_of c.args.setting.now) (lines_read (script_text m.files c.args.file.now)) m (record { files = c.read_script.ensures.same ∙ tells.files; state = tells.state; draws = tells.draws }))
    c.refuse.ensures.unsaid

pub returns-in-Err-clause-halts : goal.returns-in-Err-clause-halts
returns-in-Err-clause-halts g c = λ m tells safe.
    unread_halts _ _ _ _ _ _ _ (setting_of c.args.setting.now) (lines_read (script_text m.files c.args.file.now)) m (record { files = c.read_script.ensures.same ∙ tells.files; state = tells.state; draws = tells.draws })
