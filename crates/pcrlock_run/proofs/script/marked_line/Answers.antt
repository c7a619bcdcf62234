use Rattle.pcrlock_line.proofs.Composed.{then, stops}
use Rattle.pcrlock_run.proofs.Widened.{beside_out, beside_others}
use Rattle.pcrlock_run.specs.Setting.{setting_of}
use Rattle.pcrlock_run.specs.Script.{line}
use Rattle.pcrlock_run.proofs.Folds.{safe_marked}
use Rattle.pcrlock_run.proofs.Fronts.{err_as, line_changing, line_showing}
use Rattle.pcrlock_run.proofs.Marks.{marked_leaves, marked_stops, line_stops}
use Rattle.pcrlock_run.proofs.script.marked_line.Goals as goal

pub returns-in-Ok-clause-causes : goal.returns-in-Ok-clause-causes
returns-in-Ok-clause-causes g c = then _ _ _ c.line.result c.show_marked.result
    (beside_out _ _ _ _ _ _ _ c.line.result c.line.ensures.causes) (beside_others _ _ _ _ _ c.show_marked.result c.show_marked.ensures.causes)

pub returns-in-Ok-clause-told : goal.returns-in-Ok-clause-told
returns-in-Ok-clause-told g c = λ m tells safe.
    marked_leaves _ _ _ _ _ _ _ _ _ m (line (setting_of c.args.setting.now) c.args.words.now m) c.in-Ok.reply c.show_marked.result (c.in-Ok.ensures.told m tells (safe_marked m (line (setting_of c.args.setting.now) c.args.words.now m) safe)) c.show_marked.ensures.status c.show_marked.ensures.told c.show_marked.ensures.said

pub returns-in-Ok-clause-stops : goal.returns-in-Ok-clause-stops
returns-in-Ok-clause-stops g c = λ m tells safe.
    marked_stops _ _ _ m (line (setting_of c.args.setting.now) c.args.words.now m) c.in-Ok.reply c.show_marked.result (c.in-Ok.ensures.told m tells (safe_marked m (line (setting_of c.args.setting.now) c.args.words.now m) safe))

pub returns-in-Err-clause-causes : goal.returns-in-Err-clause-causes
returns-in-Err-clause-causes g c = stops _ _ c.line.result c.in-Err.stop (beside_out _ _ _ _ _ _ _ c.line.result c.line.ensures.causes) c.in-Err.is

pub returns-in-Err-clause-stops : goal.returns-in-Err-clause-stops
returns-in-Err-clause-stops g c = λ m tells safe. line_stops _ _ m (line (setting_of c.args.setting.now) c.args.words.now m)
    (c.in-Err.ensures.stops m tells (safe_marked m (line (setting_of c.args.setting.now) c.args.words.now m) safe))

pub returns-in-Ok-clause-halts : goal.returns-in-Ok-clause-halts
returns-in-Ok-clause-halts g c = λ m tells safe.
    err_as _ _ c.show_marked.result
    (λ h. line_showing _ _ _ _ _ _ _ _ _ _ _ c.in-Ok.reply (line (setting_of c.args.setting.now) c.args.words.now m)
    (c.in-Ok.ensures.told m tells (safe_marked m (line (setting_of c.args.setting.now) c.args.words.now m) safe)) h)
    c.show_marked.ensures.halts

pub returns-in-Err-clause-halts : goal.returns-in-Err-clause-halts
returns-in-Err-clause-halts g c = λ m tells safe. line_changing _ _ _ _ _ _ (line (setting_of c.args.setting.now) c.args.words.now m)
    (c.in-Err.ensures.stops m tells (safe_marked m (line (setting_of c.args.setting.now) c.args.words.now m) safe))
