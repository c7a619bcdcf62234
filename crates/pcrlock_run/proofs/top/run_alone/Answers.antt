use Rattle.pcrlock_line.proofs.Composed.{then, stops}
use Rattle.pcrlock_run.proofs.Widened.{beside_out, beside_others, no_fault}
use Rattle.std.proofs.Common.{◌≡◌}
use Rattle.pcrlock_line.specs.declared.stop.Stop.{Stop}
use Rattle.pcrlock_run.specs.Status.{stop_number}
use Rattle.pcrlock_run.specs.Setting.{setting_of}
use Rattle.pcrlock_run.specs.Script.{command_line}
use Rattle.pcrlock_run.proofs.Marks.{alone_leaves, alone_stops, alone_done, done_stops}
use Rattle.pcrlock_run.proofs.Acts.{command_last}
use Rattle.pcrlock_run.proofs.Fronts.{command_changing, command_writing, err_as}
use Rattle.pcrlock_run.proofs.top.run_alone.Goals as goal

pub returns-in-Ok-clause-causes : goal.returns-in-Ok-clause-causes
returns-in-Ok-clause-causes g c = then _ _ _ c.command.result c.show_alone.result
    (beside_out _ _ _ _ _ _ _ c.command.result c.command.ensures.causes) (beside_others _ _ _ _ _ c.show_alone.result c.show_alone.ensures.causes)

pub returns-in-Ok-clause-told : goal.returns-in-Ok-clause-told
returns-in-Ok-clause-told g c = λ m tells safe.
    alone_leaves _ _ _ _ _ _ _ _ _ (command_line (setting_of c.args.setting.now) c.args.request.now m) c.in-Ok.reply c.show_alone.result (c.in-Ok.ensures.told m tells safe) c.show_alone.ensures.status c.show_alone.ensures.told c.show_alone.ensures.said

pub returns-in-Ok-clause-stops : goal.returns-in-Ok-clause-stops
returns-in-Ok-clause-stops g c = λ m tells safe.
    alone_stops _ _ (command_line (setting_of c.args.setting.now) c.args.request.now m) c.show_alone.result (command_last _ _ (setting_of c.args.setting.now) c.args.request.now m c.requires (alone_done _ _ _ (command_line (setting_of c.args.setting.now) c.args.request.now m) c.in-Ok.reply (c.in-Ok.ensures.told m tells safe)))

pub returns-in-Ok-clause-done : goal.returns-in-Ok-clause-done
returns-in-Ok-clause-done g c = λ m tells safe.
    done_stops _ _ _ (command_line (setting_of c.args.setting.now) c.args.request.now m) c.in-Ok.reply c.show_alone.result _ _ _ (λ (stop : Stop). stop_number stop ≡ 5) (c.in-Ok.ensures.told m tells safe)

pub returns-in-Err-clause-causes : goal.returns-in-Err-clause-causes
returns-in-Err-clause-causes g c = stops _ _ c.command.result c.in-Err.stop (beside_out _ _ _ _ _ _ _ c.command.result c.command.ensures.causes) c.in-Err.is

pub returns-in-Err-clause-done : goal.returns-in-Err-clause-done
returns-in-Err-clause-done g c = λ m tells safe five files entropy tpm.
    absurd (no_fault (g.F.Files.faults c.args.files.now, g.E.Entropy.faults c.args.entropy.now, g.T.Tpm.faults c.args.tpm.now, 0) (g.F.Files.faults c.command.new.files, g.E.Entropy.faults c.command.new.entropy, g.T.Tpm.faults c.command.new.tpm, 0) c.command.result c.in-Err.stop c.command.ensures.causes c.in-Err.is five files entropy tpm)

pub returns-in-Ok-clause-halts : goal.returns-in-Ok-clause-halts
returns-in-Ok-clause-halts g c = λ m tells safe.
    err_as _ _ c.show_alone.result
    (λ h. command_writing _ _ _ _ _ _ _ _ _ _ _ c.in-Ok.reply (command_line (setting_of c.args.setting.now) c.args.request.now m) (c.in-Ok.ensures.told m tells safe) h)
    c.show_alone.ensures.halts

pub returns-in-Err-clause-halts : goal.returns-in-Err-clause-halts
returns-in-Err-clause-halts g c = λ m tells safe. command_changing _ _ _ _ _ _ (command_line (setting_of c.args.setting.now) c.args.request.now m) (c.in-Err.ensures.stops m tells safe)
