use Rattle.pcrlock_line.proofs.Composed.{then_stops, stops, on_tpm, on_files}
use Rattle.pcrlock_update.proofs.Removed.{not_stored}
use Rattle.pcrlock_update.proofs.removing.remove_all.Goals as goal

pub returns-in-Err-remove_file-clause-causes : goal.returns-in-Err-remove_file-clause-causes
returns-in-Err-remove_file-clause-causes g c =
    let F = g.F.Files.faults in let T = g.T.Tpm.faults in
    then_stops (F c.args.files.now, 0, T c.args.tpm.now, 0) (F c.args.files.now, 0, T c.remove_stored.new.tpm, 0) (F c.remove_file.new.files, 0, T c.remove_stored.new.tpm, 0)
    c.remove_stored.result c.remove_file.result c.in-Err-remove_file.stop
    (on_tpm (F c.args.files.now) 0 0 (T c.args.tpm.now) (T c.remove_stored.new.tpm) c.remove_stored.result c.remove_stored.ensures.causes)
    (on_files 0 (T c.remove_stored.new.tpm) 0 (F c.args.files.now) (F c.remove_file.new.files) c.remove_file.result c.remove_file.ensures.causes)
    c.in-Err-remove_file.is

pub returns-in-Err-clause-causes : goal.returns-in-Err-clause-causes
returns-in-Err-clause-causes g c =
    let F = g.F.Files.faults in let T = g.T.Tpm.faults in
    stops (F c.args.files.now, 0, T c.args.tpm.now, 0) (F c.args.files.now, 0, T c.remove_stored.new.tpm, 0) c.remove_stored.result c.in-Err.stop
    (on_tpm (F c.args.files.now) 0 0 (T c.args.tpm.now) (T c.remove_stored.new.tpm) c.remove_stored.result c.remove_stored.ensures.causes) c.in-Err.is

pub returns-in-Err-clause-stops : goal.returns-in-Err-clause-stops
returns-in-Err-clause-stops g c = λ words m tells live.
    not_stored _ _ c.args.path.now c.args.policy.now m tells.files
    (c.in-Err.ensures.stops m.state (record { live = live; stored = tells.state }))
