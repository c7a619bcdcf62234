use Rattle.std.proofs.Common.{[], ◌∷◌, subst, sym}
use Rattle.pcrlock_line.proofs.Composed.{stops, on_tpm, on_files}
use Rattle.pcrlock_update.specs.Changes.{CameTo, changes_made}
use Rattle.pcrlock_update.specs.declared.change.Change.{Change}
use Rattle.pcrlock_update.proofs.Lists.{sent_came}
use Rattle.pcrlock_update.proofs.changing.perform.Goals as goal

pub returns-in-Tpm-clause-causes : goal.returns-in-Tpm-clause-causes
returns-in-Tpm-clause-causes g c =
    let F = g.F.Files.faults in let T = g.T.Tpm.faults in
    on_tpm (F c.args.files.now) 0 0 (T c.args.tpm.now) (T c.send.new.tpm) c.send.result c.send.ensures.causes

pub returns-in-Err-clause-causes : goal.returns-in-Err-clause-causes
returns-in-Err-clause-causes g c =
    let F = g.F.Files.faults in let T = g.T.Tpm.faults in
    stops (F c.args.files.now, 0, T c.args.tpm.now, 0) (F c.replace_file.new.files, 0, T c.args.tpm.now, 0) c.replace_file.result c.in-Err.stop
    (on_files 0 (T c.args.tpm.now) 0 (F c.args.files.now) (F c.replace_file.new.files) c.replace_file.result c.replace_file.ensures.causes) c.in-Err.is

pub returns-in-Tpm-clause-made : goal.returns-in-Tpm-clause-made
returns-in-Tpm-clause-made g c = λ m works.
    subst (λ (x : Change). CameTo c.send.result (g.F.Files.held c.args.files.now) (g.T.Tpm.live c.send.new.tpm) (g.T.Tpm.stored c.send.new.tpm) (changes_made c.args.path.now (x ∷ []) m))
    (sym c.in-Tpm.is)
    (sent_came c.send.result _ _ _ c.args.path.now c.in-Tpm.change m works.files (c.send.ensures.sent m.state (record { live = works.live; stored = works.stored })))
