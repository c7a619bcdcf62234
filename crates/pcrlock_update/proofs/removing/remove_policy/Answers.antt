use Rattle.std.proofs.Common.{◌≡◌, sym, ap, ◌∙◌}
use Rattle.std.specs.Prelude.{Some, Ok}
use Rattle.pcrlock_line.proofs.Composed.{then_stops, stops, on_files}
use Rattle.pcrlock_deeds.specs.PolicyAt.{policy_of}
use Rattle.pcrlock_update.proofs.Removed.{told_read, stops_read}
use Rattle.pcrlock_update.proofs.removing.remove_policy.Goals as goal

pub returns-in-Ok-clause-told : goal.returns-in-Ok-clause-told
returns-in-Ok-clause-told g c = λ words m tells.
    let read : policy_of m.files c.args.path.now ≡ Ok (Some c.in-Ok-Ok-Some.policy) =
    sym (c.in-Ok-Ok-Some.ensures.told m.files tells.files) ∙ c.in-Ok-Ok-Some.field-0-is ∙ ap Ok c.in-Ok-Ok-Some.field-0-0-is in
    told_read _ _ words c.args.state.now c.args.path.now c.in-Ok-Ok-Some.policy m c.in-Ok.reply read
    (c.in-Ok.ensures.told words m
    (record { files = c.policy_at.ensures.same ∙ tells.files; state = tells.state; draws = tells.draws }))

pub returns-in-Ok-Ok-Some-clause-causes : goal.returns-in-Ok-Ok-Some-clause-causes
returns-in-Ok-Ok-Some-clause-causes g c =
    let F = g.F.Files.faults in let T = g.T.Tpm.faults in
    then_stops (F c.args.files.now, 0, T c.args.tpm.now, 0) (F c.policy_at.new.files, 0, T c.args.tpm.now, 0) (F c.remove_read.new.files, 0, T c.remove_read.new.tpm, 0)
    c.policy_at.result c.remove_read.result c.in-Err-remove_read.stop
    (on_files 0 (T c.args.tpm.now) 0 (F c.args.files.now) (F c.policy_at.new.files) c.policy_at.result c.policy_at.ensures.causes)
    c.remove_read.ensures.causes c.in-Err-remove_read.is

pub returns-in-Ok-Ok-Some-clause-stops : goal.returns-in-Ok-Ok-Some-clause-stops
returns-in-Ok-Ok-Some-clause-stops g c = λ words m tells.
    let read : policy_of m.files c.args.path.now ≡ Ok (Some c.in-Ok-Ok-Some.policy) =
    sym (c.in-Ok-Ok-Some.ensures.told m.files tells.files) ∙ c.in-Ok-Ok-Some.field-0-is ∙ ap Ok c.in-Ok-Ok-Some.field-0-0-is in
    stops_read _ _ c.args.state.now c.args.path.now c.in-Ok-Ok-Some.policy m read
    (c.in-Err-remove_read.ensures.stops words m
    (record { files = c.policy_at.ensures.same ∙ tells.files; state = tells.state; draws = tells.draws }))

pub returns-clause-causes : goal.returns-clause-causes
returns-clause-causes g c =
    let F = g.F.Files.faults in let T = g.T.Tpm.faults in
    stops (F c.args.files.now, 0, T c.args.tpm.now, 0) (F c.policy_at.new.files, 0, T c.args.tpm.now, 0) c.policy_at.result c.in-Err.stop
    (on_files 0 (T c.args.tpm.now) 0 (F c.args.files.now) (F c.policy_at.new.files) c.policy_at.result c.policy_at.ensures.causes) c.in-Err.is
