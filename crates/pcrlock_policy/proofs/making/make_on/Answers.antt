use Rattle.std.proofs.Common.{sym, ap, option_copied, ◌∙◌}
use Rattle.pcrlock_line.proofs.Composed.{stops, on_tpm}
use Rattle.pcrlock_line.proofs.Devices.{stands}
use Rattle.pcrlock_line.specs.Machine.{machine}
use Rattle.pcrlock_line.specs.Running.{Runs}
use Rattle.pcrlock_policy.specs.MakePolicy.{force_line}
use Rattle.pcrlock_predict.specs.Inputs.{plain_inputs}
use Rattle.pcrlock_policy.specs.Asked.{asked_of, target_of}
use Rattle.pcrlock_policy.specs.Foreseen.{foreseen_on, seen}
use Rattle.pcrlock_policy.proofs.Forced.{force_first, safely_stands_as, safely_told_as}
use Rattle.pcrlock_policy.proofs.making.make_on.Goals as goal

pub returns-in-Err-clause-causes : goal.returns-in-Err-clause-causes
returns-in-Err-clause-causes g c =
    let F = g.F.Files.faults in let E = g.E.Entropy.faults in let T = g.T.Tpm.faults in
    stops (F c.args.files.now, E c.args.entropy.now, T c.args.tpm.now, 0) (F c.args.files.now, E c.args.entropy.now, T c.foresee.new.tpm, 0) c.foresee.result c.in-Err.stop
    (on_tpm (F c.args.files.now) (E c.args.entropy.now) 0 (T c.args.tpm.now) (T c.foresee.new.tpm) c.foresee.result c.foresee.ensures.causes) c.in-Err.is

pub returns-in-Err-clause-stops : goal.returns-in-Err-clause-stops
returns-in-Err-clause-stops g c = λ m tells live safe.
    force_first _ _ (target_of c.args.target.now) (option_copied c.args.found) (foreseen_on (asked_of c.args.asked.now) (plain_inputs c.args.inputs.now) m.state) m
    (stands _ _ (g.E.Entropy.draws c.args.entropy.now) (machine m)
    (record { files = tells.files; state = c.foresee.ensures.same m.state (record { live = live; stored = tells.state }); draws = tells.draws }))

pub returns-in-Ok-Ok-clause-told : goal.returns-in-Ok-Ok-clause-told
returns-in-Ok-Ok-clause-told g c = λ m tells live.
    let runs : Runs (g.T.Tpm.live c.args.tpm.now) (g.T.Tpm.stored c.args.tpm.now) m.state = record { live = live; stored = tells.state } in
    let now = c.in-Ok-Ok.ensures.runs m.state runs in
    safely_told_as c.put_in_force.result _ _ _ _ _
    (ap (λ foreseen. force_line (target_of c.args.target.now) (option_copied c.args.found) foreseen m) (sym (c.in-Ok-Ok.ensures.told m.state runs) ∙ ap seen c.in-Ok-Ok.field-0-is))
    (c.put_in_force.ensures.told m (record { files = tells.files; state = now.stored; draws = tells.draws }) now.live)

pub returns-in-Ok-Ok-clause-stops : goal.returns-in-Ok-Ok-clause-stops
returns-in-Ok-Ok-clause-stops g c = λ m tells live.
    let runs : Runs (g.T.Tpm.live c.args.tpm.now) (g.T.Tpm.stored c.args.tpm.now) m.state = record { live = live; stored = tells.state } in
    let now = c.in-Ok-Ok.ensures.runs m.state runs in
    safely_stands_as c.put_in_force.result _ _ _ _
    (ap (λ foreseen. force_line (target_of c.args.target.now) (option_copied c.args.found) foreseen m) (sym (c.in-Ok-Ok.ensures.told m.state runs) ∙ ap seen c.in-Ok-Ok.field-0-is))
    (c.put_in_force.ensures.stops m (record { files = tells.files; state = now.stored; draws = tells.draws }) now.live)
