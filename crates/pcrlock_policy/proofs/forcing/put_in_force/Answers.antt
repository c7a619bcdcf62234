use Rattle.std.proofs.Common.{sym, ap, option_copied, ◌∙◌}
use Rattle.std.specs.Prelude.{Ok}
use Rattle.pcrlock_line.proofs.Composed.{then, stops, on_files_tpm, on_tpm}
use Rattle.pcrlock_line.specs.Running.{Runs}
use Rattle.pcrlock_policy.specs.Asked.{target_of}
use Rattle.pcrlock_policy.specs.Foreseen.{foreseen_of}
use Rattle.pcrlock_policy.specs.IndexState.{index_state}
use Rattle.pcrlock_policy.specs.MakePolicy.{index_line}
use Rattle.pcrlock_policy.proofs.Forced.{force_first, kept_at, safely_stands_as, safely_told_as, stands_as, told_as}
use Rattle.pcrlock_policy.proofs.forcing.put_in_force.Goals as goal

pub returns-in-Ok-Written-clause-causes : goal.returns-in-Ok-Written-clause-causes
returns-in-Ok-Written-clause-causes g c =
    let F = g.F.Files.faults in let E = g.E.Entropy.faults in let T = g.T.Tpm.faults in
    then (F c.args.files.now, E c.args.entropy.now, T c.args.tpm.now, 0) (F c.args.files.now, E c.args.entropy.now, T c.look_up.new.tpm, 0) (F c.put_over_written.new.files, E c.args.entropy.now, T c.put_over_written.new.tpm, 0)
    c.look_up.result c.put_over_written.result
    (on_tpm (F c.args.files.now) (E c.args.entropy.now) 0 (T c.args.tpm.now) (T c.look_up.new.tpm) c.look_up.result c.look_up.ensures.causes)
    (on_files_tpm (E c.args.entropy.now) 0 (F c.args.files.now) (F c.put_over_written.new.files) (T c.look_up.new.tpm) (T c.put_over_written.new.tpm) c.put_over_written.result c.put_over_written.ensures.causes)

pub returns-in-Ok-Written-clause-told : goal.returns-in-Ok-Written-clause-told
returns-in-Ok-Written-clause-told g c = λ m tells live.
    let runs : Runs (g.T.Tpm.live c.args.tpm.now) (g.T.Tpm.stored c.args.tpm.now) m.state = record { live = live; stored = tells.state } in
    let now = c.in-Ok-Written.ensures.runs m.state runs in
    safely_told_as c.put_over_written.result _ _ _ _ _
    (ap (λ state. index_line (target_of c.args.target.now) (option_copied c.args.found) (foreseen_of c.args.foreseen) state m)
    (ap (λ handle. index_state handle m.state) (sym c.handle_for.ensures.value) ∙ sym (c.in-Ok-Written.ensures.told m.state runs) ∙ c.in-Ok-Written.field-0-is))
    (c.put_over_written.ensures.told _ m (record { files = tells.files; state = now.stored; draws = tells.draws }) now.live)

pub returns-in-Ok-Written-clause-stops : goal.returns-in-Ok-Written-clause-stops
returns-in-Ok-Written-clause-stops g c = λ m tells live.
    let runs : Runs (g.T.Tpm.live c.args.tpm.now) (g.T.Tpm.stored c.args.tpm.now) m.state = record { live = live; stored = tells.state } in
    let now = c.in-Ok-Written.ensures.runs m.state runs in
    safely_stands_as c.put_over_written.result _ _ _ _
    (ap (λ state. index_line (target_of c.args.target.now) (option_copied c.args.found) (foreseen_of c.args.foreseen) state m)
    (ap (λ handle. index_state handle m.state) (sym c.handle_for.ensures.value) ∙ sym (c.in-Ok-Written.ensures.told m.state runs) ∙ c.in-Ok-Written.field-0-is))
    (c.put_over_written.ensures.stops (g.E.Entropy.draws c.args.entropy.now) m (record { files = tells.files; state = now.stored; draws = tells.draws }) now.live)

pub returns-in-Err-clause-causes : goal.returns-in-Err-clause-causes
returns-in-Err-clause-causes g c =
    let F = g.F.Files.faults in let E = g.E.Entropy.faults in let T = g.T.Tpm.faults in
    stops (F c.args.files.now, E c.args.entropy.now, T c.args.tpm.now, 0) (F c.args.files.now, E c.args.entropy.now, T c.look_up.new.tpm, 0) c.look_up.result c.in-Err.stop
    (on_tpm (F c.args.files.now) (E c.args.entropy.now) 0 (T c.args.tpm.now) (T c.look_up.new.tpm) c.look_up.result c.look_up.ensures.causes) c.in-Err.is

pub returns-in-Err-clause-stops : goal.returns-in-Err-clause-stops
returns-in-Err-clause-stops g c = λ m tells live safe.
    force_first _ _ (target_of c.args.target.now) (option_copied c.args.found) (Ok (foreseen_of c.args.foreseen)) m
    (kept_at _ _ _ (g.E.Entropy.draws c.args.entropy.now) m tells (c.in-Err.ensures.kept m.state (record { live = live; stored = tells.state })))

pub returns-in-Ok-Missing-clause-told : goal.returns-in-Ok-Missing-clause-told
returns-in-Ok-Missing-clause-told g c = λ m tells live safe.
    let runs : Runs (g.T.Tpm.live c.args.tpm.now) (g.T.Tpm.stored c.args.tpm.now) m.state = record { live = live; stored = tells.state } in
    let now = c.in-Ok-Missing.ensures.runs m.state runs in
    told_as c.make_fresh.result _ _ _ _ _
    (ap (λ state. index_line (target_of c.args.target.now) (option_copied c.args.found) (foreseen_of c.args.foreseen) state m)
    (ap (λ handle. index_state handle m.state) (sym c.handle_for.ensures.value) ∙ sym (c.in-Ok-Missing.ensures.told m.state runs) ∙ c.in-Ok-Missing.field-0-is))
    (c.make_fresh.ensures.told m (record { files = tells.files; state = now.stored; draws = tells.draws }) now.live)

pub returns-in-Ok-Missing-clause-stops : goal.returns-in-Ok-Missing-clause-stops
returns-in-Ok-Missing-clause-stops g c = λ m tells live safe.
    let runs : Runs (g.T.Tpm.live c.args.tpm.now) (g.T.Tpm.stored c.args.tpm.now) m.state = record { live = live; stored = tells.state } in
    let now = c.in-Ok-Missing.ensures.runs m.state runs in
    stands_as c.make_fresh.result _ _ _ _
    (ap (λ state. index_line (target_of c.args.target.now) (option_copied c.args.found) (foreseen_of c.args.foreseen) state m)
    (ap (λ handle. index_state handle m.state) (sym c.handle_for.ensures.value) ∙ sym (c.in-Ok-Missing.ensures.told m.state runs) ∙ c.in-Ok-Missing.field-0-is))
    (c.make_fresh.ensures.stops m (record { files = tells.files; state = now.stored; draws = tells.draws }) now.live)

pub returns-in-Ok-Unwritten-clause-told : goal.returns-in-Ok-Unwritten-clause-told
returns-in-Ok-Unwritten-clause-told g c = λ m tells live safe.
    let runs : Runs (g.T.Tpm.live c.args.tpm.now) (g.T.Tpm.stored c.args.tpm.now) m.state = record { live = live; stored = tells.state } in
    let now = c.in-Ok-Unwritten.ensures.runs m.state runs in
    told_as c.make_fresh-in-Ok-Unwritten.result _ _ _ _ _
    (ap (λ state. index_line (target_of c.args.target.now) (option_copied c.args.found) (foreseen_of c.args.foreseen) state m)
    (ap (λ handle. index_state handle m.state) (sym c.handle_for.ensures.value) ∙ sym (c.in-Ok-Unwritten.ensures.told m.state runs) ∙ c.in-Ok-Unwritten.field-0-is))
    (c.make_fresh-in-Ok-Unwritten.ensures.told m (record { files = tells.files; state = now.stored; draws = tells.draws }) now.live)

pub returns-in-Ok-Unwritten-clause-stops : goal.returns-in-Ok-Unwritten-clause-stops
returns-in-Ok-Unwritten-clause-stops g c = λ m tells live safe.
    let runs : Runs (g.T.Tpm.live c.args.tpm.now) (g.T.Tpm.stored c.args.tpm.now) m.state = record { live = live; stored = tells.state } in
    let now = c.in-Ok-Unwritten.ensures.runs m.state runs in
    stands_as c.make_fresh-in-Ok-Unwritten.result _ _ _ _
    (ap (λ state. index_line (target_of c.args.target.now) (option_copied c.args.found) (foreseen_of c.args.foreseen) state m)
    (ap (λ handle. index_state handle m.state) (sym c.handle_for.ensures.value) ∙ sym (c.in-Ok-Unwritten.ensures.told m.state runs) ∙ c.in-Ok-Unwritten.field-0-is))
    (c.make_fresh-in-Ok-Unwritten.ensures.stops m (record { files = tells.files; state = now.stored; draws = tells.draws }) now.live)
