use Rattle.std.proofs.Common.{sym, ap, ◌∙◌}
use Rattle.pcrlock_line.proofs.Composed.{then, stops, on_files, on_tpm}
use Rattle.pcrlock_open.specs.Unseal.{policy_line}
use Rattle.pcrlock_open.proofs.Stops.{stops_same}
use Rattle.pcrlock_open.proofs.opening.open_under.Goals as goal

pub returns-in-Ok-Ok-clause-causes : goal.returns-in-Ok-Ok-clause-causes
returns-in-Ok-Ok-clause-causes g c = then
    (g.F.Files.faults c.args.files.now, 0, g.T.Tpm.faults c.args.tpm.now, 0)
    (g.F.Files.faults c.needed_policy.new.files, 0, g.T.Tpm.faults c.args.tpm.now, 0)
    (g.F.Files.faults c.needed_policy.new.files, 0, g.T.Tpm.faults c.open_bound.new.tpm, 0)
    c.needed_policy.result c.open_bound.result
    (on_files 0 (g.T.Tpm.faults c.args.tpm.now) 0 (g.F.Files.faults c.args.files.now) (g.F.Files.faults c.needed_policy.new.files) c.needed_policy.result c.needed_policy.ensures.causes)
    (on_tpm (g.F.Files.faults c.needed_policy.new.files) 0 0 (g.T.Tpm.faults c.args.tpm.now) (g.T.Tpm.faults c.open_bound.new.tpm) c.open_bound.result c.open_bound.ensures.causes)

pub returns-in-Ok-Ok-clause-stops : goal.returns-in-Ok-Ok-clause-stops
returns-in-Ok-Ok-clause-stops g c = λ words m tells.
    stops_same (g.F.Files.held c.args.files.now) (g.F.Files.held c.needed_policy.new.files) (g.T.Tpm.stored c.open_bound.new.tpm) c.open_bound.result _ _
    (ap (λ needed. policy_line c.args.state.now c.args.object needed m) (sym (c.in-Ok-Ok.ensures.told m.files tells.files) ∙ c.in-Ok-Ok.field-0-is))
    c.needed_policy.ensures.same (c.open_bound.ensures.stops (g.F.Files.held c.args.files.now) words m tells)

pub returns-in-Err-clause-causes : goal.returns-in-Err-clause-causes
returns-in-Err-clause-causes g c = stops
    (g.F.Files.faults c.args.files.now, 0, g.T.Tpm.faults c.args.tpm.now, 0)
    (g.F.Files.faults c.needed_policy.new.files, 0, g.T.Tpm.faults c.args.tpm.now, 0)
    c.needed_policy.result c.in-Err.stop
    (on_files 0 (g.T.Tpm.faults c.args.tpm.now) 0 (g.F.Files.faults c.args.files.now) (g.F.Files.faults c.needed_policy.new.files) c.needed_policy.result c.needed_policy.ensures.causes)
    c.in-Err.is
