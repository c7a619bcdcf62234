use Rattle.std.proofs.Common.{refl, ap, ◌∙◌}
use Rattle.pcrlock_line.proofs.Composed.{then, stops, on_files, on_tpm}
use Rattle.pcrlock_open.specs.TokenRead.{read_line}
use Rattle.pcrlock_line.proofs.Devices.{stands}
use Rattle.pcrlock_open.proofs.Gives.{gives_same, refused_same}
use Rattle.pcrlock_open.proofs.Stops.{stops_same, unseal_first}
use Rattle.pcrlock_open.proofs.opening.opened.Goals as goal

pub returns-in-Ok-Literal-clause-causes : goal.returns-in-Ok-Literal-clause-causes
returns-in-Ok-Literal-clause-causes g c = then
    (g.F.Files.faults c.args.files.now, 0, g.T.Tpm.faults c.args.tpm.now, 0)
    (g.F.Files.faults c.token_at.new.files, 0, g.T.Tpm.faults c.args.tpm.now, 0)
    (g.F.Files.faults c.token_at.new.files, 0, g.T.Tpm.faults c.open.new.tpm, 0)
    c.token_at.result c.open.result
    (on_files 0 (g.T.Tpm.faults c.args.tpm.now) 0 (g.F.Files.faults c.args.files.now) (g.F.Files.faults c.token_at.new.files) c.token_at.result c.token_at.ensures.causes)
    (on_tpm (g.F.Files.faults c.token_at.new.files) 0 0 (g.T.Tpm.faults c.args.tpm.now) (g.T.Tpm.faults c.open.new.tpm) c.open.result c.open.ensures.causes)

pub returns-in-Ok-Literal-clause-told : goal.returns-in-Ok-Literal-clause-told
returns-in-Ok-Literal-clause-told g c = λ words m tells.
    gives_same (g.F.Files.held c.args.files.now) (g.F.Files.held c.token_at.new.files) (g.T.Tpm.stored c.open.new.tpm) words c.open.result _ _
    (c.in-Ok-Literal.ensures.told c.args.state.now c.args.policy.now m tells.files ∙ ap (λ read. read_line c.args.state.now c.args.policy.now read m) c.in-Ok-Literal.field-0-is)
    c.token_at.ensures.same (c.open.ensures.told (g.F.Files.held c.args.files.now) words m tells)

pub returns-in-Ok-Refused-clause-told : goal.returns-in-Ok-Refused-clause-told
returns-in-Ok-Refused-clause-told g c = λ words m tells safe.
    refused_same (g.F.Files.held c.args.files.now) (g.F.Files.held c.token_at.new.files) (g.T.Tpm.stored c.args.tpm.now) words m c.in-Ok-Refused.answer _
    (c.in-Ok-Refused.ensures.told c.args.state.now c.args.policy.now m tells.files ∙ ap (λ read. read_line c.args.state.now c.args.policy.now read m) c.in-Ok-Refused.field-0-is) c.token_at.ensures.same tells

pub returns-in-Err-clause-causes : goal.returns-in-Err-clause-causes
returns-in-Err-clause-causes g c = stops
    (g.F.Files.faults c.args.files.now, 0, g.T.Tpm.faults c.args.tpm.now, 0)
    (g.F.Files.faults c.token_at.new.files, 0, g.T.Tpm.faults c.args.tpm.now, 0)
    c.token_at.result c.in-Err.stop
    (on_files 0 (g.T.Tpm.faults c.args.tpm.now) 0 (g.F.Files.faults c.args.files.now) (g.F.Files.faults c.token_at.new.files) c.token_at.result c.token_at.ensures.causes)
    c.in-Err.is

pub returns-in-Ok-Literal-clause-stops : goal.returns-in-Ok-Literal-clause-stops
returns-in-Ok-Literal-clause-stops g c = λ words m tells.
    stops_same (g.F.Files.held c.args.files.now) (g.F.Files.held c.token_at.new.files) (g.T.Tpm.stored c.open.new.tpm) c.open.result _ _
    (c.in-Ok-Literal.ensures.told c.args.state.now c.args.policy.now m tells.files ∙ ap (λ read. read_line c.args.state.now c.args.policy.now read m) c.in-Ok-Literal.field-0-is)
    c.token_at.ensures.same (c.open.ensures.stops (g.F.Files.held c.args.files.now) words m tells)

pub returns-in-Err-clause-stops : goal.returns-in-Err-clause-stops
returns-in-Err-clause-stops g c = λ words m tells.
    unseal_first (g.F.Files.held c.token_at.new.files) (g.T.Tpm.stored c.args.tpm.now) m c.args.state.now c.args.path.now c.args.policy.now
    (stands _ _ words m (record { files = c.token_at.ensures.same ∙ tells.files; state = tells.state; draws = tells.draws }))

pub returns-in-Ok-Bound-clause-stops : goal.returns-in-Ok-Bound-clause-stops
returns-in-Ok-Bound-clause-stops g c = λ words m tells.
    stops_same (g.F.Files.held c.open_under.new.files) (g.F.Files.held c.open_under.new.files) (g.T.Tpm.stored c.open_under.new.tpm) c.open_under.result _ _
    (c.in-Ok-Bound.ensures.told c.args.state.now c.args.policy.now m tells.files ∙ ap (λ read. read_line c.args.state.now c.args.policy.now read m) c.in-Ok-Bound.field-0-is)
    refl (c.open_under.ensures.stops words m (record { files = c.token_at.ensures.same ∙ tells.files; state = tells.state; draws = tells.draws }))
