use Rattle.pcrlock_line.proofs.Composed.{then, stops, on_tpm, on_files}
use Rattle.tpm_model.specs.ObjectCommands.{seal}
use Rattle.pcrlock_seal.proofs.Sealed.{sealed_told}
use Rattle.pcrlock_seal.proofs.Stops.{sealed_stops, seal_stops}
use Rattle.pcrlock_seal.proofs.enrolling.seal_key.Goals as goal

pub returns-in-Ok-clause-causes : goal.returns-in-Ok-clause-causes
returns-in-Ok-clause-causes g c =
    let F = g.F.Files.faults in let T = g.T.Tpm.faults in
    then (F c.args.files.now, 0, T c.args.tpm.now, 0) (F c.args.files.now, 0, T c.ask.new.tpm, 0) (F c.answered.new.files, 0, T c.ask.new.tpm, 0) c.ask.result c.answered.result
    (on_tpm (F c.args.files.now) 0 0 (T c.args.tpm.now) (T c.ask.new.tpm) c.ask.result c.ask.ensures.causes)
    (on_files 0 (T c.ask.new.tpm) 0 (F c.args.files.now) (F c.answered.new.files) c.answered.result c.answered.ensures.causes)

pub returns-in-Ok-clause-told : goal.returns-in-Ok-clause-told
returns-in-Ok-clause-told g c = λ draws m tells live.
    let told = c.in-Ok.ensures.told m.state live tells.state in
    let after = (seal c.policy.result c.args.key.now m.state).1 in
    sealed_told c.answered.result _ _ draws c.args.path.now c.args.condition.now c.args.key.now c.policy.result m c.in-Ok.response
    c.policy.ensures told.answer
    (c.answered.ensures.told (g.T.Tpm.stored c.ask.new.tpm) draws after m tells.files told.stored tells.draws)

pub returns-in-Err-clause-causes : goal.returns-in-Err-clause-causes
returns-in-Err-clause-causes g c =
    let F = g.F.Files.faults in let T = g.T.Tpm.faults in
    stops (F c.args.files.now, 0, T c.args.tpm.now, 0) (F c.args.files.now, 0, T c.ask.new.tpm, 0) c.ask.result c.in-Err.stop
    (on_tpm (F c.args.files.now) 0 0 (T c.args.tpm.now) (T c.ask.new.tpm) c.ask.result c.ask.ensures.causes) c.in-Err.is

pub returns-in-Ok-clause-stops : goal.returns-in-Ok-clause-stops
returns-in-Ok-clause-stops g c = λ draws m tells live.
    let told = c.in-Ok.ensures.told m.state live tells.state in
    let after = (seal c.policy.result c.args.key.now m.state).1 in
    sealed_stops c.answered.result _ _ c.args.path.now c.args.condition.now c.args.key.now c.policy.result m c.in-Ok.response
    c.policy.ensures told.answer
    (c.answered.ensures.stops (g.T.Tpm.stored c.ask.new.tpm) after m tells.files told.stored)

pub returns-in-Err-clause-stops : goal.returns-in-Err-clause-stops
returns-in-Err-clause-stops g c = λ draws m tells live.
    seal_stops _ _ c.args.path.now c.args.condition.now c.args.key.now c.policy.result m c.policy.ensures tells.files
    (c.in-Err.ensures.stops m.state live tells.state)
