use Rattle.pcrlock_line.proofs.Composed.{stops, on_tpm}
use Rattle.pcrlock_seal.proofs.Stops.{enrolled_first, at_state}
use Rattle.pcrlock_seal.proofs.enrolling.with_device.Goals as goal

pub returns-in-Err-clause-causes : goal.returns-in-Err-clause-causes
returns-in-Err-clause-causes g c =
    let F = g.F.Files.faults in let E = g.E.Entropy.faults in let T = g.T.Tpm.faults in
    stops (F c.args.files.now, E c.args.entropy.now, T c.args.tpm.now, 0) (F c.args.files.now, E c.args.entropy.now, T c.present_value.new.tpm, 0) c.present_value.result c.in-Err.stop
    (on_tpm (F c.args.files.now) (E c.args.entropy.now) 0 (T c.args.tpm.now) (T c.present_value.new.tpm) c.present_value.result c.present_value.ensures.causes) c.in-Err.is

pub returns-in-Err-clause-stops : goal.returns-in-Err-clause-stops
returns-in-Err-clause-stops g c = λ m tells live.
    enrolled_first _ _ c.args.path.now c.args.pcr c.args.bank c.args.key m
    (at_state _ _ _ m (record { files = tells.files; state = c.in-Err.ensures.same m.state (record { live = live; stored = tells.state }); draws = tells.draws }))
