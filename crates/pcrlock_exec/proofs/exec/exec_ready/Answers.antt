use Rattle.pcrlock_exec.proofs.Stands.{stops_of}
use Rattle.pcrlock_exec.proofs.exec.exec_ready.Goals as goal

pub returns-in-Err-clause-stops : goal.returns-in-Err-clause-stops
returns-in-Err-clause-stops g c = λ held words m tells live.
    stops_of held (g.T.Tpm.stored c.send_all.new.tpm) m c.args.commands.now tells.files
    (c.in-Err.ensures.stops m.state (record { live = live; stored = tells.state }))
