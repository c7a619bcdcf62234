use Rattle.pcrlock_exec.proofs.Stands.{stops_of}
use Rattle.pcrlock_broker.specs.Broker.{brokered}
use Rattle.pcrlock_broker.proofs.brokering.broker_ready.Goals as goal

pub returns-in-Err-clause-stops : goal.returns-in-Err-clause-stops
returns-in-Err-clause-stops g c = λ held words m tells live.
    stops_of held (g.T.Tpm.stored c.serve_all.new.tpm) m (brokered c.args.clients c.args.asked.now m.state) tells.files
    (c.in-Err.ensures.stops m.state (record { live = live; stored = tells.state }))
