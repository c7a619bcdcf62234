use Rattle.pcrlock_tpm.proofs.Extends.{extend_stops}
use Rattle.pcrlock_tpm.proofs.extend.extend.Goals as goal

pub returns-in-Err-clause-stops : goal.returns-in-Err-clause-stops
returns-in-Err-clause-stops g c = λ held words m tells live.
    extend_stops held (g.T.Tpm.stored c.args.tpm.now) (g.T.Tpm.stored c.ask.new.tpm) words m c.args.pcr c.hash_all.result c.args.bytes.now
    c.requires.number c.hash_all.ensures tells (c.in-Err.ensures.stops m.state live tells.state)
