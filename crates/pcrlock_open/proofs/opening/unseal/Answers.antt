use Rattle.pcrlock_line.specs.Machine.{machine}
use Rattle.pcrlock_open.proofs.Opens.{given}
use Rattle.pcrlock_open.proofs.opening.unseal.Goals as goal

pub returns-clause-headline : goal.returns-clause-headline
returns-clause-headline g c = λ words m w handle literal key tells good h.
    given c.opened.result _ _ words m w c.args.state.now c.args.path.now c.args.policy.now handle literal key good h (c.opened.ensures.told words (machine m) tells)
