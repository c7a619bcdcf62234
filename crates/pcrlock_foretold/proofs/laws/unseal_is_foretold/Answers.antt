use Rattle.pcrlock_foretold.proofs.Opens.{opens_later, unseals_foretold}
use Rattle.pcrlock_foretold.proofs.laws.unseal_is_foretold.Goals as goal

pub returns-clause-foretold : goal.returns-clause-foretold
returns-clause-foretold c = λ state token policy m w kept safe. unseals_foretold state token policy m w kept safe

pub returns-clause-later : goal.returns-clause-later
returns-clause-later c = λ asked target m w made state token handle pin key live later leaves kept safe e.
    opens_later asked target m w made state token handle pin key live later leaves kept safe e
