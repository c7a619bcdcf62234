use Rattle.record_match.proofs.FirstChoice.{Turn}
use Rattle.record_match.proofs.choosing.walk.Given as goal

abbrev pub invariant-loop-number : goal.invariant-loop-number
invariant-loop-number l = Turn l.steps l.list l.number l.place l.choice
