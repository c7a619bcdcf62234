use Rattle.record_match.specs.Walk.{AllNoted}
use Rattle.record_match.proofs.choosing.note_all.Given as goal

abbrev pub invariant-loop-done : goal.invariant-loop-done
invariant-loop-done l = AllNoted l.steps l.list l.done l.sets
