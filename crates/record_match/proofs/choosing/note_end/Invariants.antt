use Rattle.std.proofs.Common.{◌≡◌, false, replicate}
use Rattle.record_match.proofs.choosing.note_end.Given as goal

abbrev pub invariant-loop : goal.invariant-loop
invariant-loop l = l.noted ≡ replicate l.index false
