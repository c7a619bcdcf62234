use Rattle.pcrlock_words.proofs.LineLemmas.{Cut}
use Rattle.pcrlock_words.proofs.lines.split_line.Given as goal

abbrev pub invariant-loop-end : goal.invariant-loop-end
invariant-loop-end l = Cut l.line l.words l.start l.end
