use Rattle.std.proofs.Common.{◌≡◌}
use Rattle.pl_text.specs.Left.{left_in}
use Rattle.pl_text.specs.Parts.{parts_behind, parts_of}
use Rattle.pl_text.specs.Words.{with_pcrs}
use Rattle.pl_text.proofs.mask.read_pcr_mask.Given as goal

abbrev pub invariant-numbers : goal.invariant-numbers
invariant-numbers l = with_pcrs l.mask (parts_behind 44 l.numbers) ≡ with_pcrs 0 (parts_of 44 l.fn.word)

abbrev pub decreases-numbers : goal.decreases-numbers
decreases-numbers l = left_in l.numbers
