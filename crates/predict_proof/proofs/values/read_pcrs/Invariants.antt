use Rattle.std.proofs.Common.{◌≡◌}
use Rattle.pl_text.specs.Left.{left_in}
use Rattle.pl_text.specs.Parts.{parts_behind, parts_of}
use Rattle.predict_proof.specs.Words.{mask_from}
use Rattle.predict_proof.proofs.values.read_pcrs.Given as goal

abbrev pub invariant-numbers : goal.invariant-numbers
invariant-numbers l = mask_from l.mask (parts_behind 44 l.numbers) ≡ mask_from 0 (parts_of 44 l.fn.word)

abbrev pub decreases-numbers : goal.decreases-numbers
decreases-numbers l = left_in l.numbers
