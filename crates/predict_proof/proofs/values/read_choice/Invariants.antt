use Rattle.std.proofs.Common.{◌≡◌}
use Rattle.pl_text.specs.Left.{left_in}
use Rattle.pl_text.specs.Parts.{parts_behind}
use Rattle.predict_proof.specs.Words.{choice_of, numbers_from}
use Rattle.predict_proof.proofs.values.read_choice.Given as goal

abbrev pub invariant-numbers : goal.invariant-numbers
invariant-numbers l = numbers_from 63 l.choice (parts_behind 44 l.numbers) ≡ choice_of l.fn.word

abbrev pub decreases-numbers : goal.decreases-numbers
decreases-numbers l = left_in l.numbers
