use Rattle.std.proofs.Common.{◌≡◌}
use Rattle.pl_text.specs.Left.{left_in}
use Rattle.pl_text.specs.Parts.{parts_behind}
use Rattle.pl_text.specs.Words.{banks_of, with_banks}
use Rattle.pl_text.proofs.banks.read_banks.Given as goal

abbrev pub invariant-names : goal.invariant-names
invariant-names l = with_banks l.banks (parts_behind 44 l.names) ≡ banks_of l.fn.word

abbrev pub decreases-names : goal.decreases-names
decreases-names l = left_in l.names
