use Rattle.std.proofs.Common.{◌≡◌}
use Rattle.pl_text.specs.Left.{left_in}
use Rattle.pl_text.specs.Parts.{parts_behind}
use Rattle.tpm_commands.specs.Digests.{digests_of, with_all}
use Rattle.tpm_commands.proofs.digests.read_digests.Given as goal

abbrev pub invariant-texts : goal.invariant-texts
invariant-texts l = with_all l.digests (parts_behind 44 l.texts) ≡ digests_of l.fn.word

abbrev pub decreases-texts : goal.decreases-texts
decreases-texts l = left_in l.texts
