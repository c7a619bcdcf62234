use Rattle.std.proofs.Common.{◌≡◌, []}
use Rattle.pl_text.specs.Left.{left_in}
use Rattle.pl_text.specs.Parts.{parts_behind, parts_of}
use Rattle.predict_proof.specs.Words.{values_from}
use Rattle.predict_proof.proofs.values.read_values.Given as goal

abbrev pub invariant-digests : goal.invariant-digests
invariant-digests l = values_from l.bank l.values (parts_behind 44 l.digests) ≡ values_from l.bank [] (parts_of 44 l.fn.word)

abbrev pub decreases-digests : goal.decreases-digests
decreases-digests l = left_in l.digests
