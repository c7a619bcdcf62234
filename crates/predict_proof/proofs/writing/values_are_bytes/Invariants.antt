use Rattle.std.proofs.Common.{take}
use Rattle.std.specs.List.{All}
use Rattle.hex.specs.Hex.{IsBytes}
use Rattle.predict_proof.proofs.writing.values_are_bytes.Given as goal

abbrev pub invariant-loop-digest : goal.invariant-loop-digest
invariant-loop-digest l = All IsBytes (take l.digest-index l.values)
