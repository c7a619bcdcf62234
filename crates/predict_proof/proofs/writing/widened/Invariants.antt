use Rattle.std.proofs.Common.{◌≡◌, take}
use Rattle.predict_proof.proofs.writing.widened.Given as goal

abbrev pub invariant-loop-pcr : goal.invariant-loop-pcr
invariant-loop-pcr l = l.numbers ≡ take l.pcr-index l.pcrs
