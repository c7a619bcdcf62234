use Rattle.std.proofs.Common.{take}
use Rattle.std.specs.List.{All}
use Rattle.hex.specs.Hex.{IsBytes}
use Rattle.predict_proof.proofs.writing.proofs_are_bytes.Given as goal

abbrev pub invariant-loop-proof : goal.invariant-loop-proof
invariant-loop-proof l = All (λ q. All IsBytes q.values) (take l.proof-index l.proofs)
