use Rattle.std.proofs.Common.{◌≡◌, ◌++◌, take, string_bytes}
use Rattle.predict_proof.specs.ProofText.{proofs_text}
use Rattle.predict_proof.proofs.writing.write_lines.Given as goal

abbrev pub invariant-loop-proof : goal.invariant-loop-proof
invariant-loop-proof l = string_bytes l.text ≡ string_bytes l.fn.text ++ proofs_text (take l.proof-index l.proofs)
