use Rattle.std.proofs.Common.{◌≡◌, map, take}
use Rattle.predict_proof.specs.Proving.{proof_of}
use Rattle.predict_proof.proofs.proving.proofs_of.Given as goal

abbrev pub invariant-loop-state : goal.invariant-loop-state
invariant-loop-state l = l.list ≡ map (proof_of l.mask) (take l.state-index l.states)
