use Rattle.std.proofs.Common.{◌≡◌, ◌∷◌, ◌++◌, length, take}
use Rattle.std.specs.List.{flat_map}
use Rattle.tpm_state.specs.Indices.{index_text}
use Rattle.tpm_state.proofs.indices.put_indices.Given as goal

abbrev pub invariant-loop-index : goal.invariant-loop-index
invariant-loop-index l = l.out.items ≡ l.fn.out.items ++ (length l.indices ∷ flat_map index_text (take l.index-index l.indices))
