use Rattle.std.proofs.Common.{◌≡◌, ◌∷◌, ◌++◌, length, take}
use Rattle.std.specs.List.{flat_map}
use Rattle.tpm_state.specs.Entries.{entry_text}
use Rattle.tpm_state.proofs.entries.put_trail.Given as goal

abbrev pub invariant-loop-entry : goal.invariant-loop-entry
invariant-loop-entry l = l.out.items ≡ l.fn.out.items ++ (length l.entries ∷ flat_map entry_text (take l.entry-index l.entries))
