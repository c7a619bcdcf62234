use Rattle.std.proofs.Common.{◌≡◌, ◌++◌, take}
use Rattle.std.specs.List.{flat_map}
use Rattle.tpm_state.specs.Field.{digest_text}
use Rattle.tpm_state.proofs.field.put_digests.Given as goal

abbrev pub invariant-loop-digest : goal.invariant-loop-digest
invariant-loop-digest l = l.out.items ≡ l.initial.out.items ++ flat_map digest_text (take l.digest-index l.digests)
