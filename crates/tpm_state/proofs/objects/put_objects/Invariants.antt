use Rattle.std.proofs.Common.{◌≡◌, ◌∷◌, ◌++◌, length, take}
use Rattle.std.specs.List.{flat_map}
use Rattle.tpm_state.specs.declared.version.Version.TheVariants.{Two}
use Rattle.tpm_state.specs.Objects.{object_text}
use Rattle.tpm_state.proofs.objects.put_objects.Given as goal

abbrev pub invariant-loop-object : goal.invariant-loop-object
invariant-loop-object l = l.out.items ≡ l.fn.out.items ++ (length l.objects ∷ flat_map (object_text Two) (take l.object-index l.objects))
