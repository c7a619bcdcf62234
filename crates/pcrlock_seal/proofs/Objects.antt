-- A state with one more object, and the world with it.
use Rattle.std.proofs.Common.{◌≡◌}
use Rattle.std.specs.Prelude.{None}
use Rattle.tpm_model.specs.declared.object.Object.{Object}
use Rattle.tpm_model.specs.declared.parts.Parts.{Parts}
use Rattle.tpm_model.specs.Binding.{Binding, policy_of, binding_strings}
use Rattle.tpm_model.specs.Sessions.{object_at}
use Rattle.tpm_model.specs.World.{World, sealed_world, hashed_world}
use Rattle.tpm_model.specs.Tied.{Tied, IsSoundBinding}
use Rattle.tpm_model.proofs.Ties.{all_hashed, sound_on, tied_bound, tied_hashed, with_object}

-- the object that the program sealed is held, and its strings are hashed
pub tied_sealed : (s : Parts) (w : World) (object : Object) (b : Binding) → object_at object.handle s.objects ≡ None → object.policy ≡ policy_of b → IsSoundBinding w b → Tied s w
    → Tied (with_object object s) (sealed_world object.handle object.secret b w)
tied_sealed s w object b none policy sound t =
    let strings = binding_strings b in
    let v = hashed_world strings w in
    tied_bound s v object b none policy (sound_on w v (λ _ k. k) b sound) (all_hashed w strings) (tied_hashed s w strings t)
