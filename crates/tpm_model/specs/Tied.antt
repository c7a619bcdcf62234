-- How a state hangs together with the world around it, in banks, PCRs and objects. What trails, indices
-- and their writes add stands in WholeTie.
use Rattle.std.specs.Prelude.{◌≡◌, ℕ, List, Contains, Some}
use Rattle.std.specs.FinMap.{get}
use Rattle.policy_digest.specs.Policies.{IsPolicyHash}
use Rattle.tpm_model.specs.declared.object.Object.{Object}
use Rattle.tpm_model.specs.declared.parts.Parts.{Parts}
use Rattle.policy_digest.specs.TableStrings.{table_strings}
use Rattle.policy_digest.specs.BindingStrings.{bind_strings}
use Rattle.policy_digest.specs.Pin.{pin_strings}
use Rattle.tpm_model.specs.Binding.{Binding, Index, Literal, policy_of, binding_strings}
use Rattle.tpm_model.specs.Sessions.{object_at}
use Rattle.tpm_model.specs.World.{World, BoundObject, PolicyUpdate, AreHashed}

-- the pin of an index binding is one that a policy was made with; a literal's hash is one of policies
abbrev pub IsSoundBinding : World → Binding → Type 0
IsSoundBinding w (Index handle pin) = Contains w.pins pin
IsSoundBinding w (Literal hash bank pcr value) = IsPolicyHash hash

-- the state has the object with its bytes, under the policy of its binding
pub record IsHeld (s : Parts) (w : World) (handle : ℕ) (bound : BoundObject) : Type 0 where
  pub object : Object
  pub found : object_at handle s.objects ≡ Some object
  pub secret : object.secret ≡ bound.secret
  pub policy : object.policy ≡ policy_of bound.binding
  pub sound : IsSoundBinding w bound.binding
  pub strings : AreHashed w (binding_strings bound.binding)

-- the state and the world hang together
pub record Tied (s : Parts) (w : World) : Type 0 where
  -- banks and PCR values agree
  pub banks : w.banks ≡ s.banks
  pub pcrs : w.pcrs ≡ s.pcrs
  -- the program's objects stand in the state
  pub objects : (handle : ℕ) (bound : BoundObject) → get w.objects handle ≡ Some bound → IsHeld s w handle bound
  -- the strings of what the world names were hashed
  pub updates : (update : PolicyUpdate) → Contains w.writes update → AreHashed w (table_strings update.table)
  pub update_bindings : (update : PolicyUpdate) → Contains w.writes update → AreHashed w (bind_strings update.handle update.pin)
  pub pins : (pin : List ℕ) → Contains w.pins pin → AreHashed w (pin_strings pin)
  pub strange : (pin : List ℕ) → Contains w.strange pin → AreHashed w (pin_strings pin)
