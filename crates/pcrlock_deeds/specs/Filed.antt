-- That the policy file states what the world has as filed, and that the newest tables are among its.
use Rattle.std.specs.Prelude.{◌≡◌, ℕ, ◌<◌, List, map, Contains, Option, None, Some, Ok}
use Rattle.std.specs.FinMap.{get}
use Rattle.pl_base.specs.FileMap.{FileMap}
use Rattle.policy_digest.specs.Pin.{pin_policy_of}
use Rattle.policy_digest.specs.Plain.{plain_table}
use Rattle.policy_file.specs.declared.policy.Policy.{Policy}
use Rattle.policy_file.specs.PolicyText.{IsPolicy}
use Rattle.tpm_model.specs.declared.parts.Parts.{Parts}
use Rattle.tpm_model.specs.Binding.{Index}
use Rattle.tpm_model.specs.ObjectCommands.{object_handle}
use Rattle.tpm_model.specs.World.{BoundObject, FiledPolicy, LiveIndex, World}
use Rattle.pcrlock_deeds.specs.PolicyAt.{policy_of}

-- the file reads as a policy of this index, object, pin and tables; a policy was made with the pin; and the
-- object, while the world has it, holds the pin under the policy of the index
pub record IsFiled (held : FileMap) (path : List ℕ) (w : World) (filed : FiledPolicy) : Type 0 where
  pub policy : Policy
  pub read : policy_of held path ≡ Ok (Some policy)
  pub valid : IsPolicy policy
  pub handle : policy.handle ≡ filed.handle
  pub object : policy.pin_object ≡ filed.pin_object
  pub tables : map plain_table policy.tables ≡ filed.tables
  pub digest : policy.index_policy ≡ pin_policy_of filed.pin
  pub known : Contains w.pins filed.pin
  pub pin : (bound : BoundObject) → get w.objects filed.pin_object ≡ Some bound → (bound.secret ≡ filed.pin) × (bound.binding ≡ Index filed.handle filed.pin)

-- nothing is filed, and no file is there; or the file states it
abbrev pub IsFiledAs : FileMap → List ℕ → World → Option FiledPolicy → Type 0
IsFiledAs held path w None = get held path ≡ None
IsFiledAs held path w (Some filed) = IsFiled held path w filed

-- so is what the world has
abbrev pub Filed : FileMap → List ℕ → World → Type 0
Filed held path w = IsFiledAs held path w w.filed

-- no later object gets the handle of the object with the pin
abbrev pub HasNumberOf : Parts → Option FiledPolicy → Type 0
HasNumberOf s None = Unit {0}
HasNumberOf s (Some filed) = filed.pin_object < object_handle s.next_object

abbrev pub HasNumber : Parts → World → Type 0
HasNumber s w = HasNumberOf s w.filed

-- the newest table of the filed index, where that is live with the filed pin, is among the filed tables
abbrev pub CurrentOf : World → Option FiledPolicy → Type 0
CurrentOf w None = Unit {0}
CurrentOf w (Some filed) = (live : LiveIndex) → get w.live filed.handle ≡ Some live → live.pin ≡ filed.pin → Contains filed.tables live.table

abbrev pub Current : World → Type 0
Current w = CurrentOf w w.filed
