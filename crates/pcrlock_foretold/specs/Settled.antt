-- A policy that is in force already.
use Rattle.std.specs.Prelude.{◌≡◌, ◌⊎◌, ℕ, false, List, ◌++◌, None, Some, Ok}
use Rattle.std.specs.FinMap.{get}
use Rattle.policy_digest.specs.Plain.{plain_table}
use Rattle.tpm_model.specs.World.{FiledPolicy, LiveIndex, World}
use Rattle.pcrlock_line.specs.Machine.{Live}
use Rattle.pcrlock_predict.specs.Inputs.{PlainInputs, inputs_of}
use Rattle.pcrlock_policy.specs.Asked.{Asked, Target}
use Rattle.pcrlock_policy.specs.Foreseen.{Foreseen, foreseen_on}

-- the table that is foreseen is the newest of the filed index, under the filed pin; no other pin was given, and an
-- unchanged table isn't to be written again
pub record IsSettled (asked : Asked) (target : Target) (foreseen : Foreseen) (m : Live) (w : World) : Type 0 where
  pub inputs : PlainInputs
  pub took : inputs_of m.files asked.firmware asked.user asked.folders ≡ Ok inputs
  pub is : foreseen_on asked inputs m.state ≡ Ok foreseen
  pub filed : FiledPolicy
  pub states : w.filed ≡ Some filed
  pub newest : LiveIndex
  pub live : get w.live filed.handle ≡ Some newest
  pub pin : newest.pin ≡ filed.pin
  pub same : newest.table ≡ plain_table foreseen.table
  pub given : (target.pin ≡ None) ⊎ (target.pin ≡ Some filed.pin)
  pub unforced : target.force ≡ false
