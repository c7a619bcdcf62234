-- `make-policy` as an act.
use Rattle.std.specs.Prelude.{◌≡◌, ℕ, Bool, true, false, List, ◌++◌, Option, None, Some, Result, Ok, Err}
use Rattle.nv_index.specs.IndexName.{index_name_of}
use Rattle.nv_index.specs.declared.index.NvPublic.{NvPublic}
use Rattle.policy_digest.specs.PlainTable.{PlainTable}
use Rattle.policy_file.specs.declared.policy.Policy.{Policy}
use Rattle.policy_session.specs.declared.index.IndexError.{IndexError}
use Rattle.policy_walk.specs.Choosing.{chosen_of}
use Rattle.tpm_model.specs.declared.parts.Parts.{Parts}
use Rattle.tpm_model.specs.World.{World}
use Rattle.tpm_device.specs.Stored.{Holds}
use Rattle.pcrlock_answer.specs.declared.answer.Answer.{Answer}
use Rattle.pcrlock_answer.specs.declared.answer.Answer.TheVariants as said
use Rattle.pcrlock_line.specs.Machine.{Machine}
use Rattle.pcrlock_line.specs.Outcome.{Fine, Refused}
use Rattle.pcrlock_deeds.specs.Acts.{Act, says, works}
use Rattle.pcrlock_deeds.specs.Deed.{Deed, ends, hashes, sees, walks}
use Rattle.pcrlock_deeds.specs.Filed.{Current}
use Rattle.pcrlock_deeds.specs.PolicyAt.{policy_of}
use Rattle.pcrlock_predict.specs.Inputs.{PlainInputs, inputs_of}
use Rattle.pcrlock_open.specs.Bound.{held_by, held_opened, held_strings, plain_tables}
use Rattle.pcrlock_update.specs.Acts.{IsNewest, kept_deed, new_deed, pinned_deed}
use Rattle.pcrlock_update.specs.Standing.{standing_of}
use Rattle.pcrlock_update.specs.Update.{pin_in}
use Rattle.pcrlock_policy.specs.Asked.{Asked, Target}
use Rattle.pcrlock_policy.specs.Foreseen.{Foreseen, foreseen_on}
use Rattle.pcrlock_policy.specs.IndexState.{index_state}
use Rattle.pcrlock_policy.specs.MakePolicy.{handle_for, pin_by, unchanged_text}
use Rattle.pcrlock_policy.specs.declared.looking.IndexState.{IndexState}
use Rattle.pcrlock_policy.specs.declared.looking.IndexState.TheVariants as state

-- ---- with the pin that the policy file's object holds

-- where a table was chosen a session walks by it
abbrev pub walking_by : Option PlainTable → Deed → Deed
walking_by None next = next
walking_by (Some table) next = walks next

-- by what the index holds
abbrev pub walking : Policy → Result (NvPublic × List ℕ) IndexError → Deed → Deed
walking policy (Ok held) next = walking_by (chosen_of held.1 (plain_tables policy)) next
walking policy (Err why) next = next

-- the table is put in force with the pin that was unsealed
abbrev pub unsealed_deed : Target → Policy → Foreseen → List ℕ → Result (List ℕ) Answer → Deed
unsealed_deed target policy foreseen content (Ok pin) = kept_deed foreseen.text target.path policy pin content foreseen.table
unsealed_deed target policy foreseen content (Err answer) = ends (Refused answer)

-- the strings of a walk are hashed, a session opens the policy file's object, or doesn't, and then the table is put in
-- force
abbrev pub unsealing_deed : Target → Policy → Foreseen → NvPublic → List ℕ → Deed
unsealing_deed target policy foreseen public content = sees (λ live.
    hashes (held_strings policy live.state (held_by policy live.state))
    (walking policy (held_by policy live.state)
    (unsealed_deed target policy foreseen content (pin_by target.path public (held_opened policy policy.pin_object live.state)))))

-- ---- under a written index

-- by which pin there is
abbrev pub replaced_deed : Target → Option (List ℕ) → Option Policy → Foreseen → NvPublic → List ℕ → Deed
replaced_deed target (Some pin) found foreseen public content = pinned_deed foreseen.text target.path found (handle_for target found) pin content foreseen.table
replaced_deed target None (Some policy) foreseen public content = unsealing_deed target policy foreseen public content
replaced_deed target None None foreseen public content = ends (Refused (said.IndexTaken public.handle (index_name_of public)))

-- by what the tests gave
abbrev pub tested_deed : Result Bool Answer → Target → Option Policy → Foreseen → NvPublic → List ℕ → Deed
tested_deed (Ok true) target found foreseen public content = ends (Fine (foreseen.text ++ unchanged_text))
tested_deed (Ok false) target found foreseen public content = replaced_deed target target.pin found foreseen public content
tested_deed (Err answer) target found foreseen public content = ends (Refused answer)

abbrev pub written_deed : Target → Option Policy → Foreseen → NvPublic → List ℕ → Deed
written_deed target found foreseen public content =
    tested_deed (standing_of found target.pin target.force public content foreseen.table) target found foreseen public content

-- ---- under either

-- a new policy, in place of an unwritten index where one stands
abbrev pub fresh_deed : Target → Option Policy → Bool → Foreseen → Deed
fresh_deed target found stands foreseen = new_deed foreseen.text target.path (pin_in found) stands (handle_for target found) foreseen.table target.pin

-- by what stands under the handle
abbrev pub index_deed : Target → Option Policy → Foreseen → IndexState → Deed
index_deed target found foreseen state.Missing = fresh_deed target found false foreseen
index_deed target found foreseen state.Unwritten = fresh_deed target found true foreseen
index_deed target found foreseen (state.Written public content) = written_deed target found foreseen public content

-- the table is put in force
abbrev pub force_deed : Target → Option Policy → Result Foreseen Answer → Deed
force_deed target found (Ok foreseen) = sees (λ live. index_deed target found foreseen (index_state (handle_for target found) live.state))
force_deed target found (Err answer) = ends (Refused answer)

-- on a state that is stored
abbrev pub policy_deed : Asked → Target → Option Policy → PlainInputs → Deed
policy_deed asked target found inputs = sees (λ live. force_deed target found (foreseen_on asked inputs live.state))

-- by what the logs and the folders gave
abbrev pub inputs_act : Asked → Target → Option Policy → Result PlainInputs Answer → Act
inputs_act asked target found (Ok inputs) = works (policy_deed asked target found inputs)
inputs_act asked target found (Err answer) = says (Refused answer)

-- by what the policy file gave
abbrev pub found_act : Asked → Target → Result (Option Policy) Answer → Machine → Act
found_act asked target (Ok found) m = inputs_act asked target found (inputs_of m.files asked.firmware asked.user asked.folders)
found_act asked target (Err answer) m = says (Refused answer)

-- `make-policy`
unfoldable pub make_policy_act : Asked → Target → Machine → World → Act
make_policy_act asked target m w = found_act asked target (policy_of m.files target.path) m

-- the table that was foreseen, from what the machine had before, is the newest of the index in the world afterwards, and
-- what is filed there is current
pub record HasMade (asked : Asked) (target : Target) (m : Machine) (w : World) : Type 0 where
  pub found : Option Policy
  pub read : policy_of m.files target.path ≡ Ok found
  pub inputs : PlainInputs
  pub took : inputs_of m.files asked.firmware asked.user asked.folders ≡ Ok inputs
  pub state : Parts
  pub stored : m.device ≡ Holds state
  pub foreseen : Foreseen
  pub is : foreseen_on asked inputs state ≡ Ok foreseen
  pub newest : IsNewest (handle_for target found) foreseen.table w
  pub current : Current w
