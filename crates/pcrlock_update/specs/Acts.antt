-- What the commands of policies do, step by step: `remove-policy` as an act, and how a table is put in force as
-- deeds, under a new index or a written one.
use Rattle.std.specs.Prelude.{◌≡◌, ℕ, Bool, true, false, List, [], ◌∷◌, ◌++◌, map, Option, None, Some, Result, Ok, Err}
use Rattle.std.specs.FinMap.{get}
use Rattle.nv_index.specs.Table.{index_at}
use Rattle.policy_digest.specs.declared.table.Table.{Table}
use Rattle.policy_digest.specs.Plain.{plain_table}
use Rattle.policy_file.specs.declared.policy.Policy.{Policy}
use Rattle.policy_file.specs.PolicyText.{policy_text}
use Rattle.tpm_model.specs.declared.command.Command.TheVariants as command
use Rattle.tpm_model.specs.Events.{Event, Update, Define, SealPin, Other}
use Rattle.tpm_model.specs.World.{FiledPolicy, World}
use Rattle.pcrlock_answer.specs.declared.answer.Answer.{Answer}
use Rattle.pcrlock_answer.specs.declared.answer.Answer.TheVariants as said
use Rattle.pcrlock_answer.specs.Texts.{pin_text}
use Rattle.pcrlock_line.specs.declared.stop.Stop.TheVariants as stop
use Rattle.pcrlock_line.specs.Machine.{Machine}
use Rattle.pcrlock_line.specs.Outcome.{Fine, Refused, Stops}
use Rattle.pcrlock_deeds.specs.Acts.{Act, says, works}
use Rattle.pcrlock_deeds.specs.Deed.{Deed, files, ends, hashes, sends, sees, draws, writes, removes}
use Rattle.pcrlock_deeds.specs.PolicyAt.{policy_of}
use Rattle.pcrlock_update.specs.Changes.{refusal_in}
use Rattle.pcrlock_update.specs.NewPolicy.{content_for, made_text, new_public, stated, update_strings}
use Rattle.pcrlock_update.specs.RemovePolicy.{has_policy, removed_text}
use Rattle.pcrlock_update.specs.Sealed.{sealed_in}
use Rattle.pcrlock_update.specs.Update.{named_by, named_in, pin_in, tables_between, updated_text}
use Rattle.pcrlock_update.specs.declared.change.TpmChange.{TpmChange}
use Rattle.pcrlock_update.specs.declared.change.TpmChange.TheVariants as tpm

-- ---- a policy is taken away

-- the object that holds the pin goes, whether or not it is there, and then the policy file
abbrev pub pin_deed : List ℕ → Policy → Deed
pin_deed path policy = sends (Other (command.Evict policy.pin_object)) (λ response. removes path (files None) (ends (Fine removed_text)))

-- before them goes the index, where it holds the policy
abbrev pub index_deed : List ℕ → Policy → Bool → Deed
index_deed path policy true = sends (Other (command.NvUndefine policy.handle)) (λ response. pin_deed path policy)
index_deed path policy false = pin_deed path policy

-- the policy that the file at the path states is taken away
abbrev pub remove_deed : List ℕ → Policy → Deed
remove_deed path policy = sees (λ live. index_deed path policy (has_policy policy.index_policy (index_at policy.handle live.state.indices)))

-- by what reading the policy file gave
abbrev pub removal_act : List ℕ → Result (Option Policy) Answer → Act
removal_act path (Ok None) = says (Refused (said.NoPolicy path))
removal_act path (Ok (Some policy)) = works (remove_deed path policy)
removal_act path (Err answer) = says (Refused answer)

-- `remove-policy` over the policy file at the path
unfoldable pub remove_policy_act : List ℕ → Machine → World → Act
remove_policy_act path m w = removal_act path (policy_of m.files path)

-- ---- a table is put in force

-- a refusal that isn't passed over ends the changes
abbrev pub unless_refused : Option Answer → Deed → Deed
unless_refused None next = next
unless_refused (Some why) next = ends (Refused why)

-- one change of the TPM, as the event of its command, and then what else is to be done
abbrev pub sending : TpmChange → Event → Deed → Deed
sending change event next = sends event (λ response. unless_refused (refusal_in change response) next)

-- what else is to be done goes by the object that was sealed
abbrev pub with_object : Result ℕ Answer → (ℕ → Deed) → Deed
with_object (Ok object) next = next object
with_object (Err why) next = ends (Refused why)

-- the pin is sealed, bound to the index that is written with it
abbrev pub sealing : ℕ → List ℕ → (ℕ → Deed) → Deed
sealing index pin next = sends (SealPin index pin) (λ response. with_object (sealed_in response) next)

-- an index that is written with a pin, the object that holds the pin, and some tables, as what a file states
abbrev pub filed_of : ℕ → List ℕ → ℕ → List Table → FiledPolicy
filed_of index pin object tables = record { handle = index; pin = pin; pin_object = object; tables = map plain_table tables }

-- the policy file states them
abbrev pub stating : List ℕ → ℕ → List ℕ → ℕ → List Table → Deed → Deed
stating path index pin object tables next =
    writes path (policy_text (stated index pin object tables)) (files (Some (filed_of index pin object tables))) next

-- an old policy's pin goes
abbrev pub evicting : Option ℕ → Deed → Deed
evicting None next = next
evicting (Some object) next = sending (tpm.Evict object) (Other (command.Evict object)) next

-- ---- under a new index

-- the index is defined, in place of an unwritten one where such a one stands
abbrev pub defining : Bool → ℕ → List ℕ → Deed → Deed
defining true index pin next =
    sending (tpm.Undefine index) (Other (command.NvUndefine index)) (sending (tpm.Define (new_public index pin)) (Define (new_public index pin) pin) next)
defining false index pin next = sending (tpm.Define (new_public index pin)) (Define (new_public index pin) pin) next

-- the index is written, with the table's policy
abbrev pub updating : ℕ → List ℕ → Table → Deed → Deed
updating index pin table next = sending (tpm.Write index pin (content_for table)) (Update index pin (plain_table table)) next

-- the policy file is written, and then the index
abbrev pub forcing : List ℕ → ℕ → List ℕ → ℕ → Table → Deed → Deed
forcing path index pin object table next = stating path index pin object (table ∷ []) (updating index pin table next)

-- the index is defined, the pin sealed, and the table put in force; an old policy's pin goes
abbrev pub new_with_deed : List ℕ → List ℕ → Option ℕ → Bool → ℕ → Table → List ℕ → Deed
new_with_deed text path old stands index table pin =
    hashes (update_strings index pin table)
    (defining stands index pin
    (sealing index pin (λ object. forcing path index pin object table (evicting old (ends (Fine (text ++ made_text)))))))

-- the pin that was given, or the next random word
abbrev pub taken_pin : Option (List ℕ) → List (List ℕ) → Option (List ℕ)
taken_pin (Some pin) words = Some pin
taken_pin None [] = None
taken_pin None (word ∷ rest) = Some word

-- with this pin
abbrev pub new_deed : List ℕ → List ℕ → Option ℕ → Bool → ℕ → Table → Option (List ℕ) → Deed
new_deed text path old stands index table (Some pin) = new_with_deed text path old stands index table pin
new_deed text path old stands index table None =
    draws (λ word. new_with_deed (text ++ pin_text word) path old stands index table word) (ends (Stops stop.EntropyFault))

-- ---- under a written index

-- the policy file is written with the table that the index names and the new one, then the index, and then
-- the file with the new one alone
abbrev pub replacing : List ℕ → ℕ → List ℕ → ℕ → Option Table → Table → Deed → Deed
replacing path index pin object named table next =
    stating path index pin object (tables_between named table)
    (updating index pin table (stating path index pin object (table ∷ []) next))

-- with a pin that was given: it is sealed anew, and the old one goes
abbrev pub pinned_deed : List ℕ → List ℕ → Option Policy → ℕ → List ℕ → List ℕ → Table → Deed
pinned_deed text path found index pin content table =
    hashes (update_strings index pin table)
    (sealing index pin (λ object. replacing path index pin object (named_by content found) table (evicting (pin_in found) (ends (Fine (text ++ updated_text))))))

-- with the pin that the policy file's object holds
abbrev pub kept_deed : List ℕ → List ℕ → Policy → List ℕ → List ℕ → Table → Deed
kept_deed text path policy pin content table =
    hashes (update_strings policy.handle pin table)
    (replacing path policy.handle pin policy.pin_object (named_in content policy.tables) table (ends (Fine (text ++ updated_text))))

-- ---- the world afterwards

-- the table is the newest of the index, under the pin, and the policy file states it alone
pub record IsInForce (index : ℕ) (pin : List ℕ) (table : Table) (w : World) : Type 0 where
  pub object : ℕ
  pub live : get w.live index ≡ Some (record { pin = pin; table = plain_table table })
  pub filed : w.filed ≡ Some (filed_of index pin object (table ∷ []))

-- the table is the newest of the index
pub record IsNewest (index : ℕ) (table : Table) (w : World) : Type 0 where
  pub pin : List ℕ
  pub live : get w.live index ≡ Some (record { pin = pin; table = plain_table table })
