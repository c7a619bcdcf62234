-- What `make-policy` does: it foresees which values the asked PCRs may have, and puts the table of them in force.
use Rattle.std.specs.Prelude.{ℕ, ◌==◌, Bool, true, false, ◌&&◌, if◌then◌else◌, List, ◌∷◌, ◌++◌, length, codes, Option, None, Some, Result, Ok, Err}
use Rattle.std.specs.Str.{bytes_eq}
use Rattle.hash_bank.specs.HashedString.{HashedString}
use Rattle.nv_index.specs.IndexName.{index_name_of}
use Rattle.nv_index.specs.declared.index.NvPublic.{NvPublic}
use Rattle.policy_digest.specs.Pin.{pin_policy_of}
use Rattle.policy_file.specs.declared.policy.Policy.{Policy}
use Rattle.pcrlock_answer.specs.declared.answer.Answer.{Answer}
use Rattle.pcrlock_answer.specs.declared.answer.Answer.TheVariants as said
use Rattle.pcrlock_answer.specs.declared.place.Place.TheVariants as place
use Rattle.pcrlock_answer.specs.Texts.{line_end}
use Rattle.pcrlock_line.specs.Begun.{by_device}
use Rattle.pcrlock_line.specs.Machine.{Machine, Live, machine}
use Rattle.pcrlock_line.specs.Outcome.{Fine, Outcome, refused_line, unchanged}
use Rattle.pcrlock_deeds.specs.PolicyAt.{policy_of}
use Rattle.pcrlock_predict.specs.Inputs.{PlainInputs, inputs_of}
use Rattle.pcrlock_open.specs.Bound.{held_after, held_by, held_opened, held_strings}
use Rattle.pcrlock_update.specs.NewPolicy.{new_line}
use Rattle.pcrlock_update.specs.Standing.{standing_of}
use Rattle.pcrlock_update.specs.Update.{kept_line, pin_in, pinned_line}
use Rattle.pcrlock_policy.specs.Asked.{Asked, Target}
use Rattle.pcrlock_policy.specs.Foreseen.{Foreseen, foreseen_on}
use Rattle.pcrlock_policy.specs.IndexState.{index_state}
use Rattle.pcrlock_policy.specs.declared.looking.IndexState.{IndexState}
use Rattle.pcrlock_policy.specs.declared.looking.IndexState.TheVariants as state

-- the handle of the policy file's index, where one is there
abbrev pub handle_for : Target → Option Policy → ℕ
handle_for target None = target.index
handle_for target (Some policy) = policy.handle

-- ---- with the pin that the policy file's object holds

-- the bytes that were unsealed, if they are the pin of the index; else the policy file names an object that holds
-- another secret, and is malformed where the object's handle stands
abbrev pub pin_or_malformed : List ℕ → NvPublic → List ℕ → Result (List ℕ) Answer
pin_or_malformed path public bytes =
    if length bytes == 32 && bytes_eq (pin_policy_of bytes) public.policy then Ok bytes else Err (said.Malformed path (place.At 44))

-- the pin, or why there is none
abbrev pub pin_by : List ℕ → NvPublic → Result (List ℕ) Answer → Result (List ℕ) Answer
pin_by path public (Ok bytes) = pin_or_malformed path public bytes
pin_by path public (Err answer) = Err answer

-- an outcome behind one session, which was started and ended, and in which some strings were hashed
abbrev pub behind_session : Live → List HashedString → Outcome → Outcome
behind_session m strings o = record { ending = o.ending; after = o.after; hashed = strings ++ o.hashed; stops = machine m ∷ o.stops }

-- the table is put in force with the pin that was unsealed
abbrev pub unsealed_line : Target → Policy → Foreseen → List ℕ → Result (List ℕ) Answer → Live → Outcome
unsealed_line target policy foreseen content (Ok pin) m = kept_line foreseen.text target.path policy pin content foreseen.table m
unsealed_line target policy foreseen content (Err answer) m = refused_line answer (machine m)

-- the pin is unsealed from the policy file's object, as a key is
abbrev pub unsealing_line : Target → Policy → Foreseen → NvPublic → List ℕ → Live → Outcome
unsealing_line target policy foreseen public content m =
    behind_session m (held_strings policy m.state (held_by policy m.state))
    (unsealed_line target policy foreseen content
    (pin_by target.path public (held_opened policy policy.pin_object m.state))
    (record m { state = held_after policy m.state (held_by policy m.state) }))

-- ---- under a written index

unfoldable pub unchanged_text : List ℕ
unchanged_text = codes "unchanged" ++ line_end

-- the pin is the one that was given, else the one that the policy file's object holds; where there is neither, the
-- index is another's
abbrev pub replaced_line : Target → Option (List ℕ) → Option Policy → Foreseen → NvPublic → List ℕ → Live → Outcome
replaced_line target (Some pin) found foreseen public content m =
    pinned_line foreseen.text target.path found (handle_for target found) pin content foreseen.table m
replaced_line target None (Some policy) foreseen public content m = unsealing_line target policy foreseen public content m
replaced_line target None None foreseen public content m =
    refused_line (said.IndexTaken public.handle (index_name_of public)) (machine m)

-- by what the tests gave: whether nothing has to be changed
abbrev pub tested_line : Result Bool Answer → Target → Option Policy → Foreseen → NvPublic → List ℕ → Live → Outcome
tested_line (Ok true) target found foreseen public content m = unchanged (Fine (foreseen.text ++ unchanged_text)) (machine m)
tested_line (Ok false) target found foreseen public content m = replaced_line target target.pin found foreseen public content m
tested_line (Err answer) target found foreseen public content m = refused_line answer (machine m)

abbrev pub written_line : Target → Option Policy → Foreseen → NvPublic → List ℕ → Live → Outcome
written_line target found foreseen public content m =
    tested_line (standing_of found target.pin target.force public content foreseen.table) target found foreseen public content m

-- ---- under either

-- a new policy, in place of an unwritten index where one stands
abbrev pub fresh_line : Target → Option Policy → Bool → Foreseen → Live → Outcome
fresh_line target found stands foreseen m =
    new_line foreseen.text target.path (pin_in found) stands (handle_for target found) foreseen.table target.pin m

-- by what stands under the handle
abbrev pub index_line : Target → Option Policy → Foreseen → IndexState → Live → Outcome
index_line target found foreseen state.Missing m = fresh_line target found false foreseen m
index_line target found foreseen state.Unwritten m = fresh_line target found true foreseen m
index_line target found foreseen (state.Written public content) m = written_line target found foreseen public content m

-- the table is put in force
abbrev pub force_line : Target → Option Policy → Result Foreseen Answer → Live → Outcome
force_line target found (Ok foreseen) m = index_line target found foreseen (index_state (handle_for target found) m.state) m
force_line target found (Err answer) m = refused_line answer (machine m)

-- on a state that is stored
abbrev pub policy_on : Asked → Target → Option Policy → PlainInputs → Live → Outcome
policy_on asked target found inputs m = force_line target found (foreseen_on asked inputs m.state) m

-- by what the logs and the folders gave
abbrev pub inputs_line : List ℕ → Asked → Target → Option Policy → Result PlainInputs Answer → Machine → Outcome
inputs_line state asked target found (Ok inputs) m = by_device m.device state m (policy_on asked target found inputs)
inputs_line state asked target found (Err answer) m = refused_line answer m

-- by what the policy file gave
abbrev pub found_line : List ℕ → Asked → Target → Result (Option Policy) Answer → Machine → Outcome
found_line state asked target (Ok found) m = inputs_line state asked target found (inputs_of m.files asked.firmware asked.user asked.folders) m
found_line state asked target (Err answer) m = refused_line answer m

-- `make-policy` over what is stored in the state file
unfoldable pub make_policy_line : List ℕ → Asked → Target → Machine → Outcome
make_policy_line state asked target m = found_line state asked target (policy_of m.files target.path) m
