-- `make-policy` comes to its act.
use Rattle.std.proofs.Common.{ℕ, Bool, true, false, List, ◌++◌, inl, inr, Contains}
use Rattle.std.specs.Prelude.{Option, None, Some, Result, Ok, Err}
use Rattle.std.proofs.lemmas.List.Elements.{Contains-append_cases, Contains-append_left, Contains-append_right}
use Rattle.hash_bank.specs.HashedString.{HashedString}
use Rattle.nv_index.specs.IndexName.{index_name_of}
use Rattle.nv_index.specs.declared.index.NvPublic.{NvPublic}
use Rattle.policy_digest.specs.PlainTable.{PlainTable}
use Rattle.policy_file.specs.declared.policy.Policy.{Policy}
use Rattle.policy_session.specs.declared.index.IndexError.{IndexError}
use Rattle.policy_walk.specs.Choosing.{chosen_of}
use Rattle.pcrlock_answer.specs.declared.answer.Answer.{Answer}
use Rattle.pcrlock_answer.specs.declared.answer.Answer.TheVariants as said
use Rattle.pcrlock_line.specs.Machine.{Live, Machine, machine}
use Rattle.pcrlock_line.specs.Outcome.{Fine, Outcome, refused_line, unchanged}
use Rattle.pcrlock_deeds.specs.Acts.{IsAct, IsDone, act_outcome}
use Rattle.pcrlock_deeds.specs.Deed.{Deed, hashes}
use Rattle.pcrlock_deeds.specs.Doings.{hashed, outcome, stops}
use Rattle.pcrlock_deeds.specs.PolicyAt.{policy_of}
use Rattle.pcrlock_deeds.specs.Steps.{walked_live}
use Rattle.pcrlock_deeds.proofs.Done.{done_itself, works_on}
use Rattle.pcrlock_open.specs.Bound.{held_after, held_by, held_opened, held_strings, plain_tables, table_after}
use Rattle.pcrlock_predict.specs.Inputs.{PlainInputs, inputs_of}
use Rattle.pcrlock_update.specs.Standing.{standing_of}
use Rattle.pcrlock_update.specs.Update.{pin_in}
use Rattle.pcrlock_update.proofs.Comes.{kept_as, new_as, pinned_as, same_behind, same_first}
use Rattle.pcrlock_policy.specs.Acts.{force_deed, found_act, fresh_deed, index_deed, inputs_act, make_policy_act, policy_deed, replaced_deed, tested_deed, unsealed_deed, unsealing_deed, walking, walking_by}
use Rattle.pcrlock_policy.specs.Asked.{Asked, Target}
use Rattle.pcrlock_policy.specs.Foreseen.{Foreseen, foreseen_on}
use Rattle.pcrlock_policy.specs.IndexState.{index_state}
use Rattle.pcrlock_policy.specs.declared.looking.IndexState.{IndexState}
use Rattle.pcrlock_policy.specs.declared.looking.IndexState.TheVariants as state
use Rattle.pcrlock_policy.specs.MakePolicy.{behind_session, force_line, found_line, fresh_line, handle_for, index_line, inputs_line, make_policy_line, pin_by, policy_on, replaced_line, tested_line, unchanged_text, unsealed_line, unsealing_line}

-- ---- a session of one's own

more_strings : (first some others : List HashedString) → ((x : HashedString) → Contains some x → Contains others x) → (x : HashedString) → Contains (first ++ some) x → Contains (first ++ others) x
more_strings first some others each x h = elim (Contains-append_cases first some x h) [
  | inl before ↦ Contains-append_left first others x before
  | inr behind ↦ Contains-append_right first others x (each x behind)
]

-- the machine before a session is named once more where none was started
walked_as : (strings : List HashedString) (o : Outcome) (d : Deed) (m : Live) (chosen : Option PlainTable)
    → IsDone o (outcome d (record m { state = table_after m.state chosen })) → IsDone (behind_session m strings o) (outcome (hashes strings (walking_by chosen d)) m)
walked_as strings o d m None h = record {
  ending = h.ending;
  after = h.after;
  stops = same_first m o.stops d h.stops;
  hashed = more_strings strings o.hashed (hashed d m) h.hashed;
}
walked_as strings o d m (Some table) h = record {
  ending = h.ending;
  after = h.after;
  stops = same_behind (machine m) o.stops (stops d (walked_live m)) h.stops;
  hashed = more_strings strings o.hashed (hashed d (walked_live m)) h.hashed;
}

walking_as : (strings : List HashedString) (policy : Policy) (held : Result (NvPublic × List ℕ) IndexError) (o : Outcome) (d : Deed) (m : Live)
    → IsDone o (outcome d (record m { state = held_after policy m.state held })) → IsDone (behind_session m strings o) (outcome (hashes strings (walking policy held d)) m)
walking_as strings policy (Ok held) o d m h = walked_as strings o d m (chosen_of held.1 (plain_tables policy)) h
walking_as strings policy (Err why) o d m h = walked_as strings o d m None h

unsealed_as : (target : Target) (policy : Policy) (foreseen : Foreseen) (content : List ℕ) (opened : Result (List ℕ) Answer) (m : Live)
    → IsDone (unsealed_line target policy foreseen content opened m) (outcome (unsealed_deed target policy foreseen content opened) m)
unsealed_as target policy foreseen content (Ok pin) m = kept_as foreseen.text target.path policy pin content foreseen.table m
unsealed_as target policy foreseen content (Err answer) m = done_itself (refused_line answer (machine m))

unsealing_as : (target : Target) (policy : Policy) (foreseen : Foreseen) (public : NvPublic) (content : List ℕ) (m : Live)
    → IsDone (unsealing_line target policy foreseen public content m) (outcome (unsealing_deed target policy foreseen public content) m)
unsealing_as target policy foreseen public content m =
    let held = held_by policy m.state in
    let opened = pin_by target.path public (held_opened policy policy.pin_object m.state) in
    let n : Live = record m { state = held_after policy m.state held } in
    walking_as (held_strings policy m.state held) policy held (unsealed_line target policy foreseen content opened n) (unsealed_deed target policy foreseen content opened) m
    (unsealed_as target policy foreseen content opened n)

-- ---- the cases

replaced_as : (target : Target) (pin : Option (List ℕ)) (found : Option Policy) (foreseen : Foreseen) (public : NvPublic) (content : List ℕ) (m : Live)
    → IsDone (replaced_line target pin found foreseen public content m) (outcome (replaced_deed target pin found foreseen public content) m)
replaced_as target (Some pin) found foreseen public content m = pinned_as foreseen.text target.path found (handle_for target found) pin content foreseen.table m
replaced_as target None (Some policy) foreseen public content m = unsealing_as target policy foreseen public content m
replaced_as target None None foreseen public content m = done_itself (refused_line (said.IndexTaken public.handle (index_name_of public)) (machine m))

tested_as : (tested : Result Bool Answer) (target : Target) (found : Option Policy) (foreseen : Foreseen) (public : NvPublic) (content : List ℕ) (m : Live)
    → IsDone (tested_line tested target found foreseen public content m) (outcome (tested_deed tested target found foreseen public content) m)
tested_as (Ok true) target found foreseen public content m = done_itself (unchanged (Fine (foreseen.text ++ unchanged_text)) (machine m))
tested_as (Ok false) target found foreseen public content m = replaced_as target target.pin found foreseen public content m
tested_as (Err answer) target found foreseen public content m = done_itself (refused_line answer (machine m))

fresh_as : (target : Target) (found : Option Policy) (stands : Bool) (foreseen : Foreseen) (m : Live)
    → IsDone (fresh_line target found stands foreseen m) (outcome (fresh_deed target found stands foreseen) m)
fresh_as target found stands foreseen m = new_as foreseen.text target.path (pin_in found) stands (handle_for target found) foreseen.table target.pin m

index_as : (target : Target) (found : Option Policy) (foreseen : Foreseen) (index : IndexState) (m : Live)
    → IsDone (index_line target found foreseen index m) (outcome (index_deed target found foreseen index) m)
index_as target found foreseen state.Missing m = fresh_as target found false foreseen m
index_as target found foreseen state.Unwritten m = fresh_as target found true foreseen m
index_as target found foreseen (state.Written public content) m =
    tested_as (standing_of found target.pin target.force public content foreseen.table) target found foreseen public content m

force_as : (target : Target) (found : Option Policy) (read : Result Foreseen Answer) (m : Live) → IsDone (force_line target found read m) (outcome (force_deed target found read) m)
force_as target found (Ok foreseen) m = index_as target found foreseen (index_state (handle_for target found) m.state) m
force_as target found (Err answer) m = done_itself (refused_line answer (machine m))

inputs_as : (state : List ℕ) (asked : Asked) (target : Target) (found : Option Policy) (read : Result PlainInputs Answer) (m : Machine)
    → IsDone (inputs_line state asked target found read m) (act_outcome (inputs_act asked target found read) state m)
inputs_as state asked target found (Ok inputs) m =
    works_on (policy_on asked target found inputs) (policy_deed asked target found inputs) state m (λ live. force_as target found (foreseen_on asked inputs live.state) live)
inputs_as state asked target found (Err answer) m = done_itself (refused_line answer m)

found_as : (state : List ℕ) (asked : Asked) (target : Target) (read : Result (Option Policy) Answer) (m : Machine)
    → IsDone (found_line state asked target read m) (act_outcome (found_act asked target read m) state m)
found_as state asked target (Ok found) m = inputs_as state asked target found (inputs_of m.files asked.firmware asked.user asked.folders) m
found_as state asked target (Err answer) m = done_itself (refused_line answer m)

pub make_policy_is : (state : List ℕ) (asked : Asked) (target : Target) → IsAct (make_policy_line state asked target) state (make_policy_act asked target)
unfolding make_policy_line make_policy_act
make_policy_is state asked target m w = found_as state asked target (policy_of m.files target.path) m
