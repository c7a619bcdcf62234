-- Each step of `make-policy` keeps what is kept of the policy file.
use Rattle.std.proofs.Common.{◌≡◌, ℕ, Bool, true, false, cond, ◌&&◌, ◌||◌, List, length, refl, sym, ap, subst, ◌∙◌}
use Rattle.std.specs.Prelude.{Option, None, Some, Result, Ok, Err, ◌==◌}
use Rattle.std.specs.Str.{bytes_eq}
use Rattle.std.proofs.lemmas.Bool.{and_parts}
use Rattle.std.proofs.lemmas.Slice.Eq.{bytes_eq-Decides}
use Rattle.nv_index.specs.IndexName.{index_name_of}
use Rattle.nv_index.specs.declared.index.NvPublic.{NvPublic}
use Rattle.policy_digest.specs.Pin.{pin_policy_of}
use Rattle.policy_digest.specs.PlainTable.{PlainTable}
use Rattle.policy_digest.specs.Table.{valid_table}
use Rattle.policy_digest.specs.declared.table.Table.{Table}
use Rattle.policy_file.specs.declared.policy.Policy.{Policy}
use Rattle.policy_file.specs.PolicyText.{IsIndex}
use Rattle.policy_session.specs.declared.index.IndexError.{IndexError}
use Rattle.policy_walk.specs.Choosing.{chosen_of}
use Rattle.predictor.proofs.Sound.{HasVariants}
use Rattle.tpm_model.specs.declared.parts.Parts.{Parts}
use Rattle.tpm_model.specs.World.{World, hashed_world}
use Rattle.tpm_device.specs.Stored.{Stored, Holds}
use Rattle.tpm_worlds.specs.EventLists.{Safe}
use Rattle.pcrlock_answer.specs.declared.answer.Answer.{Answer}
use Rattle.pcrlock_answer.specs.declared.answer.Answer.TheVariants as said
use Rattle.pcrlock_answer.specs.declared.place.Place.TheVariants as place
use Rattle.pcrlock_line.specs.Machine.{Live, Machine}
use Rattle.pcrlock_line.specs.Worlds.{by_state}
use Rattle.pcrlock_deeds.specs.Acts.{HoldsAt, HoldsOn, IsSoundAct, act_world}
use Rattle.pcrlock_deeds.specs.Deed.{Deed}
use Rattle.pcrlock_deeds.specs.Doings.{world}
use Rattle.pcrlock_deeds.specs.Kept.{IsOwnKept, LeavesFiled}
use Rattle.pcrlock_deeds.specs.PolicyAt.{policy_of}
use Rattle.pcrlock_deeds.specs.Sound.{IsSound}
use Rattle.pcrlock_deeds.specs.Steps.{walked_live}
use Rattle.pcrlock_deeds.proofs.Done.{sound_on}
use Rattle.pcrlock_deeds.proofs.Tying.{own_tie}
use Rattle.pcrlock_open.specs.Bound.{held_by, held_opened, held_strings, plain_tables}
use Rattle.pcrlock_predict.specs.Inputs.{PlainInputs, inputs_of}
use Rattle.pcrlock_update.specs.Standing.{is_unchanged, standing_of}
use Rattle.pcrlock_update.specs.Update.{pin_in}
use Rattle.pcrlock_update.proofs.Sound.{kept_sound, new_sound, pinned_sound, policy_known}
use Rattle.pcrlock_policy.specs.Acts.{force_deed, found_act, fresh_deed, index_deed, inputs_act, make_policy_act, policy_deed, replaced_deed, tested_deed, unsealed_deed, unsealing_deed, walking, walking_by}
use Rattle.pcrlock_policy.specs.Asked.{Asked, Target}
use Rattle.pcrlock_policy.specs.Foreseen.{Foreseen, foreseen_on}
use Rattle.pcrlock_policy.specs.IndexState.{index_state}
use Rattle.pcrlock_policy.specs.declared.looking.IndexState.{IndexState}
use Rattle.pcrlock_policy.specs.declared.looking.IndexState.TheVariants as state
use Rattle.pcrlock_policy.specs.MakePolicy.{handle_for, pin_by}
use Rattle.pcrlock_policy.proofs.Valid.{foreseen_valid, inputs_have}

-- ---- the pin

same_bytes : (a b : List ℕ) → bytes_eq a b ≡ true → a ≡ b
same_bytes a b e = (bytes_eq-Decides a b).0 e

-- a pin that was unsealed is that of the index
pub pin_of_index : (path : List ℕ) (public : NvPublic) (opened : Result (List ℕ) Answer) (pin : List ℕ) → pin_by path public opened ≡ Ok pin → pin_policy_of pin ≡ public.policy
pin_of_index path public (Err answer) pin e = absurd (cc e)
pin_of_index path public (Ok bytes) pin e = by (length bytes == 32 && bytes_eq (pin_policy_of bytes) public.policy) refl e
  where
    by : (test : Bool) → (length bytes == 32 && bytes_eq (pin_policy_of bytes) public.policy) ≡ test → cond test (Ok bytes) (Err (said.Malformed path (place.At 44))) ≡ Ok pin → pin_policy_of pin ≡ public.policy
    by true is same =
        let one : bytes ≡ pin = cc in
        ap pin_policy_of (sym one) ∙ same_bytes (pin_policy_of bytes) public.policy (and_parts (length bytes == 32) (bytes_eq (pin_policy_of bytes) public.policy) is).1
    by false is same = absurd (cc same)

-- without a pin the tests pass where the policy file has the index's policy
pub file_digest : (policy : Policy) (force : Bool) (public : NvPublic) (content : List ℕ) (table : Table) (same : Bool) → standing_of (Some policy) None force public content table ≡ Ok same
    → policy.index_policy ≡ public.policy
file_digest policy force public content table same e = by (bytes_eq policy.index_policy public.policy) refl e
  where
    by : (test : Bool) → bytes_eq policy.index_policy public.policy ≡ test
        → cond (test || false) (Ok (is_unchanged (Some policy) force public content table)) (Err (said.IndexTaken public.handle (index_name_of public))) ≡ Ok same → policy.index_policy ≡ public.policy
    by true is f = same_bytes policy.index_policy public.policy is
    by false is f = absurd (cc f)

module _ (target : Target) where
  abbrev Kept : Live → World → Type 0
  Kept = IsOwnKept target.path

  abbrev Sound : Deed → Live → World → Type 0
  Sound = IsSound (LeavesFiled target.path)

  -- ---- with the pin that the policy file's object holds

  unsealed_sound : (policy : Policy) (foreseen : Foreseen) (public : NvPublic) (content : List ℕ) (opened : Result (List ℕ) Answer) (m : Live) (w : World) → valid_table foreseen.table ≡ true
      → Kept m w → policy_of m.files target.path ≡ Ok (Some policy) → policy.index_policy ≡ public.policy → ((pin : List ℕ) → opened ≡ Ok pin → pin_policy_of pin ≡ public.policy)
      → Safe (world (unsealed_deed target policy foreseen content opened) m w) → Sound (unsealed_deed target policy foreseen content opened) m w
  unsealed_sound policy foreseen public content (Ok pin) m w valid k read digest each safe =
      kept_sound foreseen.text target.path policy pin content foreseen.table m w valid k read (each pin refl ∙ sym digest) safe
  unsealed_sound policy foreseen public content (Err answer) m w valid k read digest each safe = tt

  walked_sound : (chosen : Option PlainTable) (next : Deed) (m : Live) (w : World) → Kept m w → Safe (world (walking_by chosen next) m w)
      → ((n : Live) → Kept n w → n.files ≡ m.files → Safe (world next n w) → Sound next n w) → Sound (walking_by chosen next) m w
  walked_sound None next m w k safe each = each m k refl safe
  walked_sound (Some table) next m w k safe each = each (walked_live m) ((own_tie target.path).walked m w k) refl safe

  walking_sound : (policy : Policy) (held : Result (NvPublic × List ℕ) IndexError) (next : Deed) (m : Live) (w : World) → Kept m w → Safe (world (walking policy held next) m w)
      → ((n : Live) → Kept n w → n.files ≡ m.files → Safe (world next n w) → Sound next n w) → Sound (walking policy held next) m w
  walking_sound policy (Ok held) next m w k safe each = walked_sound (chosen_of held.1 (plain_tables policy)) next m w k safe each
  walking_sound policy (Err why) next m w k safe each = each m k refl safe

  unsealing_sound : (policy : Policy) (foreseen : Foreseen) (public : NvPublic) (content : List ℕ) (m : Live) (w : World) → valid_table foreseen.table ≡ true
      → Kept m w → policy_of m.files target.path ≡ Ok (Some policy) → policy.index_policy ≡ public.policy
      → Safe (world (unsealing_deed target policy foreseen public content) m w) → Sound (unsealing_deed target policy foreseen public content) m w
  unsealing_sound policy foreseen public content m w valid k read digest safe =
      let held = held_by policy m.state in
      let opened = pin_by target.path public (held_opened policy policy.pin_object m.state) in
      let v = hashed_world (held_strings policy m.state held) w in
      walking_sound policy held (unsealed_deed target policy foreseen content opened) m v ((own_tie target.path).hashed (held_strings policy m.state held) m w k) safe
      (λ n kept same end. unsealed_sound policy foreseen public content opened n v valid kept (ap (λ files. policy_of files target.path) same ∙ read) digest
      (λ pin is. pin_of_index target.path public (held_opened policy policy.pin_object m.state) pin is) end)

  -- ---- under a written index

  replaced_sound : (pin : Option (List ℕ)) (found : Option Policy) (foreseen : Foreseen) (public : NvPublic) (content : List ℕ) (m : Live) (w : World) → IsIndex (handle_for target found)
      → valid_table foreseen.table ≡ true → Kept m w → policy_of m.files target.path ≡ Ok found
      → standing_of found pin target.force public content foreseen.table ≡ Ok false
      → Safe (world (replaced_deed target pin found foreseen public content) m w) → Sound (replaced_deed target pin found foreseen public content) m w
  replaced_sound (Some pin) found foreseen public content m w range valid k read tested safe =
      pinned_sound foreseen.text target.path found (handle_for target found) pin content foreseen.table m w range valid k read
  replaced_sound None (Some policy) foreseen public content m w range valid k read tested safe =
      unsealing_sound policy foreseen public content m w valid k read (file_digest policy target.force public content foreseen.table false tested) safe
  replaced_sound None None foreseen public content m w range valid k read tested safe = tt

  tested_sound : (tested : Result Bool Answer) (found : Option Policy) (foreseen : Foreseen) (public : NvPublic) (content : List ℕ) (m : Live) (w : World) → IsIndex (handle_for target found)
      → valid_table foreseen.table ≡ true → Kept m w → policy_of m.files target.path ≡ Ok found
      → standing_of found target.pin target.force public content foreseen.table ≡ tested
      → Safe (world (tested_deed tested target found foreseen public content) m w) → Sound (tested_deed tested target found foreseen public content) m w
  tested_sound (Ok true) found foreseen public content m w range valid k read is safe = tt
  tested_sound (Ok false) found foreseen public content m w range valid k read is safe =
      replaced_sound target.pin found foreseen public content m w range valid k read is safe
  tested_sound (Err answer) found foreseen public content m w range valid k read is safe = tt

  -- ---- under either

  -- the handle is one of an index
  handle_range : (found : Option Policy) (m : Live) (w : World) → IsIndex target.index → Kept m w → policy_of m.files target.path ≡ Ok found → IsIndex (handle_for target found)
  handle_range None m w range k read = range
  handle_range (Some policy) m w range k read = (policy_known target.path policy m w k read).valid.handle

  fresh_sound : (found : Option Policy) (stands : Bool) (foreseen : Foreseen) (m : Live) (w : World) → IsIndex (handle_for target found) → valid_table foreseen.table ≡ true
      → Sound (fresh_deed target found stands foreseen) m w
  fresh_sound found stands foreseen m w range valid =
      new_sound foreseen.text target.path (pin_in found) stands (handle_for target found) foreseen.table target.pin m w range valid

  indexed_sound : (found : Option Policy) (foreseen : Foreseen) (index : IndexState) (m : Live) (w : World) → IsIndex (handle_for target found)
      → valid_table foreseen.table ≡ true → Kept m w → policy_of m.files target.path ≡ Ok found
      → Safe (world (index_deed target found foreseen index) m w) → Sound (index_deed target found foreseen index) m w
  indexed_sound found foreseen state.Missing m w range valid k read safe = fresh_sound found false foreseen m w range valid
  indexed_sound found foreseen state.Unwritten m w range valid k read safe = fresh_sound found true foreseen m w range valid
  indexed_sound found foreseen (state.Written public content) m w range valid k read safe =
      tested_sound (standing_of found target.pin target.force public content foreseen.table) found foreseen public content m w range valid k read refl safe

  force_sound : (asked : Asked) (inputs : PlainInputs) (found : Option Policy) (foreseen : Result Foreseen Answer) (m : Live) (w : World) → HasVariants inputs.components
      → foreseen_on asked inputs m.state ≡ foreseen → IsIndex target.index → Kept m w → policy_of m.files target.path ≡ Ok found
      → Safe (world (force_deed target found foreseen) m w) → Sound (force_deed target found foreseen) m w
  force_sound asked inputs found (Ok foreseen) m w has is range k read safe =
      indexed_sound found foreseen (index_state (handle_for target found) m.state) m w (handle_range found m w range k read)
      (foreseen_valid asked inputs m.state foreseen has is) k read safe
  force_sound asked inputs found (Err answer) m w has is range k read safe = tt

  -- ---- the act

  -- what holds of the state that is stored
  on_state : (T : Live → World → Type 0) (m : Machine) (w : World) (s : Parts) → m.device ≡ Holds s → HoldsAt T m w → T (record { files = m.files; state = s; draws = m.draws }) w
  on_state T m w s e h = subst (λ (kept : Stored). HoldsOn T kept m w) e h

  inputs_sound : (asked : Asked) (found : Option Policy) (read : Result PlainInputs Answer) (m : Machine) (w : World) → inputs_of m.files asked.firmware asked.user asked.folders ≡ read
      → IsIndex target.index → policy_of m.files target.path ≡ Ok found → HoldsAt Kept m w → Safe (act_world (inputs_act asked target found read) m w)
      → IsSoundAct (LeavesFiled target.path) (inputs_act asked target found read) m w
  inputs_sound asked found (Ok inputs) m w is range policy k safe =
      sound_on (LeavesFiled target.path) (policy_deed asked target found inputs) m w
      (λ s e. let live : Live = record { files = m.files; state = s; draws = m.draws } in
      force_sound asked inputs found (foreseen_on asked inputs s) live w (inputs_have m.files asked.firmware asked.user asked.folders inputs is) refl range (on_state Kept m w s e k) policy
      (subst (λ (kept : Stored). Safe (by_state kept m w (world (policy_deed asked target found inputs)))) e safe))
  inputs_sound asked found (Err answer) m w is range policy k safe = tt

  found_sound : (asked : Asked) (read : Result (Option Policy) Answer) (m : Machine) (w : World) → policy_of m.files target.path ≡ read → IsIndex target.index → HoldsAt Kept m w
      → Safe (act_world (found_act asked target read m) m w) → IsSoundAct (LeavesFiled target.path) (found_act asked target read m) m w
  found_sound asked (Ok found) m w is range k safe = inputs_sound asked found (inputs_of m.files asked.firmware asked.user asked.folders) m w refl range is k safe
  found_sound asked (Err answer) m w is range k safe = tt

pub make_policy_sound : (asked : Asked) (target : Target) (m : Machine) (w : World) → IsIndex target.index → HoldsAt (IsOwnKept target.path) m w
    → Safe (act_world (make_policy_act asked target m w) m w) → IsSoundAct (LeavesFiled target.path) (make_policy_act asked target m w) m w
unfolding make_policy_act
make_policy_sound asked target m w range k safe = found_sound target asked (policy_of m.files target.path) m w refl range k safe
