-- Where `make-policy` comes to a good end, the table that was foreseen is the newest, and what is filed is current.
use Rattle.std.proofs.Common.{◌≡◌, ℕ, Bool, true, false, cond, not, ◌&&◌, ◌||◌, List, map, refl, sym, ap, subst, ◌∙◌, arith, Contains}
use Rattle.std.specs.Prelude.{Option, None, Some, Result, Ok, Err}
use Rattle.std.specs.FinMap.{get}
use Rattle.std.specs.Str.{bytes_eq}
use Rattle.std.proofs.lemmas.Bool.{and_parts}
use Rattle.std.proofs.lemmas.List.{get_or-map, length-map}
use Rattle.nv_index.specs.IndexName.{index_name_of}
use Rattle.nv_index.specs.Table.{index_at}
use Rattle.nv_index.specs.declared.index.Index.{Index}
use Rattle.nv_index.specs.declared.index.NvPublic.{NvPublic}
use Rattle.nv_index.specs.declared.index.Written.{Written}
use Rattle.policy_digest.specs.Pin.{pin_policy_of}
use Rattle.policy_digest.specs.Plain.{plain_table}
use Rattle.policy_digest.specs.PlainTable.{PlainTable}
use Rattle.policy_digest.specs.Table.{valid_table}
use Rattle.policy_digest.specs.declared.table.Table.{Table}
use Rattle.policy_file.specs.declared.policy.Policy.{Policy}
use Rattle.policy_session.specs.declared.index.IndexError.{IndexError}
use Rattle.policy_walk.specs.Choosing.{chosen_of}
use Rattle.predictor.proofs.Sound.{HasVariants}
use Rattle.tpm_model.specs.declared.parts.Parts.{Parts}
use Rattle.tpm_model.specs.Events.{Clean}
use Rattle.tpm_model.specs.World.{FiledPolicy, LiveIndex, World, hashed_world}
use Rattle.tpm_device.specs.Stored.{Stored, Holds, TooLarge, Malformed, BadRule}
use Rattle.tpm_worlds.specs.EventLists.{Safe}
use Rattle.pcrlock_answer.specs.declared.answer.Answer.{Answer}
use Rattle.pcrlock_answer.specs.declared.answer.Answer.TheVariants as said
use Rattle.pcrlock_line.specs.Begun.{by_device}
use Rattle.pcrlock_line.specs.Machine.{Live, Machine}
use Rattle.pcrlock_line.specs.Outcome.{Fine}
use Rattle.pcrlock_line.specs.Worlds.{by_state}
use Rattle.pcrlock_deeds.specs.Acts.{HoldsAt, HoldsOn, act_outcome, act_world}
use Rattle.pcrlock_deeds.specs.Deed.{Deed}
use Rattle.pcrlock_deeds.specs.Doings.{ending, outcome, world}
use Rattle.pcrlock_deeds.specs.Filed.{Current, CurrentOf, IsFiledAs}
use Rattle.pcrlock_deeds.specs.Kept.{IsOwnKept}
use Rattle.pcrlock_deeds.specs.PolicyAt.{policy_of}
use Rattle.pcrlock_deeds.specs.Steps.{walked_live}
use Rattle.pcrlock_open.specs.Bound.{held_by, held_opened, held_strings, plain_tables}
use Rattle.pcrlock_predict.specs.Inputs.{PlainInputs, inputs_of}
use Rattle.pcrlock_update.specs.Acts.{IsInForce, IsNewest}
use Rattle.pcrlock_update.specs.NewPolicy.{content_for}
use Rattle.pcrlock_update.specs.Standing.{file_has, file_holds, is_unchanged, pin_has, standing_of, with_given}
use Rattle.pcrlock_update.specs.Update.{pin_in}
use Rattle.pcrlock_update.proofs.Makes.{in_force_current, kept_makes, new_makes, pinned_makes}
use Rattle.pcrlock_update.proofs.Unchanged.{unchanged_listed, unchanged_makes}
use Rattle.pcrlock_policy.specs.Acts.{HasMade, force_deed, found_act, fresh_deed, index_deed, inputs_act, make_policy_act, policy_deed, replaced_deed, tested_deed, unsealed_deed, unsealing_deed, walking, walking_by}
use Rattle.pcrlock_policy.specs.Asked.{Asked, Target}
use Rattle.pcrlock_policy.specs.Foreseen.{Foreseen, foreseen_on}
use Rattle.pcrlock_policy.specs.IndexState.{by_index, by_write, index_state}
use Rattle.pcrlock_policy.specs.declared.looking.IndexState.{IndexState}
use Rattle.pcrlock_policy.specs.declared.looking.IndexState.TheVariants as state
use Rattle.pcrlock_policy.specs.MakePolicy.{handle_for, make_policy_line, pin_by}
use Rattle.pcrlock_policy.proofs.Acts.{make_policy_is}
use Rattle.pcrlock_policy.proofs.Valid.{foreseen_valid, inputs_have}

-- the table is the newest of the index, and what is filed is current
record IsMade (index : ℕ) (table : Table) (w : World) : Type 0 where
  newest : IsNewest index table w
  current : Current w

made_by : (index : ℕ) (pin : List ℕ) (table : Table) (w : World) → IsInForce index pin table w → IsMade index table w
made_by index pin table w h = record { newest = record { pin = pin; live = h.live }; current = in_force_current index pin table w h }

-- a file that states the newest table is current
stated_current : (path : List ℕ) (policy : Policy) (table : Table) (m : Live) (w : World) → IsOwnKept path m w → policy_of m.files path ≡ Ok (Some policy)
    → Contains policy.tables table → IsNewest policy.handle table w → Current w
stated_current path policy table m w k read listed newest = by_filed w.filed k.filed
  where
    one_policy : (a b : Policy) (r : Result (Option Policy) Answer) → r ≡ Ok (Some a) → r ≡ Ok (Some b) → a ≡ b
    one_policy a b r e g = let both = sym e ∙ g in cc

    one_index : (a b : LiveIndex) → Some a ≡ Some b → a ≡ b
    one_index a b e = cc

    plain_listed : Contains (map plain_table policy.tables) (plain_table table)
    plain_listed =
        (listed.0, omega (arith, listed.1, length-map policy.tables plain_table), get_or-map plain_table policy.tables listed.0 table (plain_table table) listed.1 ∙ ap plain_table listed.2)

    by_filed : (o : Option FiledPolicy) → IsFiledAs m.files path w o → CurrentOf w o
    by_filed None none = tt
    by_filed (Some filed) f = λ live found same.
        let is : f.policy ≡ policy = one_policy f.policy policy (policy_of m.files path) f.read read in
        let handle : filed.handle ≡ policy.handle = sym f.handle ∙ ap (λ (x : Policy). x.handle) is in
        let one : live ≡ record { pin = newest.pin; table = plain_table table } =
        one_index live (record { pin = newest.pin; table = plain_table table }) (sym found ∙ ap (get w.live) handle ∙ newest.live) in
        let tables : map plain_table policy.tables ≡ filed.tables = ap (λ (x : Policy). map plain_table x.tables) (sym is) ∙ f.tables in
        subst (Contains filed.tables) (sym (ap (λ (x : LiveIndex). x.table) one)) (subst (λ (list : List PlainTable). Contains list (plain_table table)) tables plain_listed)

-- ---- what the tests say where nothing has to be changed

given_says : (pin : Option (List ℕ)) (digest : List ℕ) (same : Bool) → with_given pin digest same ≡ Ok true → same ≡ true
given_says None digest same e = cc
given_says (Some pin) digest same e = by (bytes_eq (pin_policy_of pin) digest) e
  where
    by : (test : Bool) → cond test (Ok same) (Err (said.PinRefused (pin_policy_of pin) digest)) ≡ Ok true → same ≡ true
    by true f = cc
    by false f = absurd (cc f)

tests_say : (found : Option Policy) (pin : Option (List ℕ)) (force : Bool) (public : NvPublic) (content : List ℕ) (table : Table) → standing_of found pin force public content table ≡ Ok true
    → is_unchanged found force public content table ≡ true
tests_say found pin force public content table e = by (file_has public.policy found || pin_has public.policy pin) e
  where
    by : (test : Bool) → cond test (with_given pin public.policy (is_unchanged found force public content table)) (Err (said.IndexTaken public.handle (index_name_of public))) ≡ Ok true
        → is_unchanged found force public content table ≡ true
    by true f = given_says pin public.policy (is_unchanged found force public content table) f
    by false f = absurd (cc f)

-- so a policy file is there
none_unchanged : (force : Bool) (public : NvPublic) (content : List ℕ) (table : Table) → is_unchanged None force public content table ≡ true → ⊥
none_unchanged force public content table e =
    let a = and_parts (not force && file_has public.policy None && file_holds table None) (bytes_eq content (content_for table)) e in
    let b = and_parts (not force && file_has public.policy None) (file_holds table None) a.0 in
    cc

-- the index of the handle has this public area, and was written with this content
pub record HasWritten (handle : ℕ) (public : NvPublic) (content : List ℕ) (s : Parts) : Type 0 where
  pub index : Index
  pub found : index_at handle s.indices ≡ Some index
  pub written : Written
  pub was : index.written ≡ Some written
  pub area : index.public ≡ public
  pub held : written.value ≡ content

same_written : (public other : NvPublic) (content bytes : List ℕ) → state.Written public content ≡ state.Written other bytes → (public ≡ other) × (content ≡ bytes)
same_written public other content bytes e = (cc, cc)

pub has_written : (handle : ℕ) (public : NvPublic) (content : List ℕ) (s : Parts) → index_state handle s ≡ state.Written public content → HasWritten handle public content s
has_written handle public content s is = by (index_at handle s.indices) refl is
  where
    last : (index : Index) (o : Option Written) → index_at handle s.indices ≡ Some index → index.written ≡ o → by_write index.public o ≡ state.Written public content → HasWritten handle public content s
    last index None at was e = absurd (cc e)
    last index (Some written) at was e =
        let same = same_written index.public public written.value content e in
        record { index = index; found = at; written = written; was = was; area = same.0; held = same.1 }

    by : (o : Option Index) → index_at handle s.indices ≡ o → by_index o ≡ state.Written public content → HasWritten handle public content s
    by None at e = absurd (cc e)
    by (Some index) at e = last index index.written at refl e

module _ (target : Target) (out : List ℕ) where
  abbrev Kept : Live → World → Type 0
  Kept = IsOwnKept target.path

  -- ---- with the pin that the policy file's object holds

  unsealed_makes : (policy : Policy) (foreseen : Foreseen) (content : List ℕ) (opened : Result (List ℕ) Answer) (m : Live) (w : World)
      → ending (unsealed_deed target policy foreseen content opened) m ≡ Fine out → IsMade policy.handle foreseen.table (world (unsealed_deed target policy foreseen content opened) m w)
  unsealed_makes policy foreseen content (Ok pin) m w fine =
      let d = unsealed_deed target policy foreseen content (Ok pin) in
      made_by policy.handle pin foreseen.table (world d m w) (kept_makes foreseen.text target.path policy pin content foreseen.table m w out fine)
  unsealed_makes policy foreseen content (Err answer) m w fine = absurd (cc fine)

  walked_makes : (P : World → Type 0) (chosen : Option PlainTable) (next : Deed) (m : Live) (w : World) → ending (walking_by chosen next) m ≡ Fine out
      → ((n : Live) → ending next n ≡ Fine out → P (world next n w)) → P (world (walking_by chosen next) m w)
  walked_makes P None next m w fine each = each m fine
  walked_makes P (Some table) next m w fine each = each (walked_live m) fine

  walking_makes : (P : World → Type 0) (policy : Policy) (held : Result (NvPublic × List ℕ) IndexError) (next : Deed) (m : Live) (w : World) → ending (walking policy held next) m ≡ Fine out
      → ((n : Live) → ending next n ≡ Fine out → P (world next n w)) → P (world (walking policy held next) m w)
  walking_makes P policy (Ok held) next m w fine each = walked_makes P (chosen_of held.1 (plain_tables policy)) next m w fine each
  walking_makes P policy (Err why) next m w fine each = each m fine

  unsealing_makes : (policy : Policy) (foreseen : Foreseen) (public : NvPublic) (content : List ℕ) (m : Live) (w : World)
      → ending (unsealing_deed target policy foreseen public content) m ≡ Fine out → IsMade policy.handle foreseen.table (world (unsealing_deed target policy foreseen public content) m w)
  unsealing_makes policy foreseen public content m w fine =
      let held = held_by policy m.state in
      let opened = pin_by target.path public (held_opened policy policy.pin_object m.state) in
      let v = hashed_world (held_strings policy m.state held) w in
      walking_makes (IsMade policy.handle foreseen.table) policy held (unsealed_deed target policy foreseen content opened) m v fine
      (λ n f. unsealed_makes policy foreseen content opened n v f)

  -- ---- under a written index

  replaced_makes : (pin : Option (List ℕ)) (found : Option Policy) (foreseen : Foreseen) (public : NvPublic) (content : List ℕ) (m : Live) (w : World)
      → ending (replaced_deed target pin found foreseen public content) m ≡ Fine out
      → IsMade (handle_for target found) foreseen.table (world (replaced_deed target pin found foreseen public content) m w)
  replaced_makes (Some pin) found foreseen public content m w fine =
      let d = replaced_deed target (Some pin) found foreseen public content in
      made_by (handle_for target found) pin foreseen.table (world d m w)
      (pinned_makes foreseen.text target.path found (handle_for target found) pin content foreseen.table m w out fine)
  replaced_makes None (Some policy) foreseen public content m w fine = unsealing_makes policy foreseen public content m w fine
  replaced_makes None None foreseen public content m w fine = absurd (cc fine)

  -- nothing had to be changed
  unchanged_made : (found : Option Policy) (foreseen : Foreseen) (public : NvPublic) (content : List ℕ) (m : Live) (w : World) → valid_table foreseen.table ≡ true
      → Kept m w → Clean w → Safe w → policy_of m.files target.path ≡ Ok found → HasWritten (handle_for target found) public content m.state
      → is_unchanged found target.force public content foreseen.table ≡ true → IsMade (handle_for target found) foreseen.table w
  unchanged_made None foreseen public content m w valid k clean safe read there same = absurd (none_unchanged target.force public content foreseen.table same)
  unchanged_made (Some policy) foreseen public content m w valid k clean safe read there same =
      let still : is_unchanged (Some policy) target.force there.index.public there.written.value foreseen.table ≡ true =
      subst (λ (p : NvPublic). is_unchanged (Some policy) target.force p there.written.value foreseen.table ≡ true) (sym there.area)
      (subst (λ (bytes : List ℕ). is_unchanged (Some policy) target.force public bytes foreseen.table ≡ true) (sym there.held) same) in
      let newest = unchanged_makes target.path policy foreseen.table there.index there.written m w target.force k clean safe read valid there.found there.was still in
      let listed = unchanged_listed policy target.force there.index.public there.written.value foreseen.table still in
      record { newest = newest; current = stated_current target.path policy foreseen.table m w k read listed newest }

  tested_makes : (tested : Result Bool Answer) (found : Option Policy) (foreseen : Foreseen) (public : NvPublic) (content : List ℕ) (m : Live) (w : World) → valid_table foreseen.table ≡ true
      → Kept m w → policy_of m.files target.path ≡ Ok found → HasWritten (handle_for target found) public content m.state
      → standing_of found target.pin target.force public content foreseen.table ≡ tested
      → (let d = tested_deed tested target found foreseen public content in
      ending d m ≡ Fine out → Clean (world d m w) → Safe (world d m w) → IsMade (handle_for target found) foreseen.table (world d m w))
  tested_makes (Ok true) found foreseen public content m w valid k read there is fine clean safe =
      unchanged_made found foreseen public content m w valid k clean safe read there (tests_say found target.pin target.force public content foreseen.table is)
  tested_makes (Ok false) found foreseen public content m w valid k read there is fine clean safe = replaced_makes target.pin found foreseen public content m w fine
  tested_makes (Err answer) found foreseen public content m w valid k read there is fine clean safe = absurd (cc fine)

  -- ---- under either

  fresh_makes : (found : Option Policy) (stands : Bool) (foreseen : Foreseen) (m : Live) (w : World) → ending (fresh_deed target found stands foreseen) m ≡ Fine out
      → IsMade (handle_for target found) foreseen.table (world (fresh_deed target found stands foreseen) m w)
  fresh_makes found stands foreseen m w fine =
      let made = new_makes foreseen.text target.path (pin_in found) stands (handle_for target found) foreseen.table target.pin m w out fine in
      made_by (handle_for target found) made.0 foreseen.table (world (fresh_deed target found stands foreseen) m w) made.2

  indexed_makes : (found : Option Policy) (foreseen : Foreseen) (index : IndexState) (m : Live) (w : World) → valid_table foreseen.table ≡ true
      → Kept m w → policy_of m.files target.path ≡ Ok found → index_state (handle_for target found) m.state ≡ index
      → (let d = index_deed target found foreseen index in
      ending d m ≡ Fine out → Clean (world d m w) → Safe (world d m w) → IsMade (handle_for target found) foreseen.table (world d m w))
  indexed_makes found foreseen state.Missing m w valid k read at fine clean safe = fresh_makes found false foreseen m w fine
  indexed_makes found foreseen state.Unwritten m w valid k read at fine clean safe = fresh_makes found true foreseen m w fine
  indexed_makes found foreseen (state.Written public content) m w valid k read at fine clean safe =
      tested_makes (standing_of found target.pin target.force public content foreseen.table) found foreseen public content m w valid k read
      (has_written (handle_for target found) public content m.state at) refl fine clean safe

  -- ---- the whole

  forced : (asked : Asked) (inputs : PlainInputs) (found : Option Policy) (read : Result Foreseen Answer) (files : Live) (w : World) → HasVariants inputs.components
      → foreseen_on asked inputs files.state ≡ read → Kept files w → policy_of files.files target.path ≡ Ok found
      → (let d = force_deed target found read in
      ending d files ≡ Fine out → Clean (world d files w) → Safe (world d files w)
      → (foreseen : Foreseen) × (foreseen_on asked inputs files.state ≡ Ok foreseen) × IsMade (handle_for target found) foreseen.table (world d files w))
  forced asked inputs found (Ok foreseen) m w has is k read fine clean safe =
      (foreseen, is, indexed_makes found foreseen (index_state (handle_for target found) m.state) m w (foreseen_valid asked inputs m.state foreseen has is) k read refl fine clean safe)
  forced asked inputs found (Err answer) m w has is k read fine clean safe = absurd (cc fine)

  on_stored : (asked : Asked) (inputs : PlainInputs) (found : Option Policy) (state : List ℕ) (kept : Stored) (m : Machine) (w : World)
      → inputs_of m.files asked.firmware asked.user asked.folders ≡ Ok inputs → policy_of m.files target.path ≡ Ok found → m.device ≡ kept → HoldsOn Kept kept m w
      → (let d = policy_deed asked target found inputs in
      (by_device kept state m (outcome d)).ending ≡ Fine out → Clean (by_state kept m w (world d)) → Safe (by_state kept m w (world d)) → HasMade asked target m (by_state kept m w (world d)))
  on_stored asked inputs found state (Holds s) m w took read is k fine clean safe =
      let live : Live = record { files = m.files; state = s; draws = m.draws } in
      let made = forced asked inputs found (foreseen_on asked inputs s) live w (inputs_have m.files asked.firmware asked.user asked.folders inputs took) refl k read fine clean safe in
      record { found = found; read = read; inputs = inputs; took = took; state = s; stored = is; foreseen = made.0; is = made.1; newest = made.2.newest; current = made.2.current }
  on_stored asked inputs found state (TooLarge size) m w took read is k fine clean safe = absurd k
  on_stored asked inputs found state (Malformed at) m w took read is k fine clean safe = absurd k
  on_stored asked inputs found state (BadRule rule) m w took read is k fine clean safe = absurd k

  on_inputs : (asked : Asked) (found : Option Policy) (state : List ℕ) (inputs : Result PlainInputs Answer) (m : Machine) (w : World)
      → inputs_of m.files asked.firmware asked.user asked.folders ≡ inputs → policy_of m.files target.path ≡ Ok found → HoldsAt Kept m w
      → (let act = inputs_act asked target found inputs in
      (act_outcome act state m).ending ≡ Fine out → Clean (act_world act m w) → Safe (act_world act m w) → HasMade asked target m (act_world act m w))
  on_inputs asked found state (Ok inputs) m w took read k fine clean safe = on_stored asked inputs found state m.device m w took read refl k fine clean safe
  on_inputs asked found state (Err answer) m w took read k fine clean safe = absurd (cc fine)

  on_found : (asked : Asked) (state : List ℕ) (found : Result (Option Policy) Answer) (m : Machine) (w : World) → policy_of m.files target.path ≡ found → HoldsAt Kept m w
      → (let act = found_act asked target found m in
      (act_outcome act state m).ending ≡ Fine out → Clean (act_world act m w) → Safe (act_world act m w) → HasMade asked target m (act_world act m w))
  on_found asked state (Ok found) m w read k fine clean safe =
      on_inputs asked found state (inputs_of m.files asked.firmware asked.user asked.folders) m w refl read k fine clean safe
  on_found asked state (Err answer) m w read k fine clean safe = absurd (cc fine)

  act_makes : (asked : Asked) (state : List ℕ) (m : Machine) (w : World) → HoldsAt Kept m w
      → (let act = make_policy_act asked target m w in
      (act_outcome act state m).ending ≡ Fine out → Clean (act_world act m w) → Safe (act_world act m w) → HasMade asked target m (act_world act m w))
  unfolding make_policy_act
  act_makes asked state m w k fine clean safe = on_found asked state (policy_of m.files target.path) m w refl k fine clean safe

pub make_policy_makes : (state : List ℕ) (asked : Asked) (target : Target) (m : Machine) (w : World) (out : List ℕ) → (make_policy_line state asked target m).ending ≡ Fine out
    → HoldsAt (IsOwnKept target.path) m w → Clean (act_world (make_policy_act asked target m w) m w) → Safe (act_world (make_policy_act asked target m w) m w)
    → HasMade asked target m (act_world (make_policy_act asked target m w) m w)
make_policy_makes state asked target m w out fine k clean safe = act_makes target out asked state m w k (sym (make_policy_is state asked target m w).ending ∙ fine) clean safe
