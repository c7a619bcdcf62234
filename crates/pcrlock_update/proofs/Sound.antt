-- Each step that puts a table in force keeps what is kept of the policy file.
use Rattle.std.proofs.Common.{◌≡◌, ℕ, suc, ◌+◌, ◌<◌, ◌≤◌, Bool, true, false, cond, ◌&&◌, nat_le, nat_lt, List, [], ◌∷◌, ◌++◌, length, map, refl, sym, ap, subst, ◌∙◌, arith, Contains}
use Rattle.std.specs.Prelude.{Option, None, Some, Result, Ok, Err, IfSome}
use Rattle.std.specs.Cmp.{eq_by_cmp_equiv, nat_cmp_total}
use Rattle.std.specs.Cmp.Lexicographic.{nat_list_cmp_total}
use Rattle.std.specs.FinMap.{get, get-insert, insert}
use Rattle.std.specs.List.{AllByRecursion}
use Rattle.std.specs.Option.{option_or}
use Rattle.std.specs.Str.{bytes_eq}
use Rattle.std.proofs.lemmas.Bool.{and_parts, leb-true}
use Rattle.std.proofs.lemmas.Option.{IfSome_then}
use Rattle.std.proofs.lemmas.List.Elements.{Contains-append_left, Contains-append_right}
use Rattle.pl_base.specs.FileMap.{FileMap}
use Rattle.policy_digest.specs.declared.table.Table.{Table}
use Rattle.hash_bank.specs.declared.bank.Bank.TheVariants.{Sha256}
use Rattle.nv_index.specs.IndexName.{written_public}
use Rattle.policy_digest.specs.BindingStrings.{bind_strings, name_strings_in}
use Rattle.policy_digest.specs.Pin.{pin_policy_of, pin_strings}
use Rattle.policy_digest.specs.Plain.{plain_table}
use Rattle.policy_digest.specs.PlainTable.{PlainTable}
use Rattle.policy_digest.specs.Table.{valid_table}
use Rattle.policy_digest.specs.TableStrings.{table_strings}
use Rattle.policy_file.specs.declared.policy.Policy.{Policy}
use Rattle.policy_file.specs.PolicyText.{IsIndex, IsPolicy, policy_text}
use Rattle.policy_file.specs.TokenText.{IsObject}
use Rattle.policy_file.proofs.Policies.{policy_again}
use Rattle.policy_file.proofs.Sizes.{policy_size}
use Rattle.tpm_model.specs.declared.command.Command.TheVariants as command
use Rattle.tpm_model.specs.declared.parts.Parts.{Parts}
use Rattle.tpm_model.specs.declared.response.Refusal.{Refusal}
use Rattle.tpm_model.specs.declared.response.Refusal.TheVariants as refusal
use Rattle.tpm_model.specs.declared.response.Response.TheVariants as answer
use Rattle.tpm_model.specs.Binding.{Index, index_policy}
use Rattle.tpm_model.specs.Events.{Event, Update, Define, SealPin, Other, accepted_world, command_of, event_strings, filed_world, world_after}
use Rattle.tpm_model.specs.ObjectCommands.{object_handle}
use Rattle.tpm_model.specs.Respond.{respond}
use Rattle.tpm_model.specs.WholeTie.{IsFiledHashed}
use Rattle.tpm_model.specs.World.{AreHashed, BoundObject, FiledPolicy, World, hashed_world}
use Rattle.tpm_worlds.specs.WholeEvents.{IsSoundEvent}
use Rattle.tpm_worlds.proofs.Cases.{by_seal}
use Rattle.tpm_worlds.specs.Growth.{GrowsAll}
use Rattle.tpm_worlds.specs.EventLists.{Safe}
use Rattle.tpm_worlds.proofs.EachUnseal.{safe_before}
use Rattle.tpm_worlds.proofs.SamePin.{same_pin}
use Rattle.tpm_worlds.proofs.WholeLists.{grows_event, joined}
use Rattle.pcrlock_answer.specs.declared.answer.Answer.{Answer}
use Rattle.pcrlock_answer.specs.Texts.{pin_text}
use Rattle.pcrlock_line.specs.Content.{Bytes, Content, content_at, within}
use Rattle.pcrlock_line.specs.Machine.{Live}
use Rattle.pcrlock_line.specs.Outcome.{Ending, Fine}
use Rattle.pcrlock_deeds.specs.Deed.{Deed, ends}
use Rattle.pcrlock_deeds.specs.Filed.{HasNumberOf, IsFiledAs}
use Rattle.pcrlock_deeds.specs.Kept.{IsNewlyFiled, IsOwnKept, LeavesFiled}
use Rattle.pcrlock_deeds.specs.PolicyAt.{policy_by, policy_limit, policy_of, policy_read}
use Rattle.pcrlock_deeds.specs.Sound.{FileRule, IsSound}
use Rattle.pcrlock_deeds.specs.Steps.{answer_to, sent_live, written_live}
use Rattle.pcrlock_deeds.specs.Doings.{world}
use Rattle.pcrlock_deeds.proofs.Growing.{deed_grows, grows_hashed}
use Rattle.pcrlock_deeds.proofs.Objects.{objects_before, objects_rise}
use Rattle.pcrlock_update.specs.Acts.{defining, evicting, filed_of, forcing, kept_deed, new_deed, new_with_deed, pinned_deed, replacing, sealing, sending, stating, unless_refused, updating, with_object}
use Rattle.pcrlock_update.specs.Changes.{refusal_in}
use Rattle.pcrlock_update.specs.NewPolicy.{content_for, made_text, new_public, stated, update_strings}
use Rattle.pcrlock_update.specs.Sealed.{sealed_in}
use Rattle.pcrlock_update.specs.Update.{IsNamed, if_named, named_by, named_in, pin_in, tables_between, updated_text}
use Rattle.pcrlock_update.specs.declared.change.TpmChange.{TpmChange}
use Rattle.pcrlock_update.specs.declared.change.TpmChange.TheVariants as tpm
use Rattle.pcrlock_update.proofs.Seals.{is_stated}

-- ---- a policy that is written is read

at_path : (held : FileMap) (path bytes : List ℕ) → get (insert held path bytes) path ≡ Some bytes
at_path held path bytes =
    get-insert nat_list_cmp_total held path bytes path ∙ ap (λ same. cond same (Some bytes) (get held path)) ((eq_by_cmp_equiv nat_list_cmp_total).refl path)

within_limit : (limit : ℕ) (bytes : List ℕ) → length bytes ≤ limit → within limit bytes ≡ Bytes bytes
within_limit limit bytes short = by (nat_lt limit (length bytes)) refl
  where
    by : (over : Bool) → nat_lt limit (length bytes) ≡ over → cond over (Content.TooLarge (length bytes)) (Bytes bytes) ≡ Bytes bytes
    by true e = (let over : limit < length bytes = leb-true (suc limit) (length bytes) e in absurd (omega (arith, over, short)))
    by false e = refl

read_again : (held : FileMap) (path : List ℕ) (policy : Policy) → IsPolicy policy → policy_of (insert held path (policy_text policy)) path ≡ Ok (Some policy)
read_again held path policy is =
    ap (λ found. policy_by path (content_at found policy_limit)) (at_path held path (policy_text policy))
    ∙ ap (policy_by path) (within_limit policy_limit (policy_text policy) (policy_size policy is))
    ∙ ap (policy_read path) (policy_again policy is)

-- ---- the pin and its object

-- a policy was made with the pin, and its strings and the index's were hashed; the object, while the world has
-- it, holds the pin under the policy of the index, and no later one gets its handle
pub record HoldsPin (index : ℕ) (pin : List ℕ) (object : ℕ) (s : Parts) (w : World) : Type 0 where
  pub known : Contains w.pins pin
  pub bound : (b : BoundObject) → get w.objects object ≡ Some b → (b.secret ≡ pin) × (b.binding ≡ Index index pin)
  pub number : object < object_handle s.next_object
  pub strings : AreHashed w (bind_strings index pin)

-- the strings of the tables were hashed
abbrev pub AreAllHashed : World → List Table → Type 0
AreAllHashed w tables = AllByRecursion (λ (table : PlainTable). AreHashed w (table_strings table)) (map plain_table tables)

module _ (index : ℕ) (pin : List ℕ) (object : ℕ) where
  holds_after : (event : Event) (s : Parts) (w : World) → HoldsPin index pin object s w → HoldsPin index pin object (respond (command_of event) s).1 (world_after event s w)
  holds_after event s w h =
      let rises : s.next_object ≤ (respond (command_of event) s).1.next_object = objects_rise (command_of event) s in
      record {
        known = (grows_event event s w).pins pin h.known;
        bound = λ b e. h.bound b (objects_before object b event s w h.number e);
        number = omega (arith, h.number, rises);
        strings = λ x k. (grows_event event s w).strings x (h.strings x k);
      }

  holds_filed : (filed : Option FiledPolicy) (s : Parts) (w : World) → HoldsPin index pin object s w → HoldsPin index pin object s (filed_world filed w)
  holds_filed filed s w h = record { known = h.known; bound = h.bound; number = h.number; strings = h.strings }

  -- the policy file states it
  newly : (path : List ℕ) (tables : List Table) (m : Live) (w : World) → IsPolicy (stated index pin object tables) → HoldsPin index pin object m.state w → AreAllHashed w tables
      → IsNewlyFiled path (Some (filed_of index pin object tables)) (written_live path (policy_text (stated index pin object tables)) m) w
  newly path tables m w is h held = record {
    states = record {
      policy = stated index pin object tables;
      read = read_again m.files path (stated index pin object tables) is;
      valid = is;
      handle = refl;
      object = refl;
      tables = refl;
      digest = refl;
      known = h.known;
      pin = h.bound;
    };
    number = h.number;
    strings = (held, h.strings);
  }

-- no other refusal names an object
no_object : (why : Refusal) (object : ℕ) → sealed_in (answer.Refused why) ≡ Ok object → ⊥
no_object refusal.HandlesEnd object e = cc
no_object refusal.Value object e = cc
no_object (refusal.PolicyFail session other) object e = cc
no_object (refusal.PcrChanged noted now) object e = cc
no_object (refusal.Handle handle) object e = cc
no_object refusal.SessionsFull object e = cc
no_object refusal.TrailFull object e = cc
no_object (refusal.CounterEnd counter) object e = cc
no_object (refusal.BankAbsent bank) object e = cc
no_object refusal.ObjectsFull object e = cc
no_object refusal.SealSize object e = cc
no_object refusal.Attributes object e = cc
no_object refusal.Size object e = cc
no_object refusal.Defined object e = cc
no_object refusal.TableFull object e = cc
no_object refusal.NotDefined object e = cc
no_object (refusal.PinRefused given index) object e = cc
no_object refusal.Uninitialized object e = cc

-- an object that was named is one
ranged : (handle object : ℕ) (answer : Answer) (ok : Bool) → (nat_le 0x81000000 handle && nat_le handle 0x817FFFFF) ≡ ok → cond ok (Ok handle) (Err answer) ≡ Ok object → (handle ≡ object) × IsObject handle
ranged handle object answer true is e =
    let parts = and_parts (nat_le 0x81000000 handle) (nat_le handle 0x817FFFFF) is in
    (cc, (leb-true 0x81000000 handle parts.0, leb-true handle 0x817FFFFF parts.1))
ranged handle object answer false is e = absurd (cc e)

-- a sealed pin is held by its object
sealed_holds : (index : ℕ) (pin : List ℕ) (object : ℕ) (s : Parts) (w : World) → AreHashed w (bind_strings index pin)
    → (let event = SealPin index pin in
    sealed_in (respond (command_of event) s).0 ≡ Ok object → IsObject object × HoldsPin index pin object (respond (command_of event) s).1 (world_after event s w))
sealed_holds index pin object s w strings =
    let event = SealPin index pin in
    let v = hashed_world (event_strings event s) w in
    by_seal (λ r. sealed_in r.0 ≡ Ok object → IsObject object × HoldsPin index pin object r.1 (accepted_world event r.0 r.1 v)) (index_policy index pin) pin s
    (λ why e. absurd (no_object why object e))
    (λ e.
    let handle = object_handle s.next_object in
    let new : BoundObject = record { secret = pin; binding = Index index pin } in
    let same = ranged handle object _ (nat_le 0x81000000 handle && nat_le handle 0x817FFFFF) refl e in
    let found : get (insert v.objects handle new) handle ≡ Some new =
    get-insert nat_cmp_total v.objects handle new handle ∙ ap (λ here. cond here (Some new) (get v.objects handle)) ((eq_by_cmp_equiv nat_cmp_total).refl handle) in
    subst (λ (q : ℕ). IsObject q × HoldsPin index pin q (record s { next_object = s.next_object + 1; objects = s.objects ++ record { handle = handle; policy = index_policy index pin; secret = pin } ∷ [] }) (accepted_world event (answer.Object handle) (record s { next_object = s.next_object + 1; objects = s.objects ++ record { handle = handle; policy = index_policy index pin; secret = pin } ∷ [] }) v)) same.0 (
      same.1,
      record {
        known = Contains-append_right v.pins (pin ∷ []) pin (0, omega arith, refl);
        bound = λ b is. let one : new ≡ b = cc in (ap (λ (x : BoundObject). x.secret) (sym one), ap (λ (x : BoundObject). x.binding) (sym one));
        number = omega arith;
        strings = λ x k. Contains-append_left w.hashed (event_strings event s) x (strings x k);
      },
    ))

-- ---- one step, and what else is to be done

module _ (Files : FileRule) where
  unless_sound : (why : Option Answer) (next : Deed) (m : Live) (w : World) → IsSound Files next m w → IsSound Files (unless_refused why next) m w
  unless_sound None next m w h = h
  unless_sound (Some answer) next m w h = tt

  sending_sound : (change : TpmChange) (event : Event) (next : Deed) (m : Live) (w : World) → IsSoundEvent event w → IsSound Files next (sent_live event m) (world_after event m.state w)
      → IsSound Files (sending change event next) m w
  sending_sound change event next m w fair h = (fair, unless_sound (refusal_in change (answer_to event m)) next (sent_live event m) (world_after event m.state w) h)

  -- an old policy's pin is anyone's to take away
  evicting_sound : (old : Option ℕ) (last : Ending) (m : Live) (w : World) → IsSound Files (evicting old (ends last)) m w
  evicting_sound None last m w = tt
  evicting_sound (Some object) last m w = sending_sound (tpm.Evict object) (Other (command.Evict object)) (ends last) m w tt tt

  -- a new index has the pin's policy
  defining_free : (index : ℕ) (pin : List ℕ) (next : Deed) (m : Live) (w : World) → ((n : Live) (v : World) → GrowsAll w v → IsSound Files next n v)
      → IsSound Files (defining false index pin next) m w
  defining_free index pin next m w h =
      let event = Define (new_public index pin) pin in
      sending_sound (tpm.Define (new_public index pin)) event next m w refl (h (sent_live event m) (world_after event m.state w) (grows_event event m.state w))

  defining_sound : (stands : Bool) (index : ℕ) (pin : List ℕ) (next : Deed) (m : Live) (w : World) → ((n : Live) (v : World) → GrowsAll w v → IsSound Files next n v)
      → IsSound Files (defining stands index pin next) m w
  defining_sound false index pin next m w h = defining_free index pin next m w h
  defining_sound true index pin next m w h =
      let event = Other (command.NvUndefine index) in
      let v = world_after event m.state w in
      sending_sound (tpm.Undefine index) event (defining false index pin next) m w tt
      (defining_free index pin next (sent_live event m) v (λ n u grows. h n u (joined w v u (grows_event event m.state w) grows)))

  -- a sealed pin is held by its object
  sealing_sound : (index : ℕ) (pin : List ℕ) (next : ℕ → Deed) (m : Live) (w : World) → IsIndex index → AreHashed w (bind_strings index pin)
      → (let event = SealPin index pin in
      ((object : ℕ) → IsObject object → HoldsPin index pin object (sent_live event m).state (world_after event m.state w) → IsSound Files (next object) (sent_live event m) (world_after event m.state w))
      → IsSound Files (sealing index pin next) m w)
  sealing_sound index pin next m w range strings h =
      let event = SealPin index pin in
      (omega (arith, range.1), by (sealed_in (answer_to event m)) refl)
    where
      by : (sealed : Result ℕ Answer) → sealed_in (answer_to (SealPin index pin) m) ≡ sealed
          → IsSound Files (with_object sealed next) (sent_live (SealPin index pin) m) (world_after (SealPin index pin) m.state w)
      by (Ok object) e = let k = sealed_holds index pin object m.state w strings e in h object k.0 k.1
      by (Err answer) e = tt

-- ---- the policy file and the index

module _ (path : List ℕ) (index : ℕ) (pin : List ℕ) (object : ℕ) where
  stating_sound : (tables : List Table) (next : Deed) (m : Live) (w : World) → IsPolicy (stated index pin object tables) → HoldsPin index pin object m.state w → AreAllHashed w tables
      → (let n = written_live path (policy_text (stated index pin object tables)) m in
      let v = filed_world (Some (filed_of index pin object tables)) w in
      IsSound (LeavesFiled path) next n v → IsSound (LeavesFiled path) (stating path index pin object tables next) m w)
  stating_sound tables next m w is h held rest = (newly index pin object path tables m w is h held, rest)

  -- a new table is put in force, whatever comes then
  forcing_sound : (table : Table) (next : Deed) (m : Live) (w : World) → IsIndex index → IsObject object → valid_table table ≡ true → AreHashed w (table_strings (plain_table table))
      → HoldsPin index pin object m.state w → ((n : Live) (v : World) → IsSound (LeavesFiled path) next n v)
      → IsSound (LeavesFiled path) (forcing path index pin object table next) m w
  forcing_sound table next m w range is_object valid held h rest =
      let event = Update index pin (plain_table table) in
      let n = written_live path (policy_text (stated index pin object (table ∷ []))) m in
      let v = filed_world (Some (filed_of index pin object (table ∷ []))) w in
      stating_sound (table ∷ []) (updating index pin table next) m w (is_stated index pin object None table range is_object tt valid) h (held, tt)
      (sending_sound (LeavesFiled path) (tpm.Write index pin (content_for table)) event next n v (record { table = table; valid = valid; same = refl }) (rest (sent_live event n) (world_after event n.state v)))

  -- a table is put in the place of the one that the index names
  replacing_sound : (named : Option Table) (table : Table) (next : Deed) (m : Live) (w : World) → IsIndex index → IsObject object → IsNamed named
      → IfSome named (λ old. AreHashed w (table_strings (plain_table old))) → valid_table table ≡ true → AreHashed w (table_strings (plain_table table))
      → HoldsPin index pin object m.state w → ((n : Live) (v : World) → IsSound (LeavesFiled path) next n v)
      → IsSound (LeavesFiled path) (replacing path index pin object named table next) m w
  replacing_sound named table next m w range is_object is_named before valid held h rest =
      let event = Update index pin (plain_table table) in
      let both = tables_between named table in
      let n = written_live path (policy_text (stated index pin object both)) m in
      let v = filed_world (Some (filed_of index pin object both)) w in
      let k = sent_live event n in
      let u = world_after event n.state v in
      let last = written_live path (policy_text (stated index pin object (table ∷ []))) k in
      let finish = filed_world (Some (filed_of index pin object (table ∷ []))) u in
      stating_sound both (updating index pin table (stating path index pin object (table ∷ []) next)) m w (is_stated index pin object named table range is_object is_named valid) h (between named before)
      (sending_sound (LeavesFiled path) (tpm.Write index pin (content_for table)) event (stating path index pin object (table ∷ []) next) n v (record { table = table; valid = valid; same = refl })
      (stating_sound (table ∷ []) next k u (is_stated index pin object None table range is_object tt valid)
      (holds_after index pin object event n.state v (holds_filed index pin object (Some (filed_of index pin object both)) n.state w h))
      ((λ x s. (grows_event event n.state v).strings x (held x s)), tt)
      (rest last finish)))
    where
      between : (o : Option Table) → IfSome o (λ old. AreHashed w (table_strings (plain_table old))) → AreAllHashed w (tables_between o table)
      between None none = (held, tt)
      between (Some old) one = (one, (held, tt))

-- ---- a new policy

-- the strings of a table and of its index
held_first : (index : ℕ) (pin : List ℕ) (table : Table) (w : World)
    → AreHashed (hashed_world (update_strings index pin table) w) (table_strings (plain_table table)) × AreHashed (hashed_world (update_strings index pin table) w) (bind_strings index pin)
held_first index pin table w = (
  λ x k. Contains-append_right w.hashed (update_strings index pin table) x (Contains-append_left (table_strings (plain_table table)) (bind_strings index pin) x k),
  λ x k. Contains-append_right w.hashed (update_strings index pin table) x (Contains-append_right (table_strings (plain_table table)) (bind_strings index pin) x k),
)

new_with_sound : (text path : List ℕ) (old : Option ℕ) (stands : Bool) (index : ℕ) (table : Table) (pin : List ℕ) (m : Live) (w : World) → IsIndex index → valid_table table ≡ true
    → IsSound (LeavesFiled path) (new_with_deed text path old stands index table pin) m w
new_with_sound text path old stands index table pin m w range valid =
    let F = LeavesFiled path in
    let last : Ending = Fine (text ++ made_text) in
    let v = hashed_world (update_strings index pin table) w in
    let held = held_first index pin table w in
    let next = λ (object : ℕ). forcing path index pin object table (evicting old (ends last)) in
    let event = SealPin index pin in
    defining_sound F stands index pin (sealing index pin next) m v
    (λ n u grows. sealing_sound F index pin next n u range (λ x k. grows.strings x (held.1 x k))
    (λ object is_object holds. forcing_sound path index pin object table (evicting old (ends last)) (sent_live event n) (world_after event n.state u) range is_object valid
    (λ x k. (grows_event event n.state u).strings x (grows.strings x (held.0 x k))) holds (λ k t. evicting_sound F old last k t)))

new_from_sound : (text path : List ℕ) (old : Option ℕ) (stands : Bool) (index : ℕ) (table : Table) (pin : Option (List ℕ)) (held : FileMap) (s : Parts) (words : List (List ℕ)) (w : World)
    → IsIndex index → valid_table table ≡ true → IsSound (LeavesFiled path) (new_deed text path old stands index table pin) (record { files = held; state = s; draws = words }) w
new_from_sound text path old stands index table (Some pin) held s words w range valid =
    new_with_sound text path old stands index table pin (record { files = held; state = s; draws = words }) w range valid
new_from_sound text path old stands index table None held s (word ∷ rest) w range valid =
    new_with_sound (text ++ pin_text word) path old stands index table word (record { files = held; state = s; draws = rest }) w range valid
new_from_sound text path old stands index table None held s [] w range valid = tt

pub new_sound : (text path : List ℕ) (old : Option ℕ) (stands : Bool) (index : ℕ) (table : Table) (pin : Option (List ℕ)) (m : Live) (w : World) → IsIndex index → valid_table table ≡ true
    → IsSound (LeavesFiled path) (new_deed text path old stands index table pin) m w
new_sound text path old stands index table pin m w range valid = new_from_sound text path old stands index table pin m.files m.state m.draws w range valid

-- ---- what is known of the policy file

-- the policy that the file states: it has a text, its tables' strings were hashed, and its object holds its pin
pub record IsKnown (path : List ℕ) (policy : Policy) (s : Parts) (w : World) : Type 0 where
  pub valid : IsPolicy policy
  pub tables : AreAllHashed w policy.tables
  pub pin : List ℕ
  pub digest : policy.index_policy ≡ pin_policy_of pin
  pub holds : HoldsPin policy.handle pin policy.pin_object s w

no_policy_there : (held : FileMap) (path : List ℕ) (policy : Policy) → policy_of held path ≡ Ok (Some policy) → get held path ≡ None → ⊥
no_policy_there held path policy read none =
    let missing : policy_of held path ≡ Ok None = ap (λ found. policy_by path (content_at found policy_limit)) none in
    cc

known_by : (path : List ℕ) (policy : Policy) (m : Live) (w : World) (filed : Option FiledPolicy) → policy_of m.files path ≡ Ok (Some policy)
    → IsFiledAs m.files path w filed → HasNumberOf m.state filed → IsFiledHashed w filed → IsKnown path policy m.state w
known_by path policy m w None read none number strings = absurd (no_policy_there m.files path policy read none)
known_by path policy m w (Some filed) read h number strings =
    let same : h.policy ≡ policy = cc in
    subst (λ (p : Policy). IsKnown path p m.state w) same (record {
      valid = h.valid;
      tables = subst (AllByRecursion (λ (table : PlainTable). AreHashed w (table_strings table))) (sym h.tables) strings.0;
      pin = filed.pin;
      digest = h.digest;
      holds = subst (λ (handle : ℕ). HoldsPin handle filed.pin h.policy.pin_object m.state w) (sym h.handle)
          (subst (λ (object : ℕ). HoldsPin filed.handle filed.pin object m.state w) (sym h.object)
          (record { known = h.known; bound = h.pin; number = number; strings = strings.1 }));
    })

pub policy_known : (path : List ℕ) (policy : Policy) (m : Live) (w : World) → IsOwnKept path m w → policy_of m.files path ≡ Ok (Some policy) → IsKnown path policy m.state w
policy_known path policy m w k read = known_by path policy m w w.filed read k.filed k.number k.own.filed

-- ---- a written index

-- what holds of all tables holds of the one that a content names
named_has : (P : Table → Type 0) (content : List ℕ) (tables : List Table) → AllByRecursion P tables → IfSome (named_in content tables) P
named_has P content [] all = tt
named_has P content (table ∷ tables) all = by (named_in content tables) (named_has P content tables all.1)
  where
    alone : (same : Bool) → IfSome (cond same (Some table) None) P
    alone true = all.0
    alone false = tt

    by : (o : Option Table) → IfSome o P → IfSome (option_or o (if_named content table)) P
    by (Some old) h = h
    by None h = alone (bytes_eq content (content_for table))

pub each_hashed : (w : World) (tables : List Table) → AreAllHashed w tables → AllByRecursion (λ (table : Table). AreHashed w (table_strings (plain_table table))) tables
each_hashed w [] all = tt
each_hashed w (table ∷ tables) all = (all.0, each_hashed w tables all.1)

-- the table that the index names is valid, and its strings were hashed
found_named : (path content : List ℕ) (found : Option Policy) (m : Live) (w : World) → IsOwnKept path m w → policy_of m.files path ≡ Ok found
    → IsNamed (named_by content found) × IfSome (named_by content found) (λ old. AreHashed w (table_strings (plain_table old)))
found_named path content None m w k read = (tt, tt)
found_named path content (Some policy) m w k read =
    let known = policy_known path policy m w k read in (
      named_has (λ old. valid_table old ≡ true) content policy.tables known.valid.tables,
      named_has (λ old. AreHashed w (table_strings (plain_table old))) content policy.tables (each_hashed w policy.tables known.tables),
    )

pub pinned_sound : (text path : List ℕ) (found : Option Policy) (index : ℕ) (pin content : List ℕ) (table : Table) (m : Live) (w : World) → IsIndex index → valid_table table ≡ true
    → IsOwnKept path m w → policy_of m.files path ≡ Ok found → IsSound (LeavesFiled path) (pinned_deed text path found index pin content table) m w
pinned_sound text path found index pin content table m w range valid k read =
    let F = LeavesFiled path in
    let finish = evicting (pin_in found) (ends (Fine (text ++ updated_text))) in
    let named = named_by content found in
    let before = found_named path content found m w k read in
    let v = hashed_world (update_strings index pin table) w in
    let event = SealPin index pin in
    let u = world_after event m.state v in
    let grows = joined w v u (grows_hashed (update_strings index pin table) w) (grows_event event m.state v) in
    let held = held_first index pin table w in
    sealing_sound F index pin (λ object. replacing path index pin object named table finish) m v range held.1
    (λ object is_object holds. replacing_sound path index pin object named table finish (sent_live event m) u range is_object before.0
    (IfSome_then named before.1 (λ old h x s. grows.strings x (h x s)))
    valid (λ x s. (grows_event event m.state v).strings x (held.0 x s)) holds (λ n t. evicting_sound F (pin_in found) (Fine (text ++ updated_text)) n t))

-- the pin that the policy's object gave is the filed one, where no strings clash
pub kept_sound : (text path : List ℕ) (policy : Policy) (pin content : List ℕ) (table : Table) (m : Live) (w : World) → valid_table table ≡ true
    → IsOwnKept path m w → policy_of m.files path ≡ Ok (Some policy) → pin_policy_of pin ≡ policy.index_policy
    → Safe (world (kept_deed text path policy pin content table) m w) → IsSound (LeavesFiled path) (kept_deed text path policy pin content table) m w
kept_sound text path policy pin content table m w valid k read same safe =
    let F = LeavesFiled path in
    let last : Ending = Fine (text ++ updated_text) in
    let named = named_in content policy.tables in
    let strings = update_strings policy.handle pin table in
    let known = policy_known path policy m w k read in
    let before = found_named path content (Some policy) m w k read in
    let v = hashed_world strings w in
    let grows = grows_hashed strings w in
    let held = held_first policy.handle pin table w in
    let d = replacing path policy.handle pin policy.pin_object named table (ends last) in
    let now = safe_before v (world d m v) (deed_grows d m v).strings safe in
    let others = name_strings_in Sha256 (written_public policy.handle (pin_policy_of pin)) in
    let theirs = name_strings_in Sha256 (written_public policy.handle (pin_policy_of known.pin)) in
    let is : known.pin ≡ pin =
    same_pin v known.pin pin now (λ x s. grows.strings x (known.holds.strings x (Contains-append_left (pin_strings known.pin) theirs x s)))
    (λ x s. held.1 x (Contains-append_left (pin_strings pin) others x s)) (sym known.digest ∙ sym same) in
    let holds : HoldsPin policy.handle known.pin policy.pin_object m.state v =
    record { known = known.holds.known; bound = known.holds.bound; number = known.holds.number; strings = λ x s. grows.strings x (known.holds.strings x s) } in
    replacing_sound path policy.handle pin policy.pin_object named table (ends last) m v known.valid.handle known.valid.pin_object before.0
    (IfSome_then named before.1 (λ old h x s. grows.strings x (h x s)))
    valid held.0 (subst (λ (p : List ℕ). HoldsPin policy.handle p policy.pin_object m.state v) is holds) (λ n t. tt)
