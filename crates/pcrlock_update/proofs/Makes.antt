-- What the world is after a table was put in force.
use Rattle.std.proofs.Common.{◌≡◌, ℕ, Bool, true, false, cond, not, List, [], ◌∷◌, ◌++◌, length, refl, sym, ap, subst, ◌∙◌, arith}
use Rattle.std.specs.Prelude.{Option, None, Some, Result, Ok, Err, ◌==◌}
use Rattle.std.specs.Cmp.{eq_by_cmp_equiv, nat_cmp_total}
use Rattle.std.specs.FinMap.{get, get-insert}
use Rattle.std.specs.Str.{bytes_eq}
use Rattle.std.proofs.lemmas.Bool.{cond_both}
use Rattle.nv_index.specs.declared.index.Index.{Index}
use Rattle.nv_index.specs.declared.refusal.NvRefusal.{NvRefusal}
use Rattle.nv_index.specs.Table.{index_at, write_refusal_of}
use Rattle.pl_base.specs.FileMap.{FileMap}
use Rattle.policy_digest.specs.declared.table.Table.{Table}
use Rattle.policy_digest.specs.Pin.{pin_policy_of}
use Rattle.policy_digest.specs.Plain.{plain_table}
use Rattle.policy_digest.specs.PlainTable.{PlainTable}
use Rattle.policy_file.specs.declared.policy.Policy.{Policy}
use Rattle.policy_file.specs.PolicyText.{policy_text}
use Rattle.tpm_model.specs.declared.command.Command.TheVariants as command
use Rattle.tpm_model.specs.declared.parts.Parts.{Parts}
use Rattle.tpm_model.specs.declared.response.Response.{Response}
use Rattle.tpm_model.specs.declared.response.Response.TheVariants as answer
use Rattle.tpm_model.specs.Events.{Event, Update, Define, SealPin, Other, accepted_world, command_of, content_of_table, event_strings, filed_world, world_after}
use Rattle.tpm_model.specs.IndexCommands.{nv_write, nv_write_unless}
use Rattle.tpm_model.specs.Respond.{respond}
use Rattle.tpm_model.specs.World.{LiveIndex, World, hashed_world}
use Rattle.tpm_worlds.proofs.Steady.{filed_stays}
use Rattle.pcrlock_answer.specs.declared.answer.Answer.{Answer}
use Rattle.pcrlock_answer.specs.Texts.{pin_text}
use Rattle.pcrlock_line.specs.Machine.{Live}
use Rattle.pcrlock_line.specs.Outcome.{Ending, Fine}
use Rattle.pcrlock_deeds.specs.Deed.{Deed, ends}
use Rattle.pcrlock_deeds.specs.Doings.{ending, world}
use Rattle.pcrlock_deeds.specs.Filed.{Current, CurrentOf}
use Rattle.pcrlock_deeds.specs.Steps.{answer_to, sent_live, written_live}
use Rattle.pcrlock_update.specs.Acts.{IsInForce, defining, evicting, filed_of, forcing, kept_deed, new_deed, new_with_deed, pinned_deed, replacing, sealing, sending, stating, taken_pin, unless_refused, with_object}
use Rattle.pcrlock_update.specs.Changes.{refusal_in}
use Rattle.pcrlock_update.specs.NewPolicy.{content_for, made_text, new_public, stated, update_strings}
use Rattle.pcrlock_update.specs.Sealed.{sealed_in}
use Rattle.pcrlock_update.specs.Update.{named_by, named_in, pin_in, tables_between, updated_text}
use Rattle.pcrlock_update.specs.declared.change.TpmChange.{TpmChange}
use Rattle.pcrlock_update.specs.declared.change.TpmChange.TheVariants as tpm

-- ---- one step of changes that come to a good end

-- the command wasn't refused, and what else was to be done came to a good end
sending_makes : (P : World → Type 0) (change : TpmChange) (event : Event) (next : Deed) (m : Live) (w : World) (text : List ℕ) → ending (sending change event next) m ≡ Fine text
    → (let n = sent_live event m in
    let v = world_after event m.state w in
    (refusal_in change (answer_to event m) ≡ None → ending next n ≡ Fine text → P (world next n v)) → P (world (sending change event next) m w))
sending_makes P change event next m w text fine h = by (refusal_in change (answer_to event m)) refl fine
  where
    by : (why : Option Answer) → refusal_in change (answer_to event m) ≡ why → ending (unless_refused why next) (sent_live event m) ≡ Fine text
        → P (world (unless_refused why next) (sent_live event m) (world_after event m.state w))
    by None e f = h e f
    by (Some why) e f = absurd (cc f)

sealing_makes : (P : World → Type 0) (index : ℕ) (pin : List ℕ) (next : ℕ → Deed) (m : Live) (w : World) (text : List ℕ) → ending (sealing index pin next) m ≡ Fine text
    → (let event = SealPin index pin in
    let n = sent_live event m in
    let v = world_after event m.state w in
    ((object : ℕ) → ending (next object) n ≡ Fine text → P (world (next object) n v)) → P (world (sealing index pin next) m w))
sealing_makes P index pin next m w text fine h = by (sealed_in (answer_to (SealPin index pin) m)) fine
  where
    by : (sealed : Result ℕ Answer) → ending (with_object sealed next) (sent_live (SealPin index pin) m) ≡ Fine text
        → P (world (with_object sealed next) (sent_live (SealPin index pin) m) (world_after (SealPin index pin) m.state w))
    by (Ok object) f = h object f
    by (Err why) f = absurd (cc f)

-- ---- the index

-- a write that wasn't refused was done
write_done : (handle : ℕ) (pin value : List ℕ) (s : Parts) → refusal_in (tpm.Write handle pin value) (nv_write handle pin value s).0 ≡ None → (nv_write handle pin value s).0 ≡ answer.Done
write_done handle pin value s = by (index_at handle s.indices)
  where
    IsDone : Option NvRefusal → Type 0
    IsDone why = refusal_in (tpm.Write handle pin value) (nv_write_unless why handle value s).0 ≡ None → (nv_write_unless why handle value s).0 ≡ answer.Done

    counted : IsDone None
    counted = cond_both (s.write_counter == 4294967295) _ _ (λ (r : Response × Parts). refusal_in (tpm.Write handle pin value) r.0 ≡ None → r.0 ≡ answer.Done) (λ _ e. absurd (cc e)) (λ _ e. refl)

    by : (o : Option Index) → IsDone (write_refusal_of o (pin_policy_of pin) value)
    by None = λ e. absurd (cc e)
    by (Some index) =
        cond_both (not (bytes_eq (pin_policy_of pin) index.public.policy)) _ _ IsDone (λ _ e. absurd (cc e))
        (λ _. cond_both (not (length value == 34)) _ _ IsDone (λ _ e. absurd (cc e)) (λ _. counted))

-- then its table is the newest
pub newest : (index : ℕ) (pin : List ℕ) (table : PlainTable) (s : Parts) (w : World)
    → (let event = Update index pin table in
    refusal_in (tpm.Write index pin (content_of_table table)) (respond (command_of event) s).0 ≡ None → get (world_after event s w).live index ≡ Some (record { pin = pin; table = table }))
newest index pin table s w e =
    let event = Update index pin table in
    let r = respond (command_of event) s in
    let v = hashed_world (event_strings event s) w in
    let live : LiveIndex = record { pin = pin; table = table } in
    subst (λ (a : Response). get (accepted_world event a r.1 v).live index ≡ Some live) (sym (write_done index pin (content_of_table table) s e))
    (get-insert nat_cmp_total v.live index live index ∙ ap (λ here. cond here (Some live) (get v.live index)) ((eq_by_cmp_equiv nat_cmp_total).refl index))

-- taking an object away leaves the indices
pub live_stays : (object : ℕ) (r : Response) (s : Parts) (v : World) → (accepted_world (Other (command.Evict object)) r s v).live ≡ v.live
live_stays object (answer.Refused why) s v = refl
live_stays object r s v = refl

module _ (index : ℕ) (pin : List ℕ) (table : Table) where
  -- what is in force stays so while an old pin goes
  pub evicting_makes : (old : Option ℕ) (last : Ending) (m : Live) (w : World) → IsInForce index pin table w → IsInForce index pin table (world (evicting old (ends last)) m w)
  evicting_makes None last m w h = h
  evicting_makes (Some object) last m w h = by (refusal_in (tpm.Evict object) (answer_to event m))
    where
      event : Event
      event = Other (command.Evict object)

      after : IsInForce index pin table (world_after event m.state w)
      after = let r = respond (command_of event) m.state in
          let v = hashed_world (event_strings event m.state) w in
          record {
            object = h.object;
            live = ap (λ xs. get xs index) (live_stays object r.0 r.1 v) ∙ h.live;
            filed = filed_stays event r.0 r.1 v ∙ h.filed;
          }

      by : (why : Option Answer) → IsInForce index pin table (world (unless_refused why (ends last)) (sent_live event m) (world_after event m.state w))
      by None = after
      by (Some why) = after

  forcing_makes : (path : List ℕ) (object : ℕ) (old : Option ℕ) (last : Ending) (m : Live) (w : World) (text : List ℕ)
      → ending (forcing path index pin object table (evicting old (ends last))) m ≡ Fine text
      → IsInForce index pin table (world (forcing path index pin object table (evicting old (ends last))) m w)
  forcing_makes path object old last m w text fine =
      let event = Update index pin (plain_table table) in
      let n = written_live path (policy_text (stated index pin object (table ∷ []))) m in
      let v = filed_world (Some (filed_of index pin object (table ∷ []))) w in
      let r = respond (command_of event) n.state in
      sending_makes (IsInForce index pin table) (tpm.Write index pin (content_for table)) event (evicting old (ends last)) n v text fine
      (λ e f. evicting_makes old last (sent_live event n) (world_after event n.state v) (record {
        object = object;
        live = newest index pin (plain_table table) n.state v e;
        filed = filed_stays event r.0 r.1 (hashed_world (event_strings event n.state) v);
      }))

  replacing_makes : (path : List ℕ) (object : ℕ) (named : Option Table) (old : Option ℕ) (last : Ending) (m : Live) (w : World) (text : List ℕ)
      → ending (replacing path index pin object named table (evicting old (ends last))) m ≡ Fine text
      → IsInForce index pin table (world (replacing path index pin object named table (evicting old (ends last))) m w)
  replacing_makes path object named old last m w text fine =
      let event = Update index pin (plain_table table) in
      let both = tables_between named table in
      let n = written_live path (policy_text (stated index pin object both)) m in
      let v = filed_world (Some (filed_of index pin object both)) w in
      let filed = filed_of index pin object (table ∷ []) in
      sending_makes (IsInForce index pin table) (tpm.Write index pin (content_for table)) event (stating path index pin object (table ∷ []) (evicting old (ends last))) n v text fine
      (λ e f. evicting_makes old last (written_live path (policy_text (stated index pin object (table ∷ []))) (sent_live event n)) (filed_world (Some filed) (world_after event n.state v))
      (record { object = object; live = newest index pin (plain_table table) n.state v e; filed = refl }))

-- ---- the three lines

new_with_makes : (text path : List ℕ) (old : Option ℕ) (stands : Bool) (index : ℕ) (table : Table) (pin : List ℕ) (m : Live) (w : World) (out : List ℕ)
    → ending (new_with_deed text path old stands index table pin) m ≡ Fine out → IsInForce index pin table (world (new_with_deed text path old stands index table pin) m w)
new_with_makes text path old stands index table pin m w out fine = by stands fine
  where
    P : World → Type 0
    P = IsInForce index pin table

    v : World
    v = hashed_world (update_strings index pin table) w

    last : Ending
    last = Fine (text ++ made_text)

    next : ℕ → Deed
    next object = forcing path index pin object table (evicting old (ends last))

    sealed : (n : Live) (u : World) → ending (sealing index pin next) n ≡ Fine out → P (world (sealing index pin next) n u)
    sealed n u f = sealing_makes P index pin next n u out f
        (λ object g. forcing_makes index pin table path object old last (sent_live (SealPin index pin) n) (world_after (SealPin index pin) n.state u) out g)

    defined : (n : Live) (u : World) → ending (defining false index pin (sealing index pin next)) n ≡ Fine out → P (world (defining false index pin (sealing index pin next)) n u)
    defined n u f =
        let event = Define (new_public index pin) pin in
        sending_makes P (tpm.Define (new_public index pin)) event (sealing index pin next) n u out f (λ e g. sealed (sent_live event n) (world_after event n.state u) g)

    by : (free : Bool) → ending (defining free index pin (sealing index pin next)) m ≡ Fine out → P (world (defining free index pin (sealing index pin next)) m v)
    by false f = defined m v f
    by true f =
        let event = Other (command.NvUndefine index) in
        sending_makes P (tpm.Undefine index) event (defining false index pin (sealing index pin next)) m v out f (λ e g. defined (sent_live event m) (world_after event m.state v) g)

new_from_makes : (text path : List ℕ) (old : Option ℕ) (stands : Bool) (index : ℕ) (table : Table) (pin : Option (List ℕ)) (held : FileMap) (s : Parts) (words : List (List ℕ)) (w : World) (out : List ℕ)
    → (let m : Live = record { files = held; state = s; draws = words } in
    ending (new_deed text path old stands index table pin) m ≡ Fine out
    → (taken : List ℕ) × (taken_pin pin words ≡ Some taken) × IsInForce index taken table (world (new_deed text path old stands index table pin) m w))
new_from_makes text path old stands index table (Some pin) held s words w out fine =
    (pin, refl, new_with_makes text path old stands index table pin (record { files = held; state = s; draws = words }) w out fine)
new_from_makes text path old stands index table None held s (word ∷ rest) w out fine =
    (word, refl, new_with_makes (text ++ pin_text word) path old stands index table word (record { files = held; state = s; draws = rest }) w out fine)
new_from_makes text path old stands index table None held s [] w out fine = absurd (cc fine)

pub new_makes : (text path : List ℕ) (old : Option ℕ) (stands : Bool) (index : ℕ) (table : Table) (pin : Option (List ℕ)) (m : Live) (w : World) (out : List ℕ)
    → ending (new_deed text path old stands index table pin) m ≡ Fine out
    → (taken : List ℕ) × (taken_pin pin m.draws ≡ Some taken) × IsInForce index taken table (world (new_deed text path old stands index table pin) m w)
new_makes text path old stands index table pin m w out fine = new_from_makes text path old stands index table pin m.files m.state m.draws w out fine

pub pinned_makes : (text path : List ℕ) (found : Option Policy) (index : ℕ) (pin content : List ℕ) (table : Table) (m : Live) (w : World) (out : List ℕ)
    → ending (pinned_deed text path found index pin content table) m ≡ Fine out → IsInForce index pin table (world (pinned_deed text path found index pin content table) m w)
pinned_makes text path found index pin content table m w out fine =
    let last : Ending = Fine (text ++ updated_text) in
    let named = named_by content found in
    let v = hashed_world (update_strings index pin table) w in
    let event = SealPin index pin in
    sealing_makes (IsInForce index pin table) index pin (λ object. replacing path index pin object named table (evicting (pin_in found) (ends last))) m v out fine
    (λ object f. replacing_makes index pin table path object named (pin_in found) last (sent_live event m) (world_after event m.state v) out f)

pub kept_makes : (text path : List ℕ) (policy : Policy) (pin content : List ℕ) (table : Table) (m : Live) (w : World) (out : List ℕ)
    → ending (kept_deed text path policy pin content table) m ≡ Fine out → IsInForce policy.handle pin table (world (kept_deed text path policy pin content table) m w)
kept_makes text path policy pin content table m w out fine =
    replacing_makes policy.handle pin table path policy.pin_object (named_in content policy.tables) None (Fine (text ++ updated_text)) m
    (hashed_world (update_strings policy.handle pin table) w) out fine

-- ---- what is in force is current

pub in_force_current : (index : ℕ) (pin : List ℕ) (table : Table) (w : World) → IsInForce index pin table w → Current w
in_force_current index pin table w h = subst (CurrentOf w) (sym h.filed) (λ live found same. let one : record { pin = pin; table = plain_table table } ≡ live = newest_one live found in
    (0, omega arith, ap (λ (l : LiveIndex). l.table) one))
  where
    newest_one : (live : LiveIndex) → get w.live index ≡ Some live → record { pin = pin; table = plain_table table } ≡ live
    newest_one live found = let both : Some (record { pin = pin; table = plain_table table }) ≡ Some live = sym h.live ∙ found in cc
