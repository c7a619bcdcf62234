-- Changes that end at a refusal come to a deed.
use Rattle.std.proofs.Common.{◌≡◌, ℕ, Bool, true, false, List, [], ◌∷◌, ◌++◌, inl, inr, refl, sym, subst, arith}
use Rattle.std.specs.Prelude.{Option, None, Some, Result, Ok, Err}
use Rattle.std.specs.FinMap.{insert}
use Rattle.std.proofs.lemmas.List.Elements.{Contains-append_left}
use Rattle.hash_bank.specs.HashedString.{HashedString}
use Rattle.pl_base.specs.FileMap.{FileMap}
use Rattle.policy_digest.specs.declared.table.Table.{Table}
use Rattle.policy_digest.specs.Plain.{plain_table}
use Rattle.policy_file.specs.declared.policy.Policy.{Policy}
use Rattle.policy_file.specs.PolicyText.{policy_text}
use Rattle.tpm_model.specs.declared.command.Command.TheVariants as command
use Rattle.tpm_model.specs.declared.parts.Parts.{Parts}
use Rattle.tpm_model.specs.Events.{Update, Define, SealPin, Other, event_strings}
use Rattle.tpm_model.specs.IndexCommands.{nv_define, nv_undefine, nv_write}
use Rattle.tpm_model.specs.ObjectCommands.{evict}
use Rattle.pcrlock_answer.specs.declared.answer.Answer.{Answer}
use Rattle.pcrlock_answer.specs.Texts.{pin_text}
use Rattle.pcrlock_line.specs.Machine.{Live, Machine, machine}
use Rattle.pcrlock_line.specs.Outcome.{Fine, Outcome}
use Rattle.pcrlock_deeds.specs.Acts.{IsDone, SameStops}
use Rattle.pcrlock_deeds.specs.Deed.{Deed, ends, hashes}
use Rattle.pcrlock_deeds.specs.Doings.{after, ending, hashed, outcome, stops}
use Rattle.pcrlock_deeds.proofs.Standing.{deed_first}
use Rattle.pcrlock_update.specs.Acts.{defining, evicting, forcing, kept_deed, new_deed, new_with_deed, pinned_deed, replacing, sealing, sending, stating, unless_refused, updating, with_object}
use Rattle.pcrlock_update.specs.declared.change.Change.TheVariants as change
use Rattle.pcrlock_update.specs.declared.change.TpmChange.TheVariants as tpm
use Rattle.pcrlock_update.specs.Changes.{Made, changes_made, made_after, made_next, made_then, refusal_in}
use Rattle.pcrlock_update.specs.NewPolicy.{content_for, define_changes, evict_changes, force_changes, made_line, made_text, new_line, new_line_from, new_made, new_public, new_with, stated, update_strings}
use Rattle.pcrlock_update.specs.Sealed.{object_made, pin_made, pin_sealed, sealed_in}
use Rattle.pcrlock_update.specs.Update.{kept_line, kept_update, named_by, named_in, pin_in, pinned_line, sealed_update, tables_between, update_changes, updated_text}

-- some changes come to a deed, whose strings don't matter
abbrev Comes : List ℕ → Live → Made → Deed → Type 0
Comes text m made d = IsDone (made_line text [] m made) (outcome d m)

-- what a deed comes to behind one step that hashed some strings
abbrev behind : List HashedString → Machine → Deed → Live → Outcome
behind strings before d n = record { ending = ending d n; after = machine (after d n); hashed = strings ++ hashed d n; stops = before ∷ stops d n }

-- the same stands behind one more machine
pub same_behind : (m : Machine) (xs ys : List Machine) → SameStops xs ys → SameStops (m ∷ xs) (m ∷ ys)
same_behind m xs ys same held kept = (
  λ h. elim h [
    | inl at ↦ inl at
    | inr more ↦ inr ((same held kept).0 more)
  ],
  λ h. elim h [
    | inl at ↦ inl at
    | inr more ↦ inr ((same held kept).1 more)
  ],
)

-- one step, and then the rest unless it was refused
next_as : (text : List ℕ) (strings : List HashedString) (why : Option Answer) (m : Live) (held : FileMap) (s : Parts) (rest : Live → Made) (d : Deed)
    → (let n : Live = record { files = held; state = s; draws = m.draws } in
    Comes text n (rest n) d → IsDone (made_line text [] m (made_next why m n rest)) (behind strings (machine m) (unless_refused why d) n))
next_as text strings None m held s rest d h =
    let n : Live = record { files = held; state = s; draws = m.draws } in
    record { ending = h.ending; after = h.after; stops = same_behind (machine m) (rest n).stops (stops d n) h.stops; hashed = λ x k. absurd (omega (arith, k.1)) }
next_as text strings (Some why) m held s rest d h = record { ending = refl; after = refl; stops = λ files kept. (λ k. k, λ k. k); hashed = λ x k. absurd (omega (arith, k.1)) }

-- one that seals the pin, and then the rest by the object's handle
object_as : (text : List ℕ) (strings : List HashedString) (sealed : Result ℕ Answer) (m : Live) (held : FileMap) (s : Parts) (rest : ℕ → Live → Made) (next : ℕ → Deed)
    → (let n : Live = record { files = held; state = s; draws = m.draws } in
    ((object : ℕ) → Comes text n (rest object n) (next object)) → IsDone (made_line text [] m (object_made sealed m n rest)) (behind strings (machine m) (with_object sealed next) n))
object_as text strings (Ok object) m held s rest next h = next_as text strings None m held s (rest object) (next object) (h object)
object_as text strings (Err why) m held s rest next h = record { ending = refl; after = refl; stops = λ files kept. (λ k. k, λ k. k); hashed = λ x k. absurd (omega (arith, k.1)) }

pin_as : (text : List ℕ) (index : ℕ) (pin : List ℕ) (rest : ℕ → Live → Made) (next : ℕ → Deed) (m : Live) → ((object : ℕ) (n : Live) → Comes text n (rest object n) (next object))
    → Comes text m (pin_made index pin rest m) (sealing index pin next)
pin_as text index pin rest next m h =
    let r = pin_sealed index pin m.state in
    object_as text (event_strings (SealPin index pin) m.state) (sealed_in r.0) m m.files r.1 rest next (λ object. h object (record m { state = r.1 }))

-- no change
nothing_as : (text path : List ℕ) (m : Live) → Comes text m (changes_made path [] m) (ends (Fine text))
nothing_as text path m = record { ending = refl; after = refl; stops = λ files kept. (λ k. k, λ k. k); hashed = λ x k. k }

evict_as : (text path : List ℕ) (old : Option ℕ) (m : Live) → Comes text m (changes_made path (evict_changes old) m) (evicting old (ends (Fine text)))
evict_as text path None m = nothing_as text path m
evict_as text path (Some object) m =
    let r = evict object m.state in
    next_as text (event_strings (Other (command.Evict object)) m.state) (refusal_in (tpm.Evict object) r.0) m m.files r.1 (changes_made path []) (ends (Fine text))
    (nothing_as text path (record m { state = r.1 }))

force_as : (text path : List ℕ) (old : Option ℕ) (index : ℕ) (pin : List ℕ) (table : Table) (object : ℕ) (m : Live)
    → Comes text m (changes_made path (force_changes old index pin table object) m) (forcing path index pin object table (evicting old (ends (Fine text))))
force_as text path old index pin table object m =
    let event = Update index pin (plain_table table) in
    let finish = evicting old (ends (Fine text)) in
    let written = insert m.files path (policy_text (stated index pin object (table ∷ []))) in
    let n : Live = record m { files = written } in
    let r = nv_write index pin (content_for table) m.state in
    let write = tpm.Write index pin (content_for table) in
    next_as text [] None m written m.state (changes_made path (change.Tpm write ∷ evict_changes old)) (updating index pin table finish)
    (next_as text (event_strings event m.state) (refusal_in write r.0) n written r.1 (changes_made path (evict_changes old)) finish
    (evict_as text path old (record n { state = r.1 })))

replace_as : (text path : List ℕ) (old : Option ℕ) (index : ℕ) (pin : List ℕ) (object : ℕ) (named : Option Table) (table : Table) (m : Live)
    → Comes text m (changes_made path (update_changes old index pin object named table) m) (replacing path index pin object named table (evicting old (ends (Fine text))))
replace_as text path old index pin object named table m =
    let event = Update index pin (plain_table table) in
    let finish = evicting old (ends (Fine text)) in
    let between = insert m.files path (policy_text (stated index pin object (tables_between named table))) in
    let n : Live = record m { files = between } in
    let r = nv_write index pin (content_for table) m.state in
    let text_alone = policy_text (stated index pin object (table ∷ [])) in
    let alone = insert between path text_alone in
    let k : Live = record n { state = r.1 } in
    let write = tpm.Write index pin (content_for table) in
    let restate = stating path index pin object (table ∷ []) finish in
    next_as text [] None m between m.state (changes_made path (change.Tpm write ∷ change.File text_alone ∷ evict_changes old)) (updating index pin table restate)
    (next_as text (event_strings event m.state) (refusal_in write r.0) n between r.1 (changes_made path (change.File text_alone ∷ evict_changes old)) restate
    (next_as text [] None k alone r.1 (changes_made path (evict_changes old)) finish
    (evict_as text path old (record k { files = alone }))))

-- some changes, and then more
then_next : (why : Option Answer) (m n : Live) (first rest : Live → Made) → made_then (made_next why m n first) rest ≡ made_next why m n (λ k. made_then (first k) rest)
then_next None m n first rest = by (first n).refusal (first n).after (first n).stops
  where
    by : (o : Option Answer) (a : Live) (xs : List Machine)
        → made_after o (record { refusal = o; after = a; stops = machine m ∷ xs }) rest
        ≡ (let made = made_after o (record { refusal = o; after = a; stops = xs }) rest in record { refusal = made.refusal; after = made.after; stops = machine m ∷ made.stops })
    by None a xs = refl
    by (Some answer) a xs = refl
then_next (Some why) m n first rest = refl

-- what stands first in a deed may be named once more
pub same_first : (m : Live) (xs : List Machine) (d : Deed) → SameStops xs (stops d m) → SameStops (machine m ∷ xs) (stops d m)
same_first m xs d same held kept = (
  λ h. elim h [
    | inl at ↦ deed_first held kept d m at
    | inr more ↦ (same held kept).0 more
  ],
  λ h. inr ((same held kept).1 h),
)

again_as : (text path : List ℕ) (m : Live) (rest : Live → Made) (d : Deed) → Comes text m (rest m) d → Comes text m (made_then (changes_made path [] m) rest) d
again_as text path m rest d h = record { ending = h.ending; after = h.after; stops = same_first m (rest m).stops d h.stops; hashed = λ x k. absurd (omega (arith, k.1)) }

define_free : (text path : List ℕ) (index : ℕ) (pin : List ℕ) (rest : Live → Made) (d : Deed) (m : Live) → ((n : Live) → Comes text n (rest n) d)
    → Comes text m (made_then (changes_made path (define_changes false index pin) m) rest) (defining false index pin d)
define_free text path index pin rest d m h =
    let event = Define (new_public index pin) pin in
    let r = nv_define (new_public index pin) m.state in
    let n : Live = record m { state = r.1 } in
    subst (λ (made : Made). Comes text m made (defining false index pin d)) (sym (then_next (refusal_in (tpm.Define (new_public index pin)) r.0) m n (changes_made path []) rest))
    (next_as text (event_strings event m.state) (refusal_in (tpm.Define (new_public index pin)) r.0) m m.files r.1 (λ k. made_then (changes_made path [] k) rest) d (again_as text path n rest d (h n)))

define_as : (text path : List ℕ) (stands : Bool) (index : ℕ) (pin : List ℕ) (rest : Live → Made) (d : Deed) (m : Live) → ((n : Live) → Comes text n (rest n) d)
    → Comes text m (made_then (changes_made path (define_changes stands index pin) m) rest) (defining stands index pin d)
define_as text path false index pin rest d m h = define_free text path index pin rest d m h
define_as text path true index pin rest d m h =
    let event = Other (command.NvUndefine index) in
    let r = nv_undefine index m.state in
    let n : Live = record m { state = r.1 } in
    let then = defining false index pin d in
    subst (λ (made : Made). Comes text m made (defining true index pin d)) (sym (then_next (refusal_in (tpm.Undefine index) r.0) m n (changes_made path (define_changes false index pin)) rest))
    (next_as text (event_strings event m.state) (refusal_in (tpm.Undefine index) r.0) m m.files r.1 (λ k. made_then (changes_made path (define_changes false index pin) k) rest) then
    (define_free text path index pin rest d n h))

-- the strings of the whole stand before it
with_strings : (text : List ℕ) (strings : List HashedString) (m : Live) (made : Made) (d : Deed) → Comes text m made d → IsDone (made_line text strings m made) (outcome (hashes strings d) m)
with_strings text strings m made d h = record { ending = h.ending; after = h.after; stops = h.stops; hashed = λ x k. Contains-append_left strings (hashed d m) x k }

new_with_as : (text path : List ℕ) (old : Option ℕ) (stands : Bool) (index : ℕ) (table : Table) (pin : List ℕ) (m : Live)
    → IsDone (new_with text path old stands index table pin m) (outcome (new_with_deed text path old stands index table pin) m)
new_with_as text path old stands index table pin m =
    let all = text ++ made_text in
    let rest = λ (object : ℕ). changes_made path (force_changes old index pin table object) in
    let next = λ (object : ℕ). forcing path index pin object table (evicting old (ends (Fine all))) in
    let d = sealing index pin next in
    with_strings all (update_strings index pin table) m (new_made path old stands index pin table m) (defining stands index pin d)
    (define_as all path stands index pin (pin_made index pin rest) d m
    (λ n. pin_as all index pin rest next n (λ object k. force_as all path old index pin table object k)))

new_from_as : (text path : List ℕ) (old : Option ℕ) (stands : Bool) (index : ℕ) (table : Table) (pin : Option (List ℕ)) (held : FileMap) (s : Parts) (words : List (List ℕ))
    → (let m : Live = record { files = held; state = s; draws = words } in
    IsDone (new_line_from words text path old stands index table pin m) (outcome (new_deed text path old stands index table pin) m))
new_from_as text path old stands index table (Some pin) held s words = new_with_as text path old stands index table pin (record { files = held; state = s; draws = words })
new_from_as text path old stands index table None held s (word ∷ rest) =
    new_with_as (text ++ pin_text word) path old stands index table word (record { files = held; state = s; draws = rest })
new_from_as text path old stands index table None held s [] = record { ending = refl; after = refl; stops = λ files kept. (λ k. k, λ k. k); hashed = λ x k. k }

-- a new policy
pub new_as : (text path : List ℕ) (old : Option ℕ) (stands : Bool) (index : ℕ) (table : Table) (pin : Option (List ℕ)) (m : Live)
    → IsDone (new_line text path old stands index table pin m) (outcome (new_deed text path old stands index table pin) m)
new_as text path old stands index table pin m = new_from_as text path old stands index table pin m.files m.state m.draws

-- a written index, with a pin that was given
pub pinned_as : (text path : List ℕ) (found : Option Policy) (index : ℕ) (pin content : List ℕ) (table : Table) (m : Live)
    → IsDone (pinned_line text path found index pin content table m) (outcome (pinned_deed text path found index pin content table) m)
pinned_as text path found index pin content table m =
    let all = text ++ updated_text in
    let named = named_by content found in
    let rest = λ (object : ℕ). changes_made path (update_changes (pin_in found) index pin object named table) in
    let next = λ (object : ℕ). replacing path index pin object named table (evicting (pin_in found) (ends (Fine all))) in
    with_strings all (update_strings index pin table) m (sealed_update path found index pin content table m) (sealing index pin next)
    (pin_as all index pin rest next m (λ object n. replace_as all path (pin_in found) index pin object named table n))

-- and with the pin that is kept
pub kept_as : (text path : List ℕ) (policy : Policy) (pin content : List ℕ) (table : Table) (m : Live)
    → IsDone (kept_line text path policy pin content table m) (outcome (kept_deed text path policy pin content table) m)
kept_as text path policy pin content table m =
    let all = text ++ updated_text in
    let named = named_in content policy.tables in
    with_strings all (update_strings policy.handle pin table) m (kept_update path policy pin content table m) (replacing path policy.handle pin policy.pin_object named table (ends (Fine all)))
    (replace_as all path None policy.handle pin policy.pin_object named table m)
