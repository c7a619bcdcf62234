-- A deed's world grows, and has the strings of the deed.
use Rattle.std.proofs.Common.{ℕ, List, [], ◌∷◌, ◌++◌, inl, inr, sym, subst, arith, Contains}
use Rattle.std.proofs.lemmas.List.Elements.{Contains-append_cases, Contains-append_left}
use Rattle.hash_bank.specs.HashedString.{HashedString}
use Rattle.tpm_model.specs.declared.parts.Parts.{Parts}
use Rattle.tpm_model.specs.Events.{Event, command_of, event_strings, world_after}
use Rattle.tpm_model.specs.Respond.{respond}
use Rattle.tpm_model.specs.World.{AreHashed, World, extended_world, hashed_world}
use Rattle.tpm_model.proofs.Ties.{Grows, all_hashed}
use Rattle.tpm_worlds.proofs.Steady.{hashed_stays}
use Rattle.tpm_worlds.proofs.TrailReads.{GrowsAll}
use Rattle.tpm_worlds.proofs.WholeLists.{grows_event, joined}
use Rattle.pcrlock_line.specs.Machine.{Live}
use Rattle.pcrlock_deeds.specs.Deed.{Deed, Filing, keeps, files, ends, hashes, sends, sees, walks, boots, draws, writes, removes}
use Rattle.pcrlock_deeds.specs.Doings.{hashed, world}
use Rattle.pcrlock_deeds.specs.Steps.{answer_to, booted_live, by_draws, drawn_live, filing_world, removed_live, sent_live, walked_live, written_live}

-- what holds of either way on holds of the way that is taken
pub by_words : {A : Type 0} (P : A → Type 0) (words : List (List ℕ)) (some : List ℕ → List (List ℕ) → A) (none : A)
    → ((word : List ℕ) (rest : List (List ℕ)) → P (some word rest)) → P none → P (by_draws words some none)
by_words P [] some none each last = last
by_words P (word ∷ rest) some none each last = each word rest

pub grows_hashed : (strings : List HashedString) (w : World) → GrowsAll w (hashed_world strings w)
grows_hashed strings w = record { strings = λ x k. Contains-append_left w.hashed strings x k; pins = λ _ k. k; strange = λ _ k. k; writes = λ _ k. k }

pub grows_extended : (s : Parts) (w : World) → GrowsAll w (extended_world s w)
grows_extended s w = record { strings = λ _ k. k; pins = λ _ k. k; strange = λ _ k. k; writes = λ _ k. k }

pub grows_filing : (filing : Filing) (w : World) → GrowsAll w (filing_world filing w)
grows_filing keeps w = record { strings = λ _ k. k; pins = λ _ k. k; strange = λ _ k. k; writes = λ _ k. k }
grows_filing (files filed) w = record { strings = λ _ k. k; pins = λ _ k. k; strange = λ _ k. k; writes = λ _ k. k }

pub deed_grows : (d : Deed) (m : Live) (w : World) → GrowsAll w (world d m w)
deed_grows (ends last) m w = grows_filing keeps w
deed_grows (hashes strings d) m w =
    let v = hashed_world strings w in
    joined w v (world d m v) (grows_hashed strings w) (deed_grows d m v)
deed_grows (sends event next) m w =
    let v = world_after event m.state w in
    joined w v (world (next (answer_to event m)) (sent_live event m) v) (grows_event event m.state w) (deed_grows (next (answer_to event m)) (sent_live event m) v)
deed_grows (sees next) m w = deed_grows (next m) m w
deed_grows (walks d) m w = deed_grows d (walked_live m) w
deed_grows (boots s d) m w =
    let v = extended_world s w in
    joined w v (world d (booted_live s m) v) (grows_extended s w) (deed_grows d (booted_live s m) v)
deed_grows (draws next none) m w =
    by_words (GrowsAll w) m.draws (λ word rest. world (next word) (drawn_live rest m) w) (world none m w)
    (λ word rest. deed_grows (next word) (drawn_live rest m) w) (deed_grows none m w)
deed_grows (writes path bytes filing d) m w =
    let v = filing_world filing w in
    joined w v (world d (written_live path bytes m) v) (grows_filing filing w) (deed_grows d (written_live path bytes m) v)
deed_grows (removes path filing d) m w =
    let v = filing_world filing w in
    joined w v (world d (removed_live path m) v) (grows_filing filing w) (deed_grows d (removed_live path m) v)

-- the strings of one step and of those that follow
both_hashed : (v : World) (first more : List HashedString) → AreHashed v first → AreHashed v more → AreHashed v (first ++ more)
both_hashed v first more h k x in_both = elim (Contains-append_cases first more x in_both) [
  | inl before ↦ h x before
  | inr behind ↦ k x behind
]

-- strings that were hashed stay so
still_hashed : (u v : World) (strings : List HashedString) → Grows u v → AreHashed u strings → AreHashed v strings
still_hashed u v strings grows h = λ x k. grows x (h x k)

event_hashed : (event : Event) (s : Parts) (w : World) → AreHashed (world_after event s w) (event_strings event s)
event_hashed event s w x k =
    let r = respond (command_of event) s in
    subst (λ xs. Contains xs x) (sym (hashed_stays event r.0 r.1 (hashed_world (event_strings event s) w))) (all_hashed w (event_strings event s) x k)

pub deed_hashed : (d : Deed) (m : Live) (w : World) → AreHashed (world d m w) (hashed d m)
deed_hashed (ends last) m w = λ x k. absurd (omega (arith, k.1))
deed_hashed (hashes strings d) m w =
    let v = hashed_world strings w in
    both_hashed (world d m v) strings (hashed d m) (still_hashed v (world d m v) strings (deed_grows d m v).strings (all_hashed w strings)) (deed_hashed d m v)
deed_hashed (sends event next) m w =
    let v = world_after event m.state w in
    let on = sent_live event m in
    let r = answer_to event m in
    both_hashed (world (next r) on v) (event_strings event m.state) (hashed (next r) on)
    (still_hashed v (world (next r) on v) (event_strings event m.state) (deed_grows (next r) on v).strings (event_hashed event m.state w))
    (deed_hashed (next (answer_to event m)) (sent_live event m) v)
deed_hashed (sees next) m w = deed_hashed (next m) m w
deed_hashed (walks d) m w = deed_hashed d (walked_live m) w
deed_hashed (boots s d) m w = deed_hashed d (booted_live s m) (extended_world s w)
deed_hashed (draws next none) m w = drawn m.draws (λ word rest. deed_hashed (next word) (drawn_live rest m) w) (deed_hashed none m w)
  where
    drawn : (words : List (List ℕ)) → ((word : List ℕ) (rest : List (List ℕ)) → AreHashed (world (next word) (drawn_live rest m) w) (hashed (next word) (drawn_live rest m)))
        → AreHashed (world none m w) (hashed none m)
        → AreHashed (by_draws words (λ word rest. world (next word) (drawn_live rest m) w) (world none m w)) (by_draws words (λ word rest. hashed (next word) (drawn_live rest m)) (hashed none m))
    drawn [] each last = last
    drawn (word ∷ rest) each last = each word rest
deed_hashed (writes path bytes filing d) m w = deed_hashed d (written_live path bytes m) (filing_world filing w)
deed_hashed (removes path filing d) m w = deed_hashed d (removed_live path m) (filing_world filing w)
