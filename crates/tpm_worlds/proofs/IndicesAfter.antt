-- Each command on indices leaves them hanging together with the updates.
use Rattle.std.proofs.Common.{◌≡◌, ℕ, zero, suc, ◌+◌, ◌^◌, ◌<◌, ◌≤◌, ◌==◌, Bool, true, false, cond, List, [], ◌∷◌, ◌++◌, map, set, ◌⊎◌, inl, inr, refl, sym, ap, subst, ◌∙◌, arith, Contains}
use Rattle.std.specs.Prelude.{◌↔◌, slice_get, Option, None, Some, is_some}
use Rattle.std.specs.FinMap.{get, get-insert, get-remove, insert}
use Rattle.std.specs.Cmp.{nat_cmp_total, unsigned_tied}
use Rattle.std.proofs.lemmas.Bool.{eqb-false, eqb-true, eq-eqb}
use Rattle.std.proofs.lemmas.List.Elements.{Contains-append_left, Contains-append_cases, Contains-push}
use Rattle.nv_index.specs.Table.{define_refusal, index_at, index_place, unwritten, with_index, without_index, written_with}
use Rattle.nv_index.specs.declared.index.Index.{Index}
use Rattle.nv_index.specs.declared.index.NvPublic.{NvPublic}
use Rattle.nv_index.specs.declared.index.Written.{Written}
use Rattle.nv_index.proofs.Handles.{AreHandles, handles_from_test}
use Rattle.nv_index.proofs.Lists.{all_remove, all_set}
use Rattle.nv_index.proofs.TableKeeps.{definable}
use Rattle.policy_digest.specs.Pin.{pin_policy_of}
use Rattle.policy_digest.specs.PlainTable.{PlainTable}
use Rattle.tpm_model.specs.declared.parts.Parts.{Parts}
use Rattle.tpm_model.specs.Events.{content_of_table, strange_world, undefined_world, updated_world}
use Rattle.tpm_model.specs.Orderly.{Orderly}
use Rattle.tpm_model.specs.ValidTable.{IsValidTable}
use Rattle.tpm_model.specs.WholeTie.{HoldsRoot, IsLive, IsSoundUpdate, IsStrange, TiedIndices}
use Rattle.tpm_model.specs.World.{LiveIndex, PolicyUpdate, World}
use Rattle.tpm_worlds.specs.WholeEvents.{KnowsPins}
use Rattle.tpm_worlds.proofs.IndexPlaces.{found_handle, none_left, removed_at, removed_at_other, set_at, set_at_other, with_at, with_at_other}
use Rattle.tpm_worlds.proofs.Indices.{live_stays, other_stays, root_stays}
use Rattle.tpm_worlds.proofs.Members.{all_of, all_with, member}
use Rattle.tpm_model.proofs.Ties.{only, pushed}

-- no index, and no index in the map
neither : (s : Parts) (w : World) (q : ℕ) (live : LiveIndex) → index_at q s.indices ≡ None → get w.live q ≡ None → (get w.live q ≡ Some live) ↔ IsLive s w q live
neither s w q live none gone = (λ e. absurd (apart (sym gone ∙ e)), λ l. absurd (apart_index (sym none ∙ l.found)))
  where
    apart : None ≡ Some live → ⊥
    apart e = cc

    apart_index : {x : Index} → None ≡ Some x → ⊥
    apart_index e = cc

-- the same indices, counter, live indices and updates
pub indices_same : (s t : Parts) (w v : World) → Orderly s → KnowsPins w → t.indices ≡ s.indices → t.write_counter ≡ s.write_counter → v.live ≡ w.live → v.writes ≡ w.writes
    → ((p : List ℕ) → Contains w.pins p → Contains v.pins p) → ((p : List ℕ) → Contains w.strange p → Contains v.strange p) → TiedIndices s w → TiedIndices t v
indices_same s t w v orderly known indices counter live writes pins strange tie = record {
  live = λ q x. live_stays s t w v orderly known tie pins strange more old q x (ap (index_at q) indices) (ap (λ m. get m q) live);
  roots = λ q x. root_stays s t w v orderly known tie pins strange more old q x (ap (index_at q) indices) (ap (λ m. get m q) live);
  updates = λ u k. let d = tie.updates u (subst (λ us. Contains us u) writes k) in record { number = omega (arith, d.number, counter); handle = d.handle; table = d.table };
  others = λ x written k was. other_stays s t w v orderly known tie pins strange more old x written (subst (λ xs. Contains xs x) indices k) was (ap (λ m. get m x.public.handle) live);
}
  where
    more : (u : PolicyUpdate) → Contains w.writes u → Contains v.writes u
    more u k = subst (λ us. Contains us u) (sym writes) k

    old : (u : PolicyUpdate) → Contains v.writes u → u.number ≤ s.write_counter → Contains w.writes u
    old u k _ = subst (λ us. Contains us u) writes k

-- what the map of live indices holds where one was taken away
removed_same : (w : World) (gone q : ℕ) → q ≡ gone → get (undefined_world gone w).live q ≡ None
removed_same w gone q same =
    get-remove nat_cmp_total w.live gone q
    ∙ ap (λ b. cond b None (get w.live q)) (unsigned_tied q gone ∙ eq-eqb q gone same)

unequal : (a b : ℕ) → (a ≡ b → ⊥) → (a == b) ≡ false
unequal a b other = by_test (a == b) refl
  where
    by_test : (t : Bool) → (a == b) ≡ t → t ≡ false
    by_test true e = absurd (other (eqb-true a b e))
    by_test false e = refl

removed_else : (w : World) (gone q : ℕ) → (q ≡ gone → ⊥) → get (undefined_world gone w).live q ≡ get w.live q
removed_else w gone q other =
    get-remove nat_cmp_total w.live gone q
    ∙ ap (λ b. cond b None (get w.live q)) (unsigned_tied q gone ∙ unequal q gone other)

-- what holds whether or not two handles are one
by_handle : (P : Type 0) (q h : ℕ) → (q ≡ h → P) → ((q ≡ h → ⊥) → P) → P
by_handle P q h alike apart = on (q == h) refl
  where
    on : (b : Bool) → (q == h) ≡ b → P
    on true e = alike (eqb-true q h e)
    on false e = apart (eqb-false q h e)

-- an index is taken away
pub indices_undefined : (s : Parts) (w : World) (gone : ℕ) → Orderly s → KnowsPins w → TiedIndices s w
    → TiedIndices (record s { indices = without_index gone s.indices }) (undefined_world gone w)
indices_undefined s w gone orderly known tie = record {
  live = λ q x. by_handle ((get v.live q ≡ Some x) ↔ IsLive t v q x) q gone
      (λ same. neither t v q x (ap (λ n. index_at n t.indices) same ∙ removed_at 0x01000000 0x02000000 gone s.indices order) (removed_same w gone q same))
      (λ other. live_stays s t w v orderly known tie (λ _ k. k) (λ _ k. k) (λ _ k. k) (λ _ k _. k) q x (removed_at_other gone q s.indices other) (removed_else w gone q other));
  roots = λ q x e. by_handle (HoldsRoot t q x.table) q gone
      (λ same. absurd (nowhere (sym (removed_same w gone q same) ∙ e)))
      (λ other. root_stays s t w v orderly known tie (λ _ k. k) (λ _ k. k) (λ _ k. k) (λ _ k _. k) q x (removed_at_other gone q s.indices other) (removed_else w gone q other) e);
  updates = λ u k. let d = tie.updates u k in record { number = d.number; handle = d.handle; table = d.table };
  others = λ x written k was. other_stays s t w v orderly known tie (λ _ j. j) (λ _ j. j) (λ _ j. j) (λ _ j _. j) x written
      (member (Contains s.indices) t.indices x (all_remove (Contains s.indices) s.indices (index_place gone s.indices) (all_of (Contains s.indices) s.indices (λ _ j. j))) k) was
      (removed_else w gone x.public.handle (member (λ (y : Index). y.public.handle ≡ gone → ⊥) t.indices x (none_left 0x01000000 0x02000000 gone s.indices order) k));
}
  where
    t : Parts
    t = record s { indices = without_index gone s.indices }

    v : World
    v = undefined_world gone w

    order : AreHandles 0x01000000 0x02000000 (map (λ (x : Index). x.public.handle) s.indices)
    order = handles_from_test 0x01000000 0x02000000 (map (λ (x : Index). x.public.handle) s.indices) orderly.table.order

    nowhere : {x : LiveIndex} → None ≡ Some x → ⊥
    nowhere e = cc

-- nothing is found where there is none
no_index : (o : Option Index) → is_some o ≡ false → o ≡ None
no_index None e = refl
no_index (Some x) e = cc

-- an index is defined
pub indices_defined : (s : Parts) (w : World) (public : NvPublic) → Orderly s → KnowsPins w → define_refusal public s.indices ≡ None → TiedIndices s w
    → TiedIndices (record s { indices = with_index (unwritten public) s.indices }) w
indices_defined s w public orderly known allowed tie = record {
  live = λ q x. by_handle ((get w.live q ≡ Some x) ↔ IsLive t w q x) q public.handle
      (λ same. (λ e. absurd (free q x same ((tie.live q x).0 e)), λ l. absurd (blank q x same l)))
      (λ other. live_stays s t w w orderly known tie (λ _ k. k) (λ _ k. k) (λ _ k. k) (λ _ k _. k) q x (with_at_other q (unwritten public) s.indices (λ e. other (sym e))) refl);
  roots = λ q x e. by_handle (HoldsRoot t q x.table) q public.handle
      (λ same. absurd (free q x same ((tie.live q x).0 e)))
      (λ other. root_stays s t w w orderly known tie (λ _ k. k) (λ _ k. k) (λ _ k. k) (λ _ k _. k) q x (with_at_other q (unwritten public) s.indices (λ j. other (sym j))) refl e);
  updates = λ u k. let d = tie.updates u k in record { number = d.number; handle = d.handle; table = d.table };
  others = λ x written k was. member (λ (y : Index). (z : Written) → y.written ≡ Some z → ((live : LiveIndex) × (get w.live y.public.handle ≡ Some live)) ⊎ IsStrange w y) t.indices x
      (all_with _ (unwritten public) s.indices (all_of _ s.indices (λ y j z is. tie.others y z j is)) (λ z is. absurd (never z is))) k written was;
}
  where
    t : Parts
    t = record s { indices = with_index (unwritten public) s.indices }

    none : index_at public.handle s.indices ≡ None
    none = no_index (index_at public.handle s.indices) (definable public s.indices allowed).free

    free : (q : ℕ) (x : LiveIndex) → q ≡ public.handle → IsLive s w q x → ⊥
    free q x same l = let e : None ≡ Some l.index = sym none ∙ ap (λ n. index_at n s.indices) (sym same) ∙ l.found in cc

    never : (z : Written) → None ≡ Some z → ⊥
    never z e = cc

    blank : (q : ℕ) (x : LiveIndex) → q ≡ public.handle → IsLive t w q x → ⊥
    blank q x same l =
        let e : Some (unwritten public) ≡ Some l.index = sym (with_at (unwritten public) s.indices none) ∙ ap (λ n. index_at n t.indices) (sym same) ∙ l.found in
        let one : unwritten public ≡ l.index = cc in
        never l.written (ap (λ (y : Index). y.written) one ∙ l.was)

-- the handle of an index has 32 bits
pub handle_range : (s : Parts) → Orderly s → (q : ℕ) (x : Index) → index_at q s.indices ≡ Some x → x.public.handle < 2 ^ 32
handle_range s orderly q x found =
    within 0x01000000 0x02000000 s.indices (handles_from_test 0x01000000 0x02000000 (map (λ (y : Index). y.public.handle) s.indices) orderly.table.order) (index_place q s.indices) found (omega arith)
  where
    within : (low end : ℕ) (xs : List Index) → AreHandles low end (map (λ (y : Index). y.public.handle) xs) → (place : ℕ) → slice_get xs place ≡ Some x → end ≤ 2 ^ 32 → x.public.handle < 2 ^ 32
    within low end [] order place e bound = cc
    within low end (y ∷ ys) order zero e bound = let same : y ≡ x = cc in subst (λ (z : Index). z.public.handle < 2 ^ 32) same (omega (arith, order.1, bound))
    within low end (y ∷ ys) order (suc place) e bound = within (y.public.handle + 1) end ys order.2 place e bound

-- the map of live indices where one was put
inserted_same : (w : World) (h : ℕ) (live : LiveIndex) (q : ℕ) → q ≡ h → get (insert w.live h live) q ≡ Some live
inserted_same w h live q same =
    get-insert nat_cmp_total w.live h live q ∙ ap (λ b. cond b (Some live) (get w.live q)) (unsigned_tied q h ∙ eq-eqb q h same)

inserted_else : (w : World) (h : ℕ) (live : LiveIndex) (q : ℕ) → (q ≡ h → ⊥) → get (insert w.live h live) q ≡ get w.live q
inserted_else w h live q other =
    get-insert nat_cmp_total w.live h live q ∙ ap (λ b. cond b (Some live) (get w.live q)) (unsigned_tied q h ∙ unequal q h other)

-- members of a list are members of one with more
more_writes : (w : World) (new : PolicyUpdate) (u : PolicyUpdate) → Contains w.writes u → Contains (w.writes ++ new ∷ []) u
more_writes w new u k = Contains-append_left w.writes (new ∷ []) u k

-- the updates but the newest are those from before
older : (s : Parts) (w : World) (new u : PolicyUpdate) → new.number ≡ s.write_counter + 1 → Contains (w.writes ++ new ∷ []) u → u.number ≤ s.write_counter → Contains w.writes u
older s w new u number k below = elim (Contains-append_cases w.writes (new ∷ []) u k) [
  | inl before ↦ before
  | inr one ↦ let same : new ≡ u = only new u one in
      let last : new.number ≡ u.number = ap (λ (x : PolicyUpdate). x.number) same in
      absurd (omega (arith, last, number, below))
]

-- an update with the next number is the newest
newest : (s : Parts) (w : World) (new u : PolicyUpdate) → TiedIndices s w → u.number ≡ s.write_counter + 1 → Contains (w.writes ++ new ∷ []) u → new ≡ u
newest s w new u tie number k = elim (Contains-append_cases w.writes (new ∷ []) u k) [
  | inl before ↦ absurd (omega (arith, number, (tie.updates u before).number))
  | inr one ↦ only new u one
]

-- the state after a write of the index that was found
abbrev pub rewritten : Parts → ℕ → List ℕ → Index → Parts
rewritten s h value x = record s { write_counter = s.write_counter + 1; indices = set s.indices (index_place h s.indices) (written_with value (s.write_counter + 1) x) }

-- the program writes a table's root
pub indices_updated : (s : Parts) (w : World) (h : ℕ) (pin : List ℕ) (table : PlainTable) (x : Index) → Orderly s → KnowsPins w → IsValidTable table
    → index_at h s.indices ≡ Some x → pin_policy_of pin ≡ x.public.policy → TiedIndices s w
    → TiedIndices (rewritten s h (content_of_table table) x) (updated_world (s.write_counter + 1) h pin table w)
indices_updated s w h pin table x orderly known valid found policy tie = record {
  live = λ q live. by_handle ((get v.live q ≡ Some live) ↔ IsLive t v q live) q h
      (λ same. (λ e. subst (IsLive t v q) (is_new q live same e) (here q same), λ l. inserted_same w h new q same ∙ ap Some (only_new q live same l)))
      (λ other. live_stays s t w v orderly known tie more_pins (λ _ k. k) (more_writes w update) older_writes q live (set_at_other h q y s.indices handle other) (inserted_else w h new q other));
  roots = λ q live e. by_handle (HoldsRoot t q live.table) q h
      (λ same. subst (λ (z : LiveIndex). HoldsRoot t q z.table) (is_new q live same e)
      (record { index = y; found = at q same; written = last; was = refl; content = refl }))
      (λ other. root_stays s t w v orderly known tie more_pins (λ _ k. k) (more_writes w update) older_writes q live (set_at_other h q y s.indices handle other) (inserted_else w h new q other) e);
  updates = pushed (IsSoundUpdate t) w.writes update
      (λ u k. let d = tie.updates u k in record { number = omega (arith, d.number); handle = d.handle; table = d.table })
      (record { number = omega arith; handle = subst (λ n. n < 2 ^ 32) (found_handle h s.indices x found) (handle_range s orderly h x found); table = valid });
  others = λ z written k was. member Known t.indices z
      (all_set Known s.indices (index_place h s.indices) y (all_of Known s.indices old_known) (known_at y handle)) k written was;
}
  where
    n : ℕ
    n = s.write_counter + 1

    y : Index
    y = written_with (content_of_table table) (s.write_counter + 1) x

    last : Written
    last = record { number = s.write_counter + 1; value = content_of_table table }

    t : Parts
    t = rewritten s h (content_of_table table) x

    v : World
    v = updated_world (s.write_counter + 1) h pin table w

    new : LiveIndex
    new = record { pin = pin; table = table }

    update : PolicyUpdate
    update = record { number = s.write_counter + 1; handle = h; pin = pin; table = table }

    handle : y.public.handle ≡ h
    handle = found_handle h s.indices x found

    more_pins : (p : List ℕ) → Contains w.pins p → Contains v.pins p
    more_pins p k = Contains-append_left w.pins (pin ∷ []) p k

    older_writes : (u : PolicyUpdate) → Contains v.writes u → u.number ≤ s.write_counter → Contains w.writes u
    older_writes u k below = older s w update u refl k below

    at : (q : ℕ) → q ≡ h → index_at q t.indices ≡ Some y
    at q same = ap (λ k. index_at k t.indices) same ∙ set_at h x y s.indices handle found

    is_new : (q : ℕ) (live : LiveIndex) → q ≡ h → get v.live q ≡ Some live → new ≡ live
    is_new q live same e = let both : Some new ≡ Some live = sym (inserted_same w h new q same) ∙ e in cc

    here : (q : ℕ) → q ≡ h → IsLive t v q new
    here q same = record {
      index = y;
      found = at q same;
      written = last;
      was = refl;
      policy = sym policy;
      known = Contains-push w.pins pin;
      update = subst (λ k. Contains v.writes (record { number = s.write_counter + 1; handle = k; pin = pin; table = table })) (sym same) (Contains-push w.writes update);
    }

    only_new : (q : ℕ) (live : LiveIndex) → q ≡ h → IsLive t v q live → new ≡ live
    only_new q live same l =
        let both : Some y ≡ Some l.index = sym (at q same) ∙ l.found in
        let one : y ≡ l.index = cc in
        let writes : Some last ≡ Some l.written = ap (λ (z : Index). z.written) one ∙ l.was in
        let number : last ≡ l.written = cc in
        let u : update ≡ record { number = l.written.number; handle = q; pin = live.pin; table = live.table } =
        newest s w update (record { number = l.written.number; handle = q; pin = live.pin; table = live.table }) tie (sym (ap (λ (z : Written). z.number) number)) l.update in
        ap (λ (z : PolicyUpdate). record { pin = z.pin; table = z.table }) u

    Known : Index → Type 0
    Known z = (written : Written) → z.written ≡ Some written → ((live : LiveIndex) × (get v.live z.public.handle ≡ Some live)) ⊎ IsStrange v z

    known_at : (z : Index) → z.public.handle ≡ h → Known z
    known_at z same written was = inl (new, inserted_same w h new z.public.handle same)

    old_known : (z : Index) → Contains s.indices z → Known z
    old_known z k = by_handle (Known z) z.public.handle h (known_at z)
        (λ other written was. other_stays s t w v orderly known tie more_pins (λ _ j. j) (more_writes w update) older_writes z written k was (inserted_else w h new z.public.handle other))

-- a stranger writes an index that isn't live
pub indices_strange : (s : Parts) (w : World) (h : ℕ) (pin value : List ℕ) (x : Index) → Orderly s → KnowsPins w → index_at h s.indices ≡ Some x → pin_policy_of pin ≡ x.public.policy
    → ((live : LiveIndex) → get w.live h ≡ Some live → ⊥) → TiedIndices s w → TiedIndices (rewritten s h value x) (strange_world pin w)
indices_strange s w h pin value x orderly known found policy dead tie = record {
  live = λ q live. by_handle ((get v.live q ≡ Some live) ↔ IsLive t v q live) q h
      (λ same. (λ e. absurd (dead live (ap (get w.live) (sym same) ∙ e)), λ l. absurd (fresh q live same l)))
      (λ other. live_stays s t w v orderly known tie (λ _ k. k) more_strange (λ _ k. k) (λ _ k _. k) q live (set_at_other h q y s.indices handle other) refl);
  roots = λ q live e. by_handle (HoldsRoot t q live.table) q h
      (λ same. absurd (dead live (ap (get w.live) (sym same) ∙ e)))
      (λ other. root_stays s t w v orderly known tie (λ _ k. k) more_strange (λ _ k. k) (λ _ k _. k) q live (set_at_other h q y s.indices handle other) refl e);
  updates = λ u k. let d = tie.updates u k in record { number = omega (arith, d.number); handle = d.handle; table = d.table };
  others = λ z written k was. member Known t.indices z
      (all_set Known s.indices (index_place h s.indices) y (all_of Known s.indices old_known)
      (λ _ _. inr (record { pin = pin; presented = Contains-push w.strange pin; policy = sym policy }))) k written was;
}
  where
    y : Index
    y = written_with value (s.write_counter + 1) x

    last : Written
    last = record { number = s.write_counter + 1; value = value }

    t : Parts
    t = rewritten s h value x

    v : World
    v = strange_world pin w

    handle : y.public.handle ≡ h
    handle = found_handle h s.indices x found

    more_strange : (p : List ℕ) → Contains w.strange p → Contains v.strange p
    more_strange p k = Contains-append_left w.strange (pin ∷ []) p k

    fresh : (q : ℕ) (live : LiveIndex) → q ≡ h → IsLive t v q live → ⊥
    fresh q live same l =
        let both : Some y ≡ Some l.index = sym (ap (λ k. index_at k t.indices) same ∙ set_at h x y s.indices handle found) ∙ l.found in
        let one : y ≡ l.index = cc in
        let writes : Some last ≡ Some l.written = ap (λ (z : Index). z.written) one ∙ l.was in
        let number : last ≡ l.written = cc in
        let bound = (tie.updates _ l.update).number in
        let next : s.write_counter + 1 ≡ l.written.number = ap (λ (z : Written). z.number) number in
        omega (arith, bound, next)

    Known : Index → Type 0
    Known z = (written : Written) → z.written ≡ Some written → ((live : LiveIndex) × (get v.live z.public.handle ≡ Some live)) ⊎ IsStrange v z

    old_known : (z : Index) → Contains s.indices z → Known z
    old_known z k = λ written was. other_stays s t w v orderly known tie (λ _ j. j) more_strange (λ _ j. j) (λ _ j _. j) z written k was refl
