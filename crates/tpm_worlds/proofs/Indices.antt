-- How indices hang together with the updates, as a command changes one of them.
use Rattle.std.proofs.Common.{◌≡◌, ℕ, ◌≤◌, true, List, map, ◌⊎◌, inl, inr, sym, ap, ◌∙◌, Contains}
use Rattle.std.specs.Prelude.{◌↔◌, nat_le, Some}
use Rattle.std.specs.FinMap.{get}
use Rattle.std.proofs.lemmas.Bool.{and_parts, leb-true}
use Rattle.nv_index.specs.Table.{index_at, index_place, is_counted, is_numbered_within}
use Rattle.nv_index.specs.declared.index.Index.{Index}
use Rattle.nv_index.specs.declared.index.Written.{Written}
use Rattle.nv_index.proofs.Lists.{passes_at}
use Rattle.tpm_model.specs.declared.parts.Parts.{Parts}
use Rattle.tpm_model.specs.Orderly.{Orderly}
use Rattle.tpm_model.specs.WholeTie.{HoldsRoot, IsLive, IsStrange, TiedIndices}
use Rattle.tpm_model.specs.World.{LiveIndex, PolicyUpdate, World}
use Rattle.tpm_worlds.specs.WholeEvents.{KnowsPins}

-- the number of an index's last write is one of the writes so far
pub number_counted : (s : Parts) → Orderly s → (q : ℕ) (x : Index) (written : Written) → index_at q s.indices ≡ Some x → x.written ≡ Some written → written.number ≤ s.write_counter
number_counted s orderly q x written found was =
    let counted : is_numbered_within s.write_counter (Some written) ≡ true =
    sym (ap (is_numbered_within s.write_counter) was) ∙ passes_at (is_counted s.write_counter) s.indices (index_place q s.indices) x orderly.counted found in
    leb-true written.number s.write_counter (and_parts (nat_le 1 written.number) (nat_le written.number s.write_counter) counted).1

-- what a step leaves of the tie where an index stays as it was
module _ (s t : Parts) (w v : World) (orderly : Orderly s) (known : KnowsPins w) (tie : TiedIndices s w)
    (pins : (p : List ℕ) → Contains w.pins p → Contains v.pins p)
    (strange : (p : List ℕ) → Contains w.strange p → Contains v.strange p)
    (more : (u : PolicyUpdate) → Contains w.writes u → Contains v.writes u)
    (old : (u : PolicyUpdate) → Contains v.writes u → u.number ≤ s.write_counter → Contains w.writes u) where
  live_forth : (q : ℕ) (live : LiveIndex) → index_at q t.indices ≡ index_at q s.indices → IsLive s w q live → IsLive t v q live
  live_forth q live same l = record {
    index = l.index;
    found = same ∙ l.found;
    written = l.written;
    was = l.was;
    policy = l.policy;
    known = pins live.pin l.known;
    update = more _ l.update;
  }

  live_back : (q : ℕ) (live : LiveIndex) → index_at q t.indices ≡ index_at q s.indices → IsLive t v q live → IsLive s w q live
  live_back q live same l =
      let found : index_at q s.indices ≡ Some l.index = sym same ∙ l.found in
      let update = old _ l.update (number_counted s orderly q l.index l.written found l.was) in
      record { index = l.index; found = found; written = l.written; was = l.was; policy = l.policy; known = known _ update; update = update }

  pub live_stays : (q : ℕ) (live : LiveIndex) → index_at q t.indices ≡ index_at q s.indices → get v.live q ≡ get w.live q → (get v.live q ≡ Some live) ↔ IsLive t v q live
  live_stays q live same map =
      (λ e. live_forth q live same ((tie.live q live).0 (sym map ∙ e)), λ l. map ∙ (tie.live q live).1 (live_back q live same l))

  pub root_stays : (q : ℕ) (live : LiveIndex) → index_at q t.indices ≡ index_at q s.indices → get v.live q ≡ get w.live q → get v.live q ≡ Some live → HoldsRoot t q live.table
  root_stays q live same map e = let r = tie.roots q live (sym map ∙ e) in record { index = r.index; found = same ∙ r.found; written = r.written; was = r.was; content = r.content }

  pub other_stays : (x : Index) (written : Written) → Contains s.indices x → x.written ≡ Some written → get v.live x.public.handle ≡ get w.live x.public.handle
      → ((live : LiveIndex) × (get v.live x.public.handle ≡ Some live)) ⊎ IsStrange v x
  other_stays x written there was map = elim (tie.others x written there was) [
    | inl live ↦ inl (live.0, map ∙ live.1)
    | inr foreign ↦ inr (record { pin = foreign.pin; presented = strange foreign.pin foreign.presented; policy = foreign.policy })
  ]
