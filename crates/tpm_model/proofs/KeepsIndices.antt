-- The commands on indices keep the rules of a state.
use Rattle.std.proofs.Common.{◌≡◌, ℕ, ◌+◌, ◌^◌, ◌<◌, ◌≤◌, ◌==◌, Bool, true, false, cond, not, List, [], ◌∷◌, map, length, set, ◌&&◌, refl, sym, ap, subst, arith}
use Rattle.std.specs.Prelude.{nat_le, nat_lt, remove, reverse, Option, None, Some}
use Rattle.std.specs.List.{AllByRecursion, list_all}
use Rattle.std.specs.Str.{bytes_eq}
use Rattle.std.proofs.lemmas.Bool.{and_from, and_parts, cond_both, eqb-false, eqb-true, le-leb, leb-true, lt-ltb}
use Rattle.std.proofs.lemmas.List.Edits.{length-remove}
use Rattle.std.proofs.Math.ListN.{length-set}
use Rattle.std.proofs.lemmas.Option.{slice_get_within}
use Rattle.hash_bank.specs.declared.bank.Bank.{Bank}
use Rattle.nv_index.specs.Handles.{are_handles}
use Rattle.nv_index.specs.IndexName.{index_name_of}
use Rattle.nv_index.specs.Table.{IsTable, after_write_of, are_apart, define_refusal, has_attributes, index_at, index_place, is_before, is_counted, is_marked, is_mark, is_numbered, is_numbered_within, is_some_number, is_write_before, undefine_refusal_of, unwritten, with_index, write_refusal_of, written_with}
use Rattle.nv_index.specs.declared.index.Index.{Index}
use Rattle.nv_index.specs.declared.index.NvPublic.{NvPublic}
use Rattle.nv_index.specs.declared.index.Written.{Written}
use Rattle.nv_index.specs.declared.refusal.NvRefusal.{NvRefusal}
use Rattle.nv_index.proofs.Lists.{all_at, all_remove, all_set, passes_at, passes_remove, passes_set, passes_weaker}
use Rattle.nv_index.proofs.TableKeeps.{apart_set, apart_unwritten, apart_without, definable, length_with, new_attributes, order_remove, order_set, order_with, passes_with, written_attributes_kept}
use Rattle.policy_digest.specs.Pin.{pin_policy_of}
use Rattle.tpm_model.specs.declared.parts.Parts.{Parts}
use Rattle.tpm_model.specs.declared.trail.TrailEntry.{TrailEntry}
use Rattle.tpm_model.specs.declared.trail.TrailEntry.TheVariants.{Pcr, Or, AuthorizeNv}
use Rattle.tpm_model.specs.IndexCommands.{nv_define, nv_define_unless, nv_undefine, nv_undefine_unless, nv_write, nv_write_unless}
use Rattle.tpm_model.specs.Rules.{HasRules}
use Rattle.tpm_model.specs.SessionRules.{agrees_with, are_reads, has_reads, is_read, is_sha256, is_that_write}
use Rattle.tpm_model.specs.Shape.{IsIndexShape, IsWrittenShape}
use Rattle.tpm_model.specs.Trails.{digest_of_in}
use Rattle.tpm_model.proofs.KeepsRules.{Keeps, from_not}

-- the handles of indices
abbrev pub map_handles : List Index → List ℕ
map_handles xs = map (λ (x : Index). x.public.handle) xs

-- what the rules say of the table of indices
marks_from : (xs : List Index) → AllByRecursion IsIndexShape xs → list_all is_marked xs ≡ true
marks_from [] all = refl
marks_from (x ∷ xs) all = and_from (is_marked x) (list_all is_marked xs) (one x.public.attributes x.written all.0.written) (marks_from xs all.1)
  where
    one : (attributes : ℕ) (o : Option Written) → IsWrittenShape attributes o → is_mark attributes o ≡ true
    one attributes None e = ap not e
    one attributes (Some w) e = e.0

numbers_from : (most : ℕ) (xs : List Index) → list_all (is_counted most) xs ≡ true → list_all is_numbered xs ≡ true
numbers_from most xs h = passes_weaker (is_counted most) is_numbered (λ x. one x.written) xs h
  where
    one : (o : Option Written) → is_numbered_within most o ≡ true → is_some_number o ≡ true
    one None e = refl
    one (Some w) e = (and_parts (nat_le 1 w.number) (nat_le w.number most) e).0

pub record KeepsIndices (s : Parts) : Type 0 where
  pub order : are_handles 0x01000000 0x02000000 (map_handles s.indices) ≡ true
  pub counted : list_all (is_counted s.write_counter) s.indices ≡ true
  pub apart : are_apart s.indices ≡ true

pub indices_kept : (s : Parts) → HasRules s → KeepsIndices s
indices_kept s h =
    let a = and_parts (are_handles 0x01000000 0x02000000 (map_handles s.indices)) (list_all (is_counted s.write_counter) s.indices && are_apart s.indices) h.index_order in
    let b = and_parts (list_all (is_counted s.write_counter) s.indices) (are_apart s.indices) a.1 in
    record { order = a.0; counted = b.0; apart = b.1 }

pub table_kept : (s : Parts) → HasRules s → IsTable s.indices
table_kept s h =
    let k = indices_kept s h in
    record {
      count = h.shape.index_count;
      order = k.order;
      attributes = h.index_attributes;
      marks = marks_from s.indices h.shape.indices;
      numbers = numbers_from s.write_counter s.indices k.counted;
      apart = k.apart;
    }

-- other indices, and another counter of writes, with which the reads of trails still agree
with_indices : (s : Parts) (counter : ℕ) (xs : List Index) → HasRules s → counter < 2 ^ 32 → length xs ≤ 16 → AllByRecursion IsIndexShape xs
    → are_handles 0x01000000 0x02000000 (map_handles xs) ≡ true → list_all (is_counted counter) xs ≡ true → are_apart xs ≡ true → list_all has_attributes xs ≡ true
    → s.write_counter ≤ counter
    → ((name digest : List ℕ) (number : ℕ) → number ≤ s.write_counter → list_all (agrees_with name digest number) s.indices ≡ true → list_all (agrees_with name digest number) xs ≡ true)
    → HasRules (record s { write_counter = counter; indices = xs })
with_indices s counter xs h bound few shape order counted apart attributes later agree = record {
  shape = record {
    values = h.shape.values;
    updates = h.shape.updates;
    writes = bound;
    session_count = h.shape.session_count;
    sessions = h.shape.sessions;
    index_count = few;
    indices = shape;
    object_count = h.shape.object_count;
    objects = h.shape.objects;
  };
  banks = h.banks;
  counters = h.counters;
  session_order = h.session_order;
  fold = h.fold;
  or_member = h.or_member;
  noted = h.noted;
  pcr_now = h.pcr_now;
  nv_now = passes_weaker (has_reads s) (has_reads next) (λ x. reads x.hash (reverse x.trail)) s.sessions h.nv_now;
  index_order = and_from (are_handles 0x01000000 0x02000000 (map_handles xs)) (list_all (is_counted counter) xs && are_apart xs) order
      (and_from (list_all (is_counted counter) xs) (are_apart xs) counted apart);
  index_attributes = attributes;
  object_order = h.object_order;
  secret = h.secret;
}
  where
    next : Parts
    next = record s { write_counter = counter; indices = xs }

    entry_read : (hash : Bank) (before : List ℕ) (e : TrailEntry) → is_read s hash before e ≡ true → is_read next hash before e ≡ true
    entry_read hash before (Pcr bank pcrs values) q = refl
    entry_read hash before (Or list) q = refl
    entry_read hash before (AuthorizeNv name digest written) q =
        let a = and_parts ((is_sha256 hash && bytes_eq digest before) && (nat_le 1 written && nat_le written s.write_counter)) (list_all (agrees_with name digest written) s.indices) q in
        let b = and_parts (is_sha256 hash && bytes_eq digest before) (nat_le 1 written && nat_le written s.write_counter) a.0 in
        let c = and_parts (nat_le 1 written) (nat_le written s.write_counter) b.1 in
        let within : written ≤ s.write_counter = leb-true written s.write_counter c.1 in
        and_from ((is_sha256 hash && bytes_eq digest before) && (nat_le 1 written && nat_le written counter)) (list_all (agrees_with name digest written) xs)
        (and_from (is_sha256 hash && bytes_eq digest before) (nat_le 1 written && nat_le written counter) b.0
        (and_from (nat_le 1 written) (nat_le written counter) c.0 (le-leb written counter (omega arith))))
        (agree name digest written within a.1)

    reads : (hash : Bank) (es : List TrailEntry) → are_reads s hash es ≡ true → are_reads next hash es ≡ true
    reads hash [] q = refl
    reads hash (e ∷ es) q =
        let both = and_parts (is_read s hash (digest_of_in hash es) e) (are_reads s hash es) q in
        and_from (is_read next hash (digest_of_in hash es) e) (are_reads next hash es) (entry_read hash (digest_of_in hash es) e both.0) (reads hash es both.1)

-- a new index
all_with : (P : Index → Type 0) (y : Index) (xs : List Index) → AllByRecursion P xs → P y → AllByRecursion P (with_index y xs)
all_with P y [] all h = (h, tt)
all_with P y (x ∷ xs) all h =
    cond_both (nat_lt y.public.handle x.public.handle) _ _ (AllByRecursion P) (λ _. (h, all)) (λ _. (all.0, all_with P y xs all.1 h))

pub keeps-nv_define : (public : NvPublic) (s : Parts) → HasRules s → Keeps (nv_define public s)
keeps-nv_define public s h = on (define_refusal public s.indices) refl
  where
    on : (o : Option NvRefusal) → define_refusal public s.indices ≡ o → Keeps (nv_define_unless o public s)
    on (Some why) e = h
    on None e =
        let d = definable public s.indices e in
        let k = indices_kept s h in
        let y = unwritten public in
        with_indices s s.write_counter (with_index y s.indices) h h.shape.writes
        (let n = length_with y s.indices in omega (arith, n, d.room))
        (all_with IsIndexShape y s.indices h.shape.indices (record { policy = d.policy; written = rw d.attributes refl }))
        (order_with public s.indices d k.order)
        (passes_with (is_counted s.write_counter) y s.indices k.counted refl)
        (apart_unwritten public s.indices k.apart)
        (passes_with has_attributes y s.indices h.index_attributes (new_attributes public s.indices d))
        (omega arith)
        (λ name digest number _ agreed. passes_with (agrees_with name digest number) y s.indices agreed refl)

pub keeps-nv_undefine : (handle : ℕ) (s : Parts) → HasRules s → Keeps (nv_undefine handle s)
keeps-nv_undefine handle s h = on (index_at handle s.indices) refl
  where
    on : (o : Option Index) → index_at handle s.indices ≡ o → Keeps (nv_undefine_unless (undefine_refusal_of o) handle s)
    on None e = h
    on (Some x) e =
        let k = indices_kept s h in
        let place = index_place handle s.indices in
        let within = slice_get_within s.indices place x e in
        with_indices s s.write_counter (remove s.indices place) h h.shape.writes
        (let n = length-remove s.indices place within in omega (arith, n, h.shape.index_count))
        (all_remove IsIndexShape s.indices place h.shape.indices)
        (order_remove s.indices place k.order)
        (passes_remove (is_counted s.write_counter) s.indices place k.counted)
        (apart_without s.indices place k.apart)
        (passes_remove has_attributes s.indices place h.index_attributes)
        (omega arith)
        (λ name digest number _ agreed. passes_remove (agrees_with name digest number) s.indices place agreed)

-- numbers among the writes so far are below the next
pub before_next : (most : ℕ) (xs : List Index) → list_all (is_counted most) xs ≡ true → list_all (is_before (most + 1)) xs ≡ true
before_next most xs h = passes_weaker (is_counted most) (is_before (most + 1)) (λ x. one x.written) xs h
  where
    one : (o : Option Written) → is_numbered_within most o ≡ true → is_write_before (most + 1) o ≡ true
    one None e = refl
    one (Some w) e =
        let bound : w.number ≤ most = leb-true w.number most (and_parts (nat_le 1 w.number) (nat_le w.number most) e).1 in
        lt-ltb w.number (most + 1) (omega arith)

pub counted_before : (s : Parts) → HasRules s → list_all (is_before (s.write_counter + 1)) s.indices ≡ true
counted_before s h = before_next s.write_counter s.indices (indices_kept s h).counted

still_counted : (most : ℕ) (xs : List Index) → list_all (is_counted most) xs ≡ true → list_all (is_counted (most + 1)) xs ≡ true
still_counted most xs h = passes_weaker (is_counted most) (is_counted (most + 1)) (λ x. one x.written) xs h
  where
    one : (o : Option Written) → is_numbered_within most o ≡ true → is_numbered_within (most + 1) o ≡ true
    one None e = refl
    one (Some w) e =
        let both = and_parts (nat_le 1 w.number) (nat_le w.number most) e in
        let bound : w.number ≤ most = leb-true w.number most both.1 in
        and_from (nat_le 1 w.number) (nat_le w.number (most + 1)) both.0 (le-leb w.number (most + 1) (omega arith))

-- a write with the next number is among those so far
pub counted_set : (most : ℕ) (xs : List Index) (place : ℕ) (value : List ℕ) (x : Index) → list_all (is_counted most) xs ≡ true
    → list_all (is_counted (most + 1)) (set xs place (written_with value (most + 1) x)) ≡ true
counted_set most xs place value x h =
    passes_set (is_counted (most + 1)) xs place (written_with value (most + 1) x) (still_counted most xs h)
    (and_from (nat_le 1 (most + 1)) (nat_le (most + 1) (most + 1)) (le-leb 1 (most + 1) (omega arith)) (le-leb (most + 1) (most + 1) (omega arith)))

pub keeps-nv_write : (handle : ℕ) (pin value : List ℕ) (s : Parts) → HasRules s → Keeps (nv_write handle pin value s)
keeps-nv_write handle pin value s h = on (index_at handle s.indices) refl
  where
    given : List ℕ
    given = pin_policy_of pin

    written : (x : Index) → index_at handle s.indices ≡ Some x → length value ≡ 34 → s.write_counter < 4294967295
        → HasRules (record s { write_counter = s.write_counter + 1; indices = set s.indices (index_place handle s.indices) (written_with value (s.write_counter + 1) x) })
    written x e size left =
        let k = indices_kept s h in
        let place = index_place handle s.indices in
        let n = s.write_counter + 1 in
        let y = written_with value n x in
        let shape : IsIndexShape x = all_at IsIndexShape s.indices place x h.shape.indices e in
        with_indices s n (set s.indices place y) h (omega arith)
        (omega (arith, length-set s.indices place y, h.shape.index_count))
        (all_set IsIndexShape s.indices place y h.shape.indices (record { policy = shape.policy; written = (refl, size) }))
        (order_set s.indices place x y e refl k.order)
        (counted_set s.write_counter s.indices place value x k.counted)
        (apart_set s.indices place y (record { number = n; value = value }) refl (counted_before s h) k.apart)
        (passes_set has_attributes s.indices place y h.index_attributes (written_attributes_kept value n x (passes_at has_attributes s.indices place x h.index_attributes e)))
        (omega arith)
        (λ name digest number within agreed. passes_set (agrees_with name digest number) s.indices place y agreed (new_number name digest number y.public within))
      where
        new_number : (name digest : List ℕ) (number : ℕ) (public : NvPublic) → number ≤ s.write_counter
            → is_that_write name digest number public (Some (record { number = s.write_counter + 1; value = value })) ≡ true
        new_number name digest number public within = by_test (s.write_counter + 1 == number) refl
          where
            by_test : (t : Bool) → (s.write_counter + 1 == number) ≡ t → cond t (bytes_eq name (index_name_of public) && bytes_eq value (0x00 ∷ 0x0B ∷ digest)) true ≡ true
            by_test true q = let same : s.write_counter + 1 ≡ number = eqb-true (s.write_counter + 1) number q in absurd (omega arith)
            by_test false q = refl

    on : (o : Option Index) → index_at handle s.indices ≡ o → Keeps (nv_write_unless (write_refusal_of o given value) handle value s)
    on None e = h
    on (Some x) e =
        cond_both (not (bytes_eq given x.public.policy)) _ _ (λ r. Keeps (nv_write_unless r handle value s)) (λ _. h) (λ _.
        cond_both (not (length value == 34)) _ _ (λ r. Keeps (nv_write_unless r handle value s)) (λ _. h) (λ sized.
        cond_both (s.write_counter == 4294967295) _ _ Keeps (λ _. h) (λ below.
        let ne : s.write_counter ≡ 4294967295 → ⊥ = eqb-false s.write_counter 4294967295 below in
        let left : s.write_counter < 4294967295 = omega (arith, h.shape.writes) in
        let size : length value ≡ 34 = eqb-true (length value) 34 (from_not _ sized) in
        ap_after x e size left)))
      where
        ap_after : (x : Index) → index_at handle s.indices ≡ Some x → length value ≡ 34 → s.write_counter < 4294967295
            → HasRules (record s { write_counter = s.write_counter + 1; indices = after_write_of (index_at handle s.indices) (index_place handle s.indices) value (s.write_counter + 1) s.indices })
        ap_after x e size left =
            subst (λ o. HasRules (record s { write_counter = s.write_counter + 1; indices = after_write_of o (index_place handle s.indices) value (s.write_counter + 1) s.indices })) (sym e) (written x e size left)
