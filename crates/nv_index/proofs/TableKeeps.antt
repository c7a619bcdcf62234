-- A table stays one over each change.
use Rattle.std.proofs.Common.{◌≡◌, ℕ, zero, suc, ◌+◌, ◌<◌, ◌≤◌, ◌==◌, List, [], ◌∷◌, ◌++◌, map, length, set, take, drop, Bool, true, false, cond, not, ◌&&◌, refl, sym, ap, ◌∙◌, subst, arith}
use Rattle.std.specs.Prelude.{insert, nat_lt, nat_le, remove, slice_get, Option, None, Some, is_some, Result, Ok, Err}
use Rattle.std.specs.List.{list_all, position_or_len}
use Rattle.std.proofs.lemmas.Bool.{and_from, and_parts, cond_both, eq-eqb, eqb-false, eqb-true, le-leb, leb-false, leb-true, lt-ltb, ltb-false, ltb-true, not-false}
use Rattle.std.proofs.lemmas.List.Edits.{length-remove}
use Rattle.std.proofs.Math.ListN.{length-set}
use Rattle.std.proofs.Math.Seq.{map-set_same}
use Rattle.std.proofs.lemmas.Option.{slice_get_within, get_or_from_slice_get}
use Rattle.nv_index.specs.Attributes.{content_size, defined_attributes}
use Rattle.nv_index.specs.Handles.{are_handles, is_index_handle}
use Rattle.nv_index.specs.Table.{DefineGives, InsertGives, IsTable, are_apart, define_refusal, has_attributes, has_other_number, index_at, index_place, is_above, is_apart, is_before, is_counted, is_index, is_marked, is_numbered, is_other_write, is_write_before, unwritten, with_index, written_with}
use Rattle.nv_index.specs.declared.index.Index.{Index}
use Rattle.nv_index.specs.declared.index.NvPublic.{NvPublic}
use Rattle.nv_index.specs.declared.index.Written.{Written}
use Rattle.nv_index.specs.declared.refusal.DefineError.{DefineError}
use Rattle.nv_index.specs.declared.refusal.DefineError.TheVariants as failed
use Rattle.nv_index.specs.declared.refusal.NvRefusal.{NvRefusal}
use Rattle.nv_index.proofs.Handles.{AreHandles, handles_from_test, handles_remove, test_from_handles}
use Rattle.nv_index.proofs.Lists.{map-remove, passes_at, passes_remove, passes_set, passes_weaker}

handle_of : Index → ℕ
handle_of x = x.public.handle

-- an index that is put at its place

pub length_with : (y : Index) (xs : List Index) → length (with_index y xs) ≡ length xs + 1
length_with y [] = refl
length_with y (x ∷ xs) =
    cond_both (nat_lt y.public.handle x.public.handle) _ _ (λ (ys : List Index). length ys ≡ length (x ∷ xs) + 1) (λ _. omega arith)
    (λ _. let rest = length_with y xs in omega (arith, rest))

pub passes_with : (p : Index → Bool) (y : Index) (xs : List Index) → list_all p xs ≡ true → p y ≡ true → list_all p (with_index y xs) ≡ true
passes_with p y [] all h = and_from (p y) true h refl
passes_with p y (x ∷ xs) all h =
    let both = and_parts (p x) (list_all p xs) all in
    cond_both (nat_lt y.public.handle x.public.handle) _ _ (λ (ys : List Index). list_all p ys ≡ true)
    (λ _. and_from (p y) (list_all p (x ∷ xs)) h all)
    (λ _. and_from (p x) (list_all p (with_index y xs)) both.0 (passes_with p y xs both.1 h))

-- the handle isn't that of any index
IsFree : ℕ → List Index → Type 0
IsFree handle xs = is_some (index_at handle xs) ≡ false

one_more : (n : ℕ) → 1 + n ≡ suc n
one_more n = omega arith

-- where none is found, the first one isn't it
free_head : (handle : ℕ) (x : Index) (xs : List Index) → is_some (index_at handle (x ∷ xs)) ≡ false → ((x.public.handle == handle) ≡ false) × (is_some (index_at handle xs) ≡ false)
free_head handle x xs =
    elim (x.public.handle == handle) as (λ b. is_some (slice_get (x ∷ xs) (cond (not b) (1 + index_place handle xs) 0)) ≡ false → (b ≡ false) × (is_some (index_at handle xs) ≡ false)) [
      | true ↦ λ e. cc
      | false ↦ λ e. (refl, ap (λ n. is_some (slice_get (x ∷ xs) n)) (sym (one_more (index_place handle xs))) ∙ e)
    ]

handles_with : (first end : ℕ) (y : Index) (xs : List Index) → is_some (index_at y.public.handle xs) ≡ false → first ≤ y.public.handle → y.public.handle < end
    → AreHandles first end (map (λ (x : Index). x.public.handle) xs) → AreHandles first end (map (λ (x : Index). x.public.handle) (with_index y xs))
handles_with first end y [] free low high t = (low, high, tt)
handles_with first end y (x ∷ xs) free low high t =
    let other = free_head y.public.handle x xs free in
    cond_both (nat_lt y.public.handle x.public.handle) _ _ (λ (ys : List Index). AreHandles first end (map (λ (z : Index). z.public.handle) ys))
    (λ less. let below : y.public.handle < x.public.handle = ltb-true _ _ less in (low, high, (omega arith, t.1, t.2)))
    (λ more.
    let above : x.public.handle ≤ y.public.handle = ltb-false _ _ more in
    let ne : x.public.handle ≡ y.public.handle → ⊥ = eqb-false x.public.handle y.public.handle other.0 in
    (t.0, t.1, handles_with (x.public.handle + 1) end y xs other.1 (omega arith) high t.2))

apart_with : (y : Index) (xs : List Index) → y.written ≡ None → are_apart xs ≡ true → are_apart (with_index y xs) ≡ true
apart_with y [] e h = and_from (is_apart y.written []) true (ap (λ o. is_apart o []) e) refl
apart_with y (x ∷ xs) e h =
    let both = and_parts (is_apart x.written xs) (are_apart xs) h in
    cond_both (nat_lt y.public.handle x.public.handle) _ _ (λ (ys : List Index). are_apart ys ≡ true)
    (λ _. and_from (is_apart y.written (x ∷ xs)) (are_apart (x ∷ xs)) (ap (λ o. is_apart o (x ∷ xs)) e) h)
    (λ _. and_from (is_apart x.written (with_index y xs)) (are_apart (with_index y xs)) (one x.written both.0) (apart_with y xs e both.1))
  where
    one : (o : Option Written) → is_apart o xs ≡ true → is_apart o (with_index y xs) ≡ true
    one None h = refl
    one (Some w) h = passes_with (has_other_number w.number) y xs h (ap (is_other_write w.number) e)

-- the place at which it is put
pub inserted : (y : Index) (xs : List Index) → insert xs (position_or_len (is_above y.public.handle) xs) y ≡ with_index y xs
inserted y [] = refl
inserted y (x ∷ xs) =
    elim (nat_lt y.public.handle x.public.handle) as (λ b. insert (x ∷ xs) (cond (not b) (1 + position_or_len (is_above y.public.handle) xs) 0) y ≡ cond b (y ∷ x ∷ xs) (x ∷ with_index y xs)) [
      | true ↦ refl
      | false ↦ ap (λ n. insert (x ∷ xs) n y) (one_more (position_or_len (is_above y.public.handle) xs)) ∙ ap (λ zs. x ∷ zs) (inserted y xs)
    ]

pub above_within : (y : ℕ) (xs : List Index) → position_or_len (is_above y) xs ≤ length xs
above_within y [] = omega arith
above_within y (x ∷ xs) =
    cond_both (not (nat_lt y x.public.handle)) (1 + position_or_len (is_above y) xs) 0 (λ n. n ≤ length (x ∷ xs)) (λ _. let rest = above_within y xs in omega arith) (λ _. omega arith)

-- what no refusal says
peel : (b : Bool) (why : NvRefusal) (rest : Option NvRefusal) → cond b (Some why) rest ≡ None → (b ≡ false) × (rest ≡ None)
peel true why rest e = cc
peel false why rest e = (refl, e)

from_not : (b : Bool) → not b ≡ false → b ≡ true
from_not true e = refl
from_not false e = cc

or_left : (a b : Bool) → a ≡ true → cond a true b ≡ true
or_left true b e = refl
or_left false b e = cc

pub record IsDefinable (public : NvPublic) (xs : List Index) : Type 0 where
  pub handle : is_index_handle public.handle ≡ true
  pub attributes : public.attributes ≡ defined_attributes
  pub size : public.size ≡ content_size
  pub policy : length public.policy ≡ 32
  pub free : is_some (index_at public.handle xs) ≡ false
  pub room : length xs < 16

pub definable : (public : NvPublic) (xs : List Index) → define_refusal public xs ≡ None → IsDefinable public xs
definable public xs e =
    let a = peel _ _ _ e in
    let b = peel _ _ _ a.1 in
    let c = peel _ _ _ b.1 in
    let d = peel _ _ _ c.1 in
    let f = peel _ _ _ d.1 in
    let g = peel _ _ _ f.1 in
    record {
      handle = from_not _ a.0;
      attributes = eqb-true _ _ (from_not _ b.0);
      size = eqb-true _ _ (from_not _ c.0);
      policy = eqb-true _ _ (from_not _ d.0);
      free = f.0;
      room = leb-false _ _ g.0;
    }

-- a new index has the attributes of one, and no WRITTEN
pub new_attributes : (public : NvPublic) (xs : List Index) → IsDefinable public xs → has_attributes (unwritten public) ≡ true
new_attributes public xs d =
    rw (d.attributes, d.size) refl

pub new_mark : (public : NvPublic) (xs : List Index) → IsDefinable public xs → is_marked (unwritten public) ≡ true
new_mark public xs d = rw d.attributes refl

pub order_with : (public : NvPublic) (xs : List Index) → IsDefinable public xs → are_handles 0x01000000 0x02000000 (map (λ (x : Index). x.public.handle) xs) ≡ true
    → are_handles 0x01000000 0x02000000 (map (λ (x : Index). x.public.handle) (with_index (unwritten public) xs)) ≡ true
order_with public xs d h =
    let range = and_parts (nat_le 0x01000000 public.handle) (nat_le public.handle 0x01FFFFFF) d.handle in
    let low : 0x01000000 ≤ public.handle = leb-true _ _ range.0 in
    let high : public.handle ≤ 0x01FFFFFF = leb-true _ _ range.1 in
    test_from_handles 0x01000000 0x02000000 _
    (handles_with 0x01000000 0x02000000 (unwritten public) xs d.free low (omega arith) (handles_from_test 0x01000000 0x02000000 (map (λ (x : Index). x.public.handle) xs) h))

pub apart_unwritten : (public : NvPublic) (xs : List Index) → are_apart xs ≡ true → are_apart (with_index (unwritten public) xs) ≡ true
apart_unwritten public xs h = apart_with (unwritten public) xs refl h

pub table_with : (public : NvPublic) (xs : List Index) → define_refusal public xs ≡ None → IsTable xs → IsTable (with_index (unwritten public) xs)
table_with public xs e t =
    let d = definable public xs e in
    record {
      count = let n = length_with (unwritten public) xs in omega (arith, n, d.room);
      order = order_with public xs d t.order;
      attributes = passes_with has_attributes (unwritten public) xs t.attributes (new_attributes public xs d);
      marks = passes_with is_marked (unwritten public) xs t.marks (new_mark public xs d);
      numbers = passes_with is_numbered (unwritten public) xs t.numbers refl;
      apart = apart_unwritten public xs t.apart;
    }

-- an index that is taken away

apart_remove : (xs : List Index) (i : ℕ) → are_apart xs ≡ true → are_apart (remove xs i) ≡ true
apart_remove [] zero h = refl
apart_remove [] (suc i) h = refl
apart_remove (x ∷ xs) zero h = (and_parts (is_apart x.written xs) (are_apart xs) h).1
apart_remove (x ∷ xs) (suc i) h =
    let both = and_parts (is_apart x.written xs) (are_apart xs) h in
    and_from (is_apart x.written (remove xs i)) (are_apart (remove xs i)) (one x.written both.0) (apart_remove xs i both.1)
  where
    one : (o : Option Written) → is_apart o xs ≡ true → is_apart o (remove xs i) ≡ true
    one None h = refl
    one (Some w) h = passes_remove (has_other_number w.number) xs i h

pub order_remove : (xs : List Index) (i : ℕ) → are_handles 0x01000000 0x02000000 (map (λ (x : Index). x.public.handle) xs) ≡ true
    → are_handles 0x01000000 0x02000000 (map (λ (x : Index). x.public.handle) (remove xs i)) ≡ true
order_remove xs i h =
    subst (λ ns. are_handles 0x01000000 0x02000000 ns ≡ true) (sym (map-remove (λ (x : Index). x.public.handle) xs i))
    (handles_remove 0x01000000 0x02000000 (map (λ (x : Index). x.public.handle) xs) i h)

pub apart_without : (xs : List Index) (i : ℕ) → are_apart xs ≡ true → are_apart (remove xs i) ≡ true
apart_without xs i h = apart_remove xs i h

pub table_without : (xs : List Index) (i : ℕ) → i < length xs → IsTable xs → IsTable (remove xs i)
table_without xs i within t = record {
  count = let n = length-remove xs i within in omega (arith, n, t.count);
  order = order_remove xs i t.order;
  attributes = passes_remove has_attributes xs i t.attributes;
  marks = passes_remove is_marked xs i t.marks;
  numbers = passes_remove is_numbered xs i t.numbers;
  apart = apart_remove xs i t.apart;
}

-- an index that is written

-- numbers below another one aren't it
pub others_before : (number : ℕ) (xs : List Index) → list_all (is_before number) xs ≡ true → list_all (has_other_number number) xs ≡ true
others_before number xs h = passes_weaker (is_before number) (has_other_number number) (λ x. one x.written) xs h
  where
    differs : (a b : ℕ) (t : Bool) → (a == b) ≡ t → a < b → not t ≡ true
    differs a b true e less = let same : a ≡ b = eqb-true a b e in absurd (omega arith)
    differs a b false e less = refl

    one : (o : Option Written) → is_write_before number o ≡ true → is_other_write number o ≡ true
    one None e = refl
    one (Some w) e = differs w.number number (w.number == number) refl (ltb-true w.number number e)

other_way : (a b : ℕ) → b < a → not (a == b) ≡ true
other_way a b less = by_test (a == b) refl
  where
    by_test : (t : Bool) → (a == b) ≡ t → not t ≡ true
    by_test true e = let same : a ≡ b = eqb-true a b e in absurd (omega arith)
    by_test false e = refl

pub apart_set : (xs : List Index) (i : ℕ) (y : Index) (w : Written) → y.written ≡ Some w → list_all (is_before w.number) xs ≡ true → are_apart xs ≡ true → are_apart (set xs i y) ≡ true
apart_set [] zero y w e before h = refl
apart_set [] (suc i) y w e before h = refl
apart_set (x ∷ xs) zero y w e before h =
    and_from (is_apart y.written xs) (are_apart xs)
    (ap (λ o. is_apart o xs) e ∙ others_before w.number xs (and_parts (is_before w.number x) (list_all (is_before w.number) xs) before).1)
    (and_parts (is_apart x.written xs) (are_apart xs) h).1
apart_set (x ∷ xs) (suc i) y w e before h =
    let both = and_parts (is_apart x.written xs) (are_apart xs) h in
    let early = and_parts (is_before w.number x) (list_all (is_before w.number) xs) before in
    and_from (is_apart x.written (set xs i y)) (are_apart (set xs i y)) (one x.written both.0 early.0) (apart_set xs i y w e early.1 both.1)
  where
    one : (o : Option Written) → is_apart o xs ≡ true → is_write_before w.number o ≡ true → is_apart o (set xs i y) ≡ true
    one None h b = refl
    one (Some v) h b = passes_set (has_other_number v.number) xs i y h (ap (is_other_write v.number) e ∙ other_way w.number v.number (ltb-true v.number w.number b))

-- the size of an index with allowed attributes
size_kept : (x : Index) → has_attributes x ≡ true → (x.public.size == content_size) ≡ true
size_kept x h = (and_parts _ (x.public.size == content_size) h).1

pub written_attributes_kept : (value : List ℕ) (number : ℕ) (x : Index) → has_attributes x ≡ true → has_attributes (written_with value number x) ≡ true
written_attributes_kept value number x h = size_kept x h

pub order_set : (xs : List Index) (i : ℕ) (x y : Index) → slice_get xs i ≡ Some x → y.public.handle ≡ x.public.handle → are_handles 0x01000000 0x02000000 (map (λ (z : Index). z.public.handle) xs) ≡ true
    → are_handles 0x01000000 0x02000000 (map (λ (z : Index). z.public.handle) (set xs i y)) ≡ true
order_set xs i x y e same h =
    subst (λ ns. are_handles 0x01000000 0x02000000 ns ≡ true)
    (sym (map-set_same (λ (z : Index). z.public.handle) xs i y x (same ∙ ap (λ (z : Index). z.public.handle) (sym (get_or_from_slice_get xs i x x e))))) h

pub table_written : (xs : List Index) (i : ℕ) (x : Index) (value : List ℕ) (number : ℕ) → slice_get xs i ≡ Some x → 1 ≤ number → list_all (is_before number) xs ≡ true → IsTable xs
    → IsTable (set xs i (written_with value number x))
table_written xs i x value number e some before t =
    let y = written_with value number x in
    record {
      count = omega (arith, length-set xs i y, t.count);
      order = order_set xs i x y e refl t.order;
      attributes = passes_set has_attributes xs i y t.attributes (written_attributes_kept value number x (passes_at has_attributes xs i x t.attributes e));
      marks = passes_set is_marked xs i y t.marks refl;
      numbers = passes_set is_numbered xs i y t.numbers (le-leb 1 number some);
      apart = apart_set xs i y (record { number = number; value = value }) refl before t.apart;
    }

-- an index that is found stands in the table
pub found_within : (xs : List Index) (i : ℕ) → is_some (slice_get xs i) ≡ true → i < length xs
found_within xs i e = on (slice_get xs i) refl e
  where
    on : (o : Option Index) → slice_get xs i ≡ o → is_some o ≡ true → i < length xs
    on None e h = cc
    on (Some x) e h = slice_get_within xs i x e

-- a table that has one more, or is as before
pub table_after_insert : (result : Result (Unit {0}) DefineError) (public : NvPublic) (xs now : List Index) (place : ℕ) → place ≡ position_or_len (is_above public.handle) xs → define_refusal public xs ≡ None
    → InsertGives result xs (insert xs place (unwritten public)) now → IsTable xs → IsTable now
table_after_insert (Ok _) public xs now place at free e t =
    let same : now ≡ with_index (unwritten public) xs = e ∙ ap (λ n. insert xs n (unwritten public)) at ∙ inserted (unwritten public) xs in
    subst IsTable (sym same) (table_with public xs free t)
table_after_insert (Err failed.Memory) public xs now place at free e t = subst IsTable (sym e) t
table_after_insert (Err (failed.Refused why)) public xs now place at free e t = absurd e

-- and that is what a definition gives
pub definition_gives : (result : Result (Unit {0}) DefineError) (public : NvPublic) (xs now : List Index) (place : ℕ) → place ≡ position_or_len (is_above public.handle) xs → define_refusal public xs ≡ None
    → InsertGives result xs (insert xs place (unwritten public)) now → DefineGives (define_refusal public xs) result xs (with_index (unwritten public) xs) now
definition_gives result public xs now place at free e =
    subst (λ o. DefineGives o result xs (with_index (unwritten public) xs) now) (sym free)
    (subst (λ after. InsertGives result xs after now) (ap (λ n. insert xs n (unwritten public)) at ∙ inserted (unwritten public) xs) e)
