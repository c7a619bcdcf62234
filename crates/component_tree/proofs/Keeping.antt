-- A file that is added within the limits keeps what every tree keeps.
use Rattle.std.proofs.Common.{◌≡◌, ℕ, suc, ◌+◌, ◌-◌, ◌≤◌, Bool, true, false, cond, eqb, ltb, List, [], ◌∷◌, ◌++◌, map, length, take, Option, Some, None, Result, Ok, Err, refl, sym, ap, subst, ◌∙◌, zero-add, arith}
use Rattle.std.specs.Prelude.{slice_get, sum_by, IfOk}
use Rattle.std.specs.Option.{MatchOption, option_or}
use Rattle.std.specs.Str.{bytes_eq}
use Rattle.std.specs.declared.cmp.Ordering.{Ordering}
use Rattle.std.specs.declared.cmp.Ordering.TheVariants.{Less, Equal, Greater}
use Rattle.std.specs.Ordering.{nat_cmp, is_lt, is_gt, is_eq}
use Rattle.std.specs.Cmp.{tied_itself}
use Rattle.std.specs.Cmp.Lexicographic.{slice_cmp, nat_list_cmp_total, texts_ties}
use Rattle.std.proofs.lemmas.Bool.{and_parts, ltb-false, eqb-false}
use Rattle.std.proofs.lemmas.List.{length-map, length-append, map_push}
use Rattle.std.proofs.lemmas.List.Sums.{sum_by-append}
use Rattle.std.proofs.lemmas.Slice.Eq.{bytes_eq-Decides}
use Rattle.cel_record.specs.declared.record.CelRecord.{CelRecord}
use Rattle.cel_record.specs.Spelled.{Spelled, spelled}
use Rattle.component_tree.specs.declared.error.TreeLimit.{TreeLimit}
use Rattle.component_tree.specs.declared.error.TreeLimit.TheVariants.{Components, Variants, Total}
use Rattle.component_tree.specs.declared.error.TreeError.{TreeError}
use Rattle.component_tree.specs.declared.place.Place.{Place}
use Rattle.component_tree.specs.declared.tree.Component.{Component}
use Rattle.component_tree.specs.Ascending.{ascend}
use Rattle.component_tree.specs.PlainTree.{PlainVariant, PlainComponent, plain, records_in_all}
use Rattle.component_tree.specs.Reading.{last_of, grown, added, added_to, variant_name, component_passes, variant_passes, passes, within, with_records}
use Rattle.component_tree.specs.Growth.{IsWithin, IsUpTo}
use Rattle.component_tree.specs.Step.{Answers}

abbrev text_cmp : List ℕ → List ℕ → Ordering
text_cmp = slice_cmp nat_cmp

abbrev id_of : PlainComponent → List ℕ
id_of c = c.id

abbrev ids : List PlainComponent → List (List ℕ)
ids cs = map id_of cs

abbrev weight : PlainComponent → ℕ
weight c = sum_by (λ v. length v.records) c.variants

-- ---- the last component

last_push : (front : List PlainComponent) (c : PlainComponent) → last_of (front ++ c ∷ []) ≡ Some c
last_push [] c = refl
last_push (d ∷ []) c = refl
last_push (d ∷ e ∷ front) c =
    let k : length (d ∷ e ∷ (front ++ c ∷ [])) - 1 ≡ suc (length (e ∷ (front ++ c ∷ [])) - 1) = omega arith in
    rw k (last_push (e ∷ front) c)

pub record Ends (cs : List PlainComponent) (c : PlainComponent) : Type 0 where
  front : List PlainComponent
  is : cs ≡ front ++ c ∷ []
  taken : take (length cs - 1) cs ≡ front

ends_with_last : (cs : List PlainComponent) (c : PlainComponent) → last_of cs ≡ Some c → Ends cs c
ends_with_last [] c e = absurd cc
ends_with_last (d ∷ []) c e = let same : d ≡ c = cc in record { front = []; is = ap (λ (x : PlainComponent). x ∷ []) same; taken = refl }
ends_with_last (d ∷ x ∷ cs) c e =
    let k : length (d ∷ x ∷ cs) - 1 ≡ suc (length (x ∷ cs) - 1) = omega arith in
    let more = ends_with_last (x ∷ cs) c (sym (ap (slice_get (d ∷ x ∷ cs)) k) ∙ e) in
    record { front = d ∷ more.front; is = ap (λ (xs : List PlainComponent). d ∷ xs) more.is; taken = ap (λ (n : ℕ). take n (d ∷ x ∷ cs)) k ∙ ap (λ (xs : List PlainComponent). d ∷ xs) more.taken }

none_last : (cs : List PlainComponent) → last_of cs ≡ None → cs ≡ []
none_last [] e = refl
none_last (d ∷ []) e = absurd cc
none_last (d ∷ x ∷ cs) e =
    let k : length (d ∷ x ∷ cs) - 1 ≡ suc (length (x ∷ cs) - 1) = omega arith in
    let none : x ∷ cs ≡ [] = none_last (x ∷ cs) (sym (ap (slice_get (d ∷ x ∷ cs)) k) ∙ e) in
    absurd cc

-- ---- names in order

ascend_push : (front : List (List ℕ)) (last id : List ℕ) → ascend (front ++ last ∷ []) ≡ true → is_lt (text_cmp last id) ≡ true → ascend ((front ++ last ∷ []) ++ id ∷ []) ≡ true
ascend_push [] last id h below = rw below refl
ascend_push (x ∷ []) last id h below = let p = and_parts (is_lt (text_cmp x last)) true h in rw (p.0, below) refl
ascend_push (x ∷ y ∷ front) last id h below =
    let p = and_parts (is_lt (text_cmp x y)) (ascend (y ∷ (front ++ last ∷ []))) h in
    rw (p.0, ascend_push (y ∷ front) last id p.1 below) refl

-- what isn't above and isn't the same is below
is_below : (r : Ordering) → is_gt r ≡ false → is_eq r ≡ false → is_lt r ≡ true
is_below Less up off = refl
is_below Equal up off = absurd cc
is_below Greater up off = absurd cc

below_other : (x y : List ℕ) → is_gt (text_cmp x y) ≡ false → bytes_eq x y ≡ false → is_lt (text_cmp x y) ≡ true
below_other x y up off = is_below (text_cmp x y) up (sym (texts_ties x y) ∙ off)

not_above_itself : (x : List ℕ) → is_gt (text_cmp x x) ≡ false
not_above_itself x = ap is_gt (tied_itself nat_list_cmp_total x)

-- ---- the limits

option_or_none : {A : Type 0} (o p : Option A) → option_or o p ≡ None → (o ≡ None) × (p ≡ None)
option_or_none None p e = (refl, e)
option_or_none (Some x) p e = absurd cc

cond_none : {A : Type 0} (b : Bool) (x : A) → cond b (Some x) None ≡ None → b ≡ false
cond_none true x e = absurd cc
cond_none false x e = refl

within_ok : (o : Option TreeLimit) (cs more : List PlainComponent) → within o cs ≡ Ok more → (o ≡ None) × (cs ≡ more)
within_ok None cs more e = (refl, cc)
within_ok (Some limit) cs more e = absurd cc

-- ---- one more component, or one more variant of the last

pub record Keeps (cs more : List PlainComponent) (id : List ℕ) (records : ℕ) : Type 0 where
  pub within : IsWithin more
  pub up_to : IsUpTo id more
  pub counted : records_in_all more ≡ records_in_all cs + records

up_to_push : (front : List PlainComponent) (c : PlainComponent) (id : List ℕ) → c.id ≡ id → IsUpTo id (front ++ c ∷ [])
up_to_push front c id same = rw (last_push front c) (ap (λ (x : List ℕ). is_gt (text_cmp x id)) same ∙ not_above_itself id)

all_push : (front : List PlainComponent) (c : PlainComponent) → records_in_all (front ++ c ∷ []) ≡ records_in_all front + weight c
all_push front c = sum_by-append weight front (c ∷ []) ∙ omega arith

new_one : (cs : List PlainComponent) (id : List ℕ) (v : PlainVariant) → IsWithin cs → ascend (ids cs ++ id ∷ []) ≡ true → component_passes cs ≡ None
    → records_in_all cs + length v.records ≤ 65536 → Keeps cs (cs ++ record { id = id; variants = v ∷ [] } ∷ []) id (length v.records)
new_one cs id v is order room few =
    let c : PlainComponent = record { id = id; variants = v ∷ [] } in
    let off : length cs ≡ 256 → ⊥ = eqb-false (length cs) 256 (cond_none (eqb (length cs) 256) Components room) in
    let count : records_in_all (cs ++ c ∷ []) ≡ records_in_all cs + length v.records = all_push cs c ∙ ap (λ (n : ℕ). records_in_all cs + n) (zero-add (length v.records)) in
    let bound : length cs ≤ 256 = is.few in
    record {
      within = record { few = omega (arith, length-append cs (c ∷ [])); ascending = rw (map_push id_of cs c) order; total = rw count few };
      up_to = up_to_push cs c id refl;
      counted = count;
    }

one_more_of : (front : List PlainComponent) (c : PlainComponent) (id : List ℕ) (v : PlainVariant) → IsWithin (front ++ c ∷ []) → c.id ≡ id
    → records_in_all (front ++ c ∷ []) + length v.records ≤ 65536
    → Keeps (front ++ c ∷ []) (front ++ record { id = c.id; variants = c.variants ++ v ∷ [] } ∷ []) id (length v.records)
one_more_of front c id v is same few =
    let grew : PlainComponent = record { id = c.id; variants = c.variants ++ v ∷ [] } in
    let heavier : weight grew ≡ weight c + length v.records = sum_by-append (λ (w : PlainVariant). length w.records) c.variants (v ∷ []) ∙ omega arith in
    let count : records_in_all (front ++ grew ∷ []) ≡ records_in_all (front ++ c ∷ []) + length v.records = omega (arith, all_push front grew, all_push front c) in
    let named : ids (front ++ grew ∷ []) ≡ ids (front ++ c ∷ []) = map_push id_of front grew ∙ sym (map_push id_of front c) in
    let bound : length (front ++ c ∷ []) ≤ 256 = is.few in
    record {
      within = record { few = omega (arith, length-append front (grew ∷ []), length-append front (c ∷ [])); ascending = rw named is.ascending; total = rw count few };
      up_to = up_to_push front grew id same;
      counted = count;
    }

-- one more variant, in the last component or in a new one
one_more : (cs : List PlainComponent) (id : List ℕ) (v : PlainVariant) → IsWithin cs → IsUpTo id cs → variant_passes (last_of cs) cs id ≡ None
    → records_in_all cs + length v.records ≤ 65536 → (o : Option PlainComponent) → last_of cs ≡ o → Keeps cs (added_to o cs id v) id (length v.records)
one_more cs id v is up room few None at =
    let nothing : cs ≡ [] = none_last cs at in
    let order : ascend (ids cs ++ id ∷ []) ≡ true = rw nothing refl in
    new_one cs id v is order (sym (ap (λ o. variant_passes o cs id) at) ∙ room) few
one_more cs id v is up room few (Some c) at =
    let ends = ends_with_last cs c at in
    let room_at : variant_passes (Some c) cs id ≡ None = sym (ap (λ o. variant_passes o cs id) at) ∙ room in
    let up_at : is_gt (text_cmp c.id id) ≡ false = subst (λ o. MatchOption o (Unit {0}) (λ d. is_gt (text_cmp d.id id) ≡ false)) at up in
    elim (bytes_eq c.id id) as (λ t. bytes_eq c.id id ≡ t → cond t (cond (eqb (length c.variants) 64) (Some Variants) None) (component_passes cs) ≡ None
    → Keeps cs (cond t (grown cs c v) (cs ++ record { id = id; variants = v ∷ [] } ∷ [])) id (length v.records)) [
      | true ↦ λ same _.
          let same_id : c.id ≡ id = (bytes_eq-Decides c.id id).0 same in
          let within_front : IsWithin (ends.front ++ c ∷ []) = subst IsWithin ends.is is in
          let few_front : records_in_all (ends.front ++ c ∷ []) + length v.records ≤ 65536 = subst (λ (xs : List PlainComponent). records_in_all xs + length v.records ≤ 65536) ends.is few in
          let kept = one_more_of ends.front c id v within_front same_id few_front in
          let more : List PlainComponent = ends.front ++ record { id = c.id; variants = c.variants ++ v ∷ [] } ∷ [] in
          let from_cs : Keeps cs more id (length v.records) = subst (λ (xs : List PlainComponent). Keeps xs more id (length v.records)) (sym ends.is) kept in
          subst (λ (xs : List PlainComponent). Keeps cs (xs ++ record { id = c.id; variants = c.variants ++ v ∷ [] } ∷ []) id (length v.records)) (sym ends.taken) from_cs
      | false ↦ λ other free.
          let named : ids cs ≡ ids ends.front ++ c.id ∷ [] = ap ids ends.is ∙ map_push id_of ends.front c in
          let order : ascend (ids cs ++ id ∷ []) ≡ true = ap (λ (xs : List (List ℕ)). ascend (xs ++ id ∷ [])) named
          ∙ ascend_push (ids ends.front) c.id id (sym (ap ascend named) ∙ is.ascending) (below_other c.id id up_at other) in
          new_one cs id v is order free few
    ] refl room_at

-- the records of a file that were added
pub added_keeps : (cs more : List PlainComponent) (place : Place) (rs : List Spelled) → IsWithin cs → IsUpTo place.id cs → with_records cs place rs ≡ Ok more
    → Keeps cs more place.id (length rs)
added_keeps cs more place rs is up e =
    let v : PlainVariant = record { name = variant_name place.file; records = rs } in
    let w = within_ok (passes cs place.id (length rs)) (added cs place.id v) more e in
    let p = option_or_none (variant_passes (last_of cs) cs place.id) (cond (ltb 65536 (records_in_all cs + length rs)) (Some Total) None) w.0 in
    let few : records_in_all cs + length rs ≤ 65536 = ltb-false 65536 (records_in_all cs + length rs) (cond_none (ltb 65536 (records_in_all cs + length rs)) Total p.1) in
    subst (λ (xs : List PlainComponent). Keeps cs xs place.id (length rs)) w.1 (one_more cs place.id v is up p.0 few (last_of cs) refl)

-- what `add_records` answers, as what is kept
pub record KeepsAfter (more : List PlainComponent) (id : List ℕ) (r : Result ℕ TreeError) : Type 0 where
  pub within : IfOk r (λ _. IsWithin more)
  pub up_to : IfOk r (λ _. IsUpTo id more)
  pub counted : IfOk r (λ n. n ≡ records_in_all more)

pub kept_after : (cs : List PlainComponent) (new : List Component) (place : Place) (rs : List CelRecord) (total : ℕ) (r : Result ℕ TreeError) → IsWithin cs → IsUpTo place.id cs
    → total ≡ records_in_all cs → Answers (λ _. plain new) r (with_records cs place (map spelled rs)) → IfOk r (λ n. n ≡ total + length rs) → KeepsAfter (plain new) place.id r
kept_after cs new place rs total (Ok n) is up counted given counts =
    let kept = added_keeps cs (plain new) place (map spelled rs) is up given in
    record {
      within = kept.within;
      up_to = kept.up_to;
      counted = omega (arith, kept.counted, length-map rs spelled);
    }
kept_after cs new place rs total (Err e) is up counted given counts = record { within = tt; up_to = tt; counted = tt }
