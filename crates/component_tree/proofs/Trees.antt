-- The places that are left, in order, and what a tree keeps.
use Rattle.std.proofs.Common.{◌≡◌, ℕ, ◌≤◌, false, List, [], ◌∷◌, map, length, Option, Some, None, Result, Ok, refl, sym, ap, ◌∙◌, arith}
use Rattle.std.specs.Prelude.{sum_by, IsTrue}
use Rattle.std.specs.Option.{MatchOption, option_cmp}
use Rattle.std.specs.List.{AllByRecursion}
use Rattle.std.specs.List.Sorted.{IsStrictlySortedBy}
use Rattle.std.specs.Map.{keys_of}
use Rattle.std.specs.declared.cmp.Ordering.{Ordering}
use Rattle.std.specs.declared.cmp.Ordering.TheVariants.{Less, Equal, Greater}
use Rattle.std.specs.Ordering.{nat_cmp, is_gt, ordering_then}
use Rattle.std.specs.Cmp.{upto}
use Rattle.std.specs.Cmp.Lexicographic.{slice_cmp, nat_list_cmp_total}
use Rattle.std.proofs.lemmas.List.{length-map}
use Rattle.std.proofs.lemmas.List.Sums.{sum_by-cons}
use Rattle.pl_base.specs.FileMap.{FileMap}
use Rattle.cel_record.specs.Spelled.{Spelled, spelled}
use Rattle.component_tree.specs.declared.error.TreeError.{TreeError}
use Rattle.component_tree.specs.declared.place.Place.{Place}
use Rattle.component_tree.specs.declared.tree.Variant.{Variant}
use Rattle.component_tree.specs.declared.tree.Component.{Component}
use Rattle.component_tree.specs.Ascending.{ascend}
use Rattle.component_tree.specs.Growth.{IsWithin, IsUpTo}
use Rattle.component_tree.specs.Places.{place_cmp}
use Rattle.component_tree.specs.PlainTree.{PlainComponent, plain, plain_component, plain_variant, records_in_all}
use Rattle.component_tree.specs.Reading.{last_of, records_at, with_found, with_file, loaded}
use Rattle.component_tree.specs.Step.{◌>>=◌}
use Rattle.component_tree.specs.Taken.{Taken}

abbrev text_cmp : List ℕ → List ℕ → Ordering
text_cmp = slice_cmp nat_cmp

-- ---- the places that are left

first_less : (r s : Ordering) → ordering_then r s ≡ Less → is_gt r ≡ false
first_less Less s e = refl
first_less Equal s e = refl
first_less Greater s e = absurd cc

later_id : (p q : Place) → place_cmp p q ≡ Less → is_gt (text_cmp p.id q.id) ≡ false
later_id p q e = first_less (text_cmp p.id q.id) (option_cmp text_cmp p.file q.file) e

not_above : (x y z : List ℕ) → is_gt (text_cmp x y) ≡ false → is_gt (text_cmp y z) ≡ false → is_gt (text_cmp x z) ≡ false
not_above x y z e f = upto nat_list_cmp_total x y z e f

up_to_later : (id other : List ℕ) (cs : List PlainComponent) → is_gt (text_cmp id other) ≡ false → IsUpTo id cs → IsUpTo other cs
up_to_later id other cs later up =
    elim (last_of cs) as (λ o. MatchOption o (Unit {0}) (λ c. is_gt (text_cmp c.id id) ≡ false) → MatchOption o (Unit {0}) (λ c. is_gt (text_cmp c.id other) ≡ false)) [
      | None ↦ λ _. tt
      | Some c ↦ λ below. not_above c.id id other below later
    ] up

pub up_to_rest : (p : Place) (cs : List PlainComponent) (rest : Taken) → IsUpTo p.id cs → AllByRecursion (λ q. place_cmp p q ≡ Less) (keys_of rest) → AllByRecursion (λ e. IsUpTo e.0.id cs) rest
up_to_rest p cs [] up below = tt
up_to_rest p cs (e ∷ rest) up below = (up_to_later p.id e.0.id cs (later_id p e.0 below.0) up, up_to_rest p cs rest up below.1)

pub sorted_rest : (p : Place) (ps : List Place) → IsStrictlySortedBy place_cmp (p ∷ ps) → AllByRecursion (λ q. place_cmp p q ≡ Less) ps × IsStrictlySortedBy place_cmp ps
unfolding IsStrictlySortedBy
sorted_rest p ps sorted = sorted

pub loaded_rest : (files : FileMap) (cs more : List PlainComponent) (place : Place) (path : List ℕ) (rest : Taken) (all : Result (List PlainComponent) TreeError)
    → loaded files cs ((place, path) ∷ rest) ≡ all → with_file files cs place path ≡ Ok more → loaded files more rest ≡ all
loaded_rest files cs more place path rest all so_far file =
    sym (ap (λ (r : Result (List PlainComponent) TreeError). r >>= λ m. loaded files m rest) file) ∙ so_far

-- a file whose records were found and added
pub with_file_found : (files : FileMap) (cs more : List PlainComponent) (place : Place) (path : List ℕ) (found : Option (List Spelled))
    → records_at files path ≡ Ok found → with_found cs place found ≡ Ok more → with_file files cs place path ≡ Ok more
with_file_found files cs more place path found read added =
    ap (λ (r : Result (Option (List Spelled)) TreeError). r >>= λ f. with_found cs place f) read ∙ added

-- ---- what a tree keeps

ids_plain : (cs : List Component) → map (λ c. c.id) (plain cs) ≡ map (λ c. c.id) cs
ids_plain [] = refl
ids_plain (c ∷ cs) = ap (λ (ids : List (List ℕ)). c.id ∷ ids) (ids_plain cs)

pub tree_few : (cs : List Component) → IsWithin (plain cs) → length cs ≤ 256
tree_few cs is = omega (arith, is.few, length-map cs plain_component)

pub tree_ascends : (cs : List Component) → IsWithin (plain cs) → IsTrue (ascend (map (λ c. c.id) cs))
tree_ascends cs is = ap ascend (sym (ids_plain cs)) ∙ is.ascending

sum_by_view : {X Y : Type 0} (f : Y → ℕ) (h : X → ℕ) (g : X → Y) → ((x : X) → f (g x) ≡ h x) → (xs : List X) → sum_by f (map g xs) ≡ sum_by h xs
sum_by_view f h g same [] = refl
sum_by_view f h g same (x ∷ xs) = omega (arith, sum_by-cons f (g x) (map g xs), sum_by-cons h x xs, same x, sum_by_view f h g same xs)

pub tree_total : (cs : List Component) → IsWithin (plain cs) → sum_by (λ c. sum_by (λ v. length v.records) c.variants) cs ≤ 65536
tree_total cs is =
    let in_variant : (v : Variant) → length (plain_variant v).records ≡ length v.records = λ v. length-map v.records spelled in
    let in_component : (c : Component) → sum_by (λ v. length v.records) (plain_component c).variants ≡ sum_by (λ (v : Variant). length v.records) c.variants =
    λ c. sum_by_view (λ v. length v.records) (λ (v : Variant). length v.records) plain_variant in_variant c.variants in
    let whole : records_in_all (plain cs) ≡ sum_by (λ (c : Component). sum_by (λ (v : Variant). length v.records) c.variants) cs =
    sum_by_view (λ c. sum_by (λ v. length v.records) c.variants) (λ (c : Component). sum_by (λ (v : Variant). length v.records) c.variants) plain_component in_component cs in
    rw (← whole) is.total
