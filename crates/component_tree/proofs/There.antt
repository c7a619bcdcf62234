-- Over files that tell their map, each file that the walk takes is there at the path that it is taken from.
use Rattle.std.proofs.Common.{◌≡◌, ℕ, Bool, true, false, cond, not, ◌&&◌, ◌||◌, List, [], ◌∷◌, ◌++◌, length, Option, Some, None, Ok, refl, sym, ap, ◌∙◌}
use Rattle.std.specs.Prelude.{nat_eq}
use Rattle.std.specs.FinMap.{contains_key}
use Rattle.std.specs.List.{AllByRecursion, list_any}
use Rattle.std.specs.List.Sorted.{IsStrictlySortedBy}
use Rattle.std.specs.Map.{keys_of}
use Rattle.std.specs.declared.cmp.Ordering.{Ordering}
use Rattle.std.specs.declared.cmp.Ordering.TheVariants.{Less}
use Rattle.std.specs.Ordering.{is_eq, ordering_reverse}
use Rattle.std.specs.Cmp.{IsTotalOrder, tied_itself}
use Rattle.std.proofs.lemmas.Bool.{and_parts, true≢false}
use Rattle.pl_base.specs.FileMap.{FileMap, slash, path_below, is_folder}
use Rattle.component_tree.specs.declared.place.Place.{Place}
use Rattle.component_tree.specs.Names.{file_ending, folder_ending}
use Rattle.component_tree.specs.Places.{place_cmp, place_total}
use Rattle.component_tree.specs.Selection.{file_in, folder_in, is_there, path_of, chosen}
use Rattle.component_tree.specs.Taken.{Taken, AreThere, taken_in}
use Rattle.component_tree.proofs.Selecting.{found, folders_give}
use Rattle.component_tree.proofs.Trees.{sorted_rest}

-- ---- a file that is found in its place

apart : (p q : Place) → place_cmp p q ≡ Less → is_eq (place_cmp q p) ≡ false
apart p q below = ap is_eq (IsTotalOrder.antisymm place_total q p ∙ ap ordering_reverse below)

found_behind : (e : Place × List ℕ) (whole es : Taken) → AllByRecursion (λ q. place_cmp e.0 q ≡ Less) (keys_of es) → AllByRecursion (λ d. found d.0 whole ≡ Some d.1) es
    → AllByRecursion (λ d. found d.0 (e ∷ whole) ≡ Some d.1) es
found_behind e whole [] below own = tt
found_behind e whole (d ∷ es) below own =
    (ap (λ (b : Bool). cond b (Some e.1) (found d.0 whole)) (apart e.0 d.0 below.0) ∙ own.0, found_behind e whole es below.1 own.1)

-- each of the files is found in its place
found_own : (es : Taken) → IsStrictlySortedBy place_cmp (keys_of es) → AllByRecursion (λ e. found e.0 es ≡ Some e.1) es
found_own [] sorted = tt
found_own (e ∷ es) sorted =
    let s = sorted_rest e.0 (keys_of es) sorted in
    (ap (λ (o : Ordering). cond (is_eq o) (Some e.1) (found e.0 es)) (tied_itself place_total e.0), found_behind e es es s.0 (found_own es s.1))

-- ---- a file that a folder has

held_file : (a b c d : Bool) → ((a && b && (c || d)) && not d) ≡ true → c ≡ true
held_file true true true d e = refl
held_file true true false true e = absurd (true≢false (sym e))
held_file true true false false e = absurd (true≢false (sym e))
held_file true false c d e = absurd (true≢false (sym e))
held_file false b c d e = absurd (true≢false (sym e))

file_there : (files : FileMap) (folder name : List ℕ) → file_in files folder name ≡ true → contains_key files (path_below folder name) ≡ true
file_there files folder name e = held_file (not (nat_eq (length name) 0)) (not (list_any (nat_eq slash) name)) (contains_key files (path_below folder name)) (is_folder files (path_below folder name)) e

place_there : (files : FileMap) (folder id : List ℕ) (file : Option (List ℕ)) → is_there files folder id file ≡ true → contains_key files (path_of folder id file) ≡ true
place_there files folder id None e = file_there files folder (id ++ file_ending) e
place_there files folder id (Some file) e =
    let path = path_below folder (id ++ folder_ending) in
    let inside = and_parts (folder_in files folder (id ++ folder_ending)) _ e in
    file_there files path file (and_parts (file_in files path file) _ inside.1).0

chosen_there : (files : FileMap) (folders : List (List ℕ)) (place : Place) (path : List ℕ) → chosen files folders place ≡ Some path → contains_key files path ≡ true
chosen_there files [] place path e = absurd cc
chosen_there files (folder ∷ folders) place path e =
    elim (is_there files folder place.id place.file) as (λ b. is_there files folder place.id place.file ≡ b → cond b (Some (path_of folder place.id place.file)) (chosen files folders place) ≡ Some path → contains_key files path ≡ true) [
      | true ↦ λ there same.
          let is : path_of folder place.id place.file ≡ path = cc in
          sym (ap (contains_key files) is) ∙ place_there files folder place.id place.file there
      | false ↦ λ _ later. chosen_there files folders place path later
    ] refl e

-- ---- all of them

each_there : (files : FileMap) (folders : List (List ℕ)) (taken es : Taken) → taken_in files folders ≡ Ok taken → AllByRecursion (λ e. found e.0 taken ≡ Some e.1) es → AreThere files es
each_there files folders taken [] took own = tt
each_there files folders taken (e ∷ es) took own =
    (chosen_there files folders e.0 e.1 (sym (folders_give files e.0 folders [] taken took) ∙ own.0), each_there files folders taken es took own.1)

pub all_there : (files : FileMap) (folders : List (List ℕ)) (taken : Taken) → IsStrictlySortedBy place_cmp (keys_of taken) → taken_in files folders ≡ Ok taken → AreThere files taken
all_there files folders taken sorted took = each_there files folders taken taken took (found_own taken sorted)
