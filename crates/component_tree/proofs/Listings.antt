-- What stands directly below a path is what the map of files says.
use Rattle.std.proofs.Common.{◌≡◌, ℕ, Bool, true, false, ◌&&◌, ◌||◌, List, [], ◌∷◌, ◌++◌, map, Option, Some, None, refl, sym, ap, subst, ◌∙◌, T}
use Rattle.std.specs.Prelude.{nat_eq, is_some, Contains}
use Rattle.std.specs.Bool.{Decides}
use Rattle.std.specs.List.{starts_with, list_any, filter_map, cons_option, All, AllByRecursion}
use Rattle.std.specs.List.Sorted.{IsStrictlySortedBy}
use Rattle.std.specs.Str.{bytes_eq}
use Rattle.std.specs.declared.cmp.Ordering.{Ordering}
use Rattle.std.specs.declared.cmp.Ordering.TheVariants.{Less}
use Rattle.std.specs.Ordering.{nat_cmp, eq_by_cmp}
use Rattle.std.specs.Cmp.Lexicographic.{slice_cmp, nat_list_cmp_total, texts_ties}
use Rattle.std.specs.FinMap.{FinMap, keys, contains_key, contains_key-keys, entries, get, from_entries, get-from_entries, same_map, from_sorted, entries-from_sorted, slice_cmp-IsAntisymmetric, nat_cmp-IsAntisymmetric}
use Rattle.std.specs.FinMap.Entries.{is_sorted, below_all, is_some-find}
use Rattle.std.proofs.lemmas.Bool.{true≢false}
use Rattle.std.proofs.lemmas.Bool.Decides.{same_from_decides, Decides-by_or}
use Rattle.std.proofs.lemmas.List.Elements.{Decides-contains, All-contains, All-contains_itself, All-from_recursion, recursion_from_All}
use Rattle.std.proofs.lemmas.Slice.Eq.{bytes_eq-Decides}
use Rattle.pl_base.specs.declared.files.Entry.{Entry}
use Rattle.pl_base.specs.FileMap.{FileMap, slash, path_below, is_folder, is_below}
use Rattle.pl_base.specs.FileAnswers.{IsListing}
use Rattle.component_tree.specs.Listing.{name_below, names_below, in_order, as_entry, listing}
use Rattle.component_tree.proofs.Parts.{is_name, is_part, below_is, below_no_part}

abbrev text_cmp : List ℕ → List ℕ → Ordering
text_cmp = slice_cmp nat_cmp

-- ---- the names that the held paths give

either : {A : Type 0} (p q r : A → Bool) → ((x : A) → p x ≡ (q x || r x)) → (xs : List A) → list_any p xs ≡ (list_any q xs || list_any r xs)
either p q r each [] = refl
either p q r each (x ∷ xs) = rw (each x, either p q r each xs) (mixed (q x) (r x) (list_any q xs) (list_any r xs))
  where
    mixed : (a b c d : Bool) → ((a || b) || (c || d)) ≡ ((a || c) || (b || d))
    mixed true b c d = refl
    mixed false true true d = refl
    mixed false true false d = refl
    mixed false false c d = refl

any_name : (q path : List ℕ) (held : List (List ℕ)) → list_any (bytes_eq q) (filter_map (name_below path) held) ≡ list_any (λ h. is_name q (name_below path h)) held
any_name q path [] = refl
any_name q path (h ∷ held) =
    elim (name_below path h) as (λ o. list_any (bytes_eq q) (cons_option o (filter_map (name_below path) held)) ≡ (is_name q o || list_any (λ h. is_name q (name_below path h)) held)) [
      | None ↦ any_name q path held
      | Some n ↦ ap (λ b. bytes_eq q n || b) (any_name q path held)
    ]

same_any : {A : Type 0} (p q : A → Bool) → ((x : A) → p x ≡ q x) → (xs : List A) → list_any p xs ≡ list_any q xs
same_any p q each [] = refl
same_any p q each (x ∷ xs) = rw (each x, same_any p q each xs) refl

no_any : {A : Type 0} (p : A → Bool) → ((x : A) → p x ≡ false) → (xs : List A) → list_any p xs ≡ false
no_any p each [] = refl
no_any p each (x ∷ xs) = rw (each x, no_any p each xs) refl

by_bytes : (q : List ℕ) (xs : List (List ℕ)) → list_any (bytes_eq q) xs ≡ list_any (eq_by_cmp text_cmp q) xs
by_bytes q xs = same_any (bytes_eq q) (eq_by_cmp text_cmp q) (texts_ties q) xs

-- a name is below a path, by the map, exactly where a held path gives it
named_is_below : (files : FileMap) (path q : List ℕ) → list_any (bytes_eq q) (filter_map (name_below path) (keys files)) ≡ is_below files path q
named_is_below files path q =
    let gives = λ (h : List ℕ). is_name q (name_below path h) in
    let at = bytes_eq (path_below path q) in
    let on = λ (h : List ℕ). starts_with nat_eq h (path_below path q ++ slash ∷ []) in
    any_name q path (keys files) ∙ elim (is_part q) as (λ t. is_part q ≡ t → list_any gives (keys files) ≡ (t && (contains_key files (path_below path q) || is_folder files (path_below path q)))) [
      | true ↦ λ part. either gives at on (λ h. below_is path q h part) (keys files)
          ∙ ap (λ b. b || list_any on (keys files)) (by_bytes (path_below path q) (keys files) ∙ sym (contains_key-keys files (path_below path q)))
      | false ↦ λ part. no_any gives (λ h. below_no_part path q h part) (keys files)
    ] refl

abbrev marked : List (List ℕ) → List (List ℕ × Unit {0})
marked names = map (λ n. (n, tt)) names

marked_names : (names : List (List ℕ)) → map (λ e. e.0) (marked names) ≡ names
marked_names [] = refl
marked_names (n ∷ names) = ap (λ (ns : List (List ℕ)). n ∷ ns) (marked_names names)

in_order_contains : (q : List ℕ) (names : List (List ℕ)) → list_any (bytes_eq q) (in_order names) ≡ list_any (bytes_eq q) names
unfolding in_order
in_order_contains q names =
    by_bytes q (in_order names) ∙ sym (contains_key-keys (from_entries {R = text_cmp} (marked names)) q)
    ∙ ap is_some (get-from_entries nat_list_cmp_total (marked names) q) ∙ is_some-find text_cmp q (marked names)
    ∙ ap (list_any (eq_by_cmp text_cmp q)) (marked_names names) ∙ sym (by_bytes q names)

pub names_contain : (files : FileMap) (path q : List ℕ) → list_any (bytes_eq q) (names_below files path) ≡ is_below files path q
names_contain files path q = in_order_contains q (filter_map (name_below path) (keys files)) ∙ named_is_below files path q

-- ---- two lists in order with the same names are one

below_marked : (n : List ℕ) (names : List (List ℕ)) → AllByRecursion (λ m. text_cmp n m ≡ Less) names → below_all text_cmp n (marked names) ≡ true
below_marked n [] below = refl
below_marked n (m ∷ names) below = rw (below.0, below_marked n names below.1) refl

marked_sorted : (names : List (List ℕ)) → IsStrictlySortedBy text_cmp names → is_sorted text_cmp (marked names) ≡ true
unfolding IsStrictlySortedBy
marked_sorted [] sorted = refl
marked_sorted (n ∷ names) sorted = rw (below_marked n names sorted.0, marked_sorted names sorted.1) refl

alike : (x y : Option (Unit {0})) → is_some x ≡ is_some y → x ≡ y
alike None None e = refl
alike None (Some u) e = absurd (true≢false (sym e))
alike (Some u) None e = absurd (true≢false e)
alike (Some u) (Some v) e = refl

same_names : (names given : List (List ℕ)) → IsStrictlySortedBy text_cmp names → ((q : List ℕ) → list_any (bytes_eq q) names ≡ list_any (bytes_eq q) (in_order given)) → in_order given ≡ names
unfolding in_order
same_names names given sorted same =
    let set = from_entries {R = text_cmp} (marked given) in
    let of_names : FinMap text_cmp (Unit {0}) = from_sorted (marked names) in
    let held : entries of_names ≡ marked names = entries-from_sorted text_cmp (marked names) (subst T (sym (marked_sorted names sorted)) tt) in
    let named : keys of_names ≡ names = ap (λ (es : List (List ℕ × Unit {0})). map (λ e. e.0) es) held ∙ marked_names names in
    let alike_at : (q : List ℕ) → get set q ≡ get of_names q = λ q. alike (get set q) (get of_names q)
    (contains_key-keys set q ∙ sym (by_bytes q (keys set)) ∙ sym (same q) ∙ by_bytes q names ∙ ap (list_any (eq_by_cmp text_cmp q)) (sym named) ∙ sym (contains_key-keys of_names q)) in
    ap keys (same_map nat_list_cmp_total (slice_cmp-IsAntisymmetric nat_cmp-IsAntisymmetric) set of_names alike_at) ∙ named

-- ---- a listing is that of the map

any_Decides : (names : List (List ℕ)) (q : List ℕ) → Decides (list_any (bytes_eq q) names) (Contains names q)
any_Decides names q =
    let each : (y : List ℕ) → Decides (bytes_eq q y) (y ≡ q) = λ y. (λ e. sym ((bytes_eq-Decides q y).0 e), λ e. (bytes_eq-Decides q y).1 (sym e)) in
    Decides-contains names q (list_any (bytes_eq q) names) (Decides-by_or (bytes_eq q) (λ y. y ≡ q) (list_any (bytes_eq q)) each refl (λ _ _. refl) names)

module _ (files : FileMap) (path : List ℕ) (entries : List Entry) (is : IsListing files path entries) where
  each_below : (es : List Entry) → AllByRecursion (Contains entries) es → AllByRecursion (λ n. is_below files path n ≡ true) (map (λ e. e.name) es)
  each_below [] among = tt
  each_below (e ∷ es) among = ((is.each e among.0).0, each_below es among.1)

  each_again : (es : List Entry) → AllByRecursion (Contains entries) es → map (as_entry files path) (map (λ e. e.name) es) ≡ es
  each_again [] among = refl
  each_again (e ∷ es) among =
      let here : as_entry files path e.name ≡ e = ap (λ (folder : Bool). record { name = e.name; folder = folder }) (sym (is.each e among.0).1) in
      rw (here, each_again es among.1) refl

  among_all : AllByRecursion (Contains entries) entries
  among_all = recursion_from_All (Contains entries) entries (All-contains_itself entries)

  named_here : (q : List ℕ) → list_any (bytes_eq q) (map (λ e. e.name) entries) ≡ is_below files path q
  named_here q =
      let names = map (λ e. e.name) entries in
      let below : All (λ n. is_below files path n ≡ true) names = All-from_recursion (λ n. is_below files path n ≡ true) names (each_below entries among_all) in
      same_from_decides _ _ (any_Decides names q) (is.all q, λ c. All-contains (λ n. is_below files path n ≡ true) names q below c)

  pub listing_is : listing files path ≡ entries
  unfolding listing
  listing_is =
      let names = map (λ e. e.name) entries in
      let same = same_names names (filter_map (name_below path) (keys files)) is.sorted (λ q. named_here q ∙ sym (names_contain files path q)) in
      ap (λ (ns : List (List ℕ)). map (as_entry files path) ns) same ∙ each_again entries among_all
