-- The entries of all names that the held paths tell of are what stands directly below the path.
use Rattle.std.proofs.Common.{◌≡◌, ℕ, ◌≢◌, zero, suc, ◌<◌, ◌≤◌, Bool, true, false, cond, ◌&&◌, ◌||◌, List, [], ◌∷◌, ◌++◌, length, map, nat_eq, refl, sym, ap, ◌∙◌, subst, arith}
use Rattle.std.specs.Prelude.{Option, None, Some, Contains, slice_index_or}
use Rattle.std.specs.List.{starts_with, list_any, slice_get, AllByRecursion}
use Rattle.std.specs.List.Sorted.{IsStrictlySortedBy}
use Rattle.std.specs.Str.{bytes_eq}
use Rattle.std.specs.Cmp.{Equal-is}
use Rattle.std.specs.Cmp.Lexicographic.{slice_cmp, nat_list_cmp_total}
use Rattle.std.specs.Ordering.{nat_cmp, eq_by_cmp}
use Rattle.std.specs.declared.cmp.Ordering.{Ordering}
use Rattle.std.specs.declared.cmp.Ordering.TheVariants.{Less, Equal, Greater}
use Rattle.std.specs.FinMap.{empty, entries, keys, contains_key, from_entries, contains_key-keys, entries-insert, len-empty, len-entries}
use Rattle.std.specs.FinMap.Entries.{put, by_order}
use Rattle.std.specs.BTreeMap as tree
use Rattle.std.specs.BTreeMap.{BTreeMap, get_by_text}
use Rattle.std.specs.String.{string_bytes, string_cmp, string_cmp_total}
use Rattle.std.specs.declared.alloc.Global.{Global}
use Rattle.std.specs.declared.string.String.{String}
use Rattle.std.specs.declared.vec.Vec.{Vec}
use Rattle.std.proofs.lemmas.List.{length-map}
use Rattle.std.proofs.lemmas.Map.Entries.{btree_map_get_place, place_from_lookup}
use Rattle.std.proofs.lemmas.Map.Lookups.{exact_bytes}
use Rattle.std.proofs.lemmas.Map.Text.{is_eq-slice_cmp}
use Rattle.pl_base.specs.FileMap.{slash, path_below, is_folder, is_below}
use Rattle.pl_base.specs.FileAnswers.{IsListing}
use Rattle.pl_base.specs.Listing.{told_of, told_by_all, is_part, joined, entries_of}
use Rattle.pl_base.specs.MemoryFiles.{files_of}
use Rattle.pl_base.specs.declared.files.Entry.{Entry}

or_twice : (a b : Bool) → (a || b) ≡ (a || (a || b))
or_twice true b = refl
or_twice false b = refl

or_swap : (a b c : Bool) → (a || (b || c)) ≡ (b || (a || c))
or_swap true true c = refl
or_swap true false c = refl
or_swap false b c = refl

placed : (test : List ℕ → Bool) (path bytes : List ℕ) (e : List ℕ × List ℕ) (es more : List (List ℕ × List ℕ)) → list_any test (map (λ e. e.0) more) ≡ (test path || list_any test (map (λ e. e.0) es)) → (order : Ordering) → slice_cmp nat_cmp path e.0 ≡ order → list_any test (map (λ e. e.0) (by_order order ((path, bytes) ∷ e ∷ es) ((e.0, bytes) ∷ es) (e ∷ more))) ≡ (test path || (test e.0 || list_any test (map (λ e. e.0) es)))
placed test path bytes e es more rest Less is = refl
placed test path bytes e es more rest Equal is = or_twice (test e.0) _ ∙ ap (λ p. test p || (test e.0 || list_any test (map (λ e. e.0) es))) (sym (exact_bytes path e.0 is))
placed test path bytes e es more rest Greater is = ap (λ b. test e.0 || b) rest ∙ or_swap (test e.0) (test path) _

-- a test of the keys, once an entry is put in its place
any-put : (test : List ℕ → Bool) (path bytes : List ℕ) (es : List (List ℕ × List ℕ)) → list_any test (map (λ e. e.0) (put (slice_cmp nat_cmp) path bytes es)) ≡ (test path || list_any test (map (λ e. e.0) es))
any-put test path bytes [] = refl
any-put test path bytes (e ∷ es) = placed test path bytes e es (put (slice_cmp nat_cmp) path bytes es) (any-put test path bytes es) (slice_cmp nat_cmp path e.0) refl

no_entries : {A : Type 0} (es : List A) → length es ≡ 0 → es ≡ []
no_entries [] e = refl
no_entries (x ∷ es) e = absurd (omega arith)

-- a test of the keys of the map that entries make
any-keys : (test : List ℕ → Bool) (es : List (List ℕ × List ℕ)) → list_any test (keys (from_entries {R = slice_cmp nat_cmp} es)) ≡ list_any test (map (λ e. e.0) es)
any-keys test [] = ap (λ es. list_any test (map (λ e. e.0) es)) (no_entries (entries (empty {X = List ℕ} {R = slice_cmp nat_cmp})) (sym (len-entries (empty {X = List ℕ} {R = slice_cmp nat_cmp})) ∙ len-empty (slice_cmp nat_cmp) (List ℕ)))
any-keys test (e ∷ es) =
    ap (λ es. list_any test (map (λ e. e.0) es)) (entries-insert nat_list_cmp_total (from_entries es) e.0 e.1)
    ∙ any-put test e.0 e.1 (entries (from_entries es))
    ∙ ap (λ b. test e.0 || b) (any-keys test es)

-- the paths that are held
abbrev paths_of : List (String Global × Vec ℕ Global) → List (List ℕ)
paths_of files = map (λ e. string_bytes e.0) files

same_paths : (files : List (String Global × Vec ℕ Global)) → map (λ (p : List ℕ × List ℕ). p.0) (map (λ (e : String Global × Vec ℕ Global). (string_bytes e.0, e.1.items)) files) ≡ paths_of files
same_paths [] = refl
same_paths (e ∷ files) = ap (λ paths. string_bytes e.0 ∷ paths) (same_paths files)

any-paths : (test : List ℕ → Bool) (files : List (String Global × Vec ℕ Global)) → list_any test (keys (files_of files)) ≡ list_any test (paths_of files)
any-paths test files = any-keys test _ ∙ ap (list_any test) (same_paths files)

same_test : (test other : List ℕ → Bool) → ((x : List ℕ) → test x ≡ other x) → (xs : List (List ℕ)) → list_any test xs ≡ list_any other xs
same_test test other same [] = refl
same_test test other same (x ∷ xs) = rw (same x, same_test test other same xs) refl

-- what is told of a name, by three tests
abbrev told_by : Bool → Bool → Bool → Option Bool
told_by part folder file = cond part (cond folder (Some true) (cond file (Some false) None)) None

told_none : (part : Bool) → None ≡ told_by part false false
told_none true = refl
told_none false = refl

told_more : (part a b c d : Bool) → joined (told_by part a b) (told_by part c d) ≡ told_by part (a || c) (b || d)
told_more false a b c d = refl
told_more true true b true d = refl
told_more true true b false true = refl
told_more true true b false false = refl
told_more true false true true d = refl
told_more true false true false true = refl
told_more true false true false false = refl
told_more true false false c d = refl

told-paths : (path name : List ℕ) (files : List (String Global × Vec ℕ Global)) → told_by_all path name (map (λ e. e.0) files) ≡ told_by (is_part name) (list_any (λ held. starts_with nat_eq held (path_below path name ++ slash ∷ [])) (paths_of files)) (list_any (bytes_eq (path_below path name)) (paths_of files))
unfolding told_of
told-paths path name [] = told_none (is_part name)
told-paths path name (e ∷ files) = rw (told-paths path name files) (told_more (is_part name) _ _ _ _)

-- what all held paths tell is what the map says
told-files : (path name : List ℕ) (files : List (String Global × Vec ℕ Global)) → told_by_all path name (map (λ e. e.0) files) ≡ told_by (is_part name) (is_folder (files_of files) (path_below path name)) (contains_key (files_of files) (path_below path name))
told-files path name files =
    let below = path_below path name in
    let folder : list_any (λ held. starts_with nat_eq held (below ++ slash ∷ [])) (paths_of files) ≡ is_folder (files_of files) below = sym (any-paths _ files) in
    let file : list_any (bytes_eq below) (paths_of files) ≡ contains_key (files_of files) below =
    same_test (bytes_eq below) (eq_by_cmp (slice_cmp nat_cmp) below) (λ x. sym (is_eq-slice_cmp below x)) (paths_of files) ∙ sym (any-paths (eq_by_cmp (slice_cmp nat_cmp) below) files) ∙ sym (contains_key-keys (files_of files) below) in
    told-paths path name files ∙ ap (λ b. told_by (is_part name) b (list_any (bytes_eq below) (paths_of files))) folder ∙ ap (λ b. told_by (is_part name) (is_folder (files_of files) below) b) file

-- from what is told to the tests, and back
reads : (part folder file kind : Bool) → told_by part folder file ≡ Some kind → ((part && (file || folder)) ≡ true) × (kind ≡ folder)
reads true true true kind e = (refl, cc)
reads true true false kind e = (refl, cc)
reads true false true kind e = (refl, cc)
reads true false false kind e = absurd (cc)
reads false folder file kind e = absurd (cc)

finds : (part folder file : Bool) → (part && (file || folder)) ≡ true → (kind : Bool) × (told_by part folder file ≡ Some kind)
finds true true file e = (true, refl)
finds true false true e = (false, refl)
finds true false false e = absurd (cc)
finds false folder file e = absurd (cc)

abbrev entry_of : String Global × Bool → Entry
entry_of e = record { name = string_bytes e.0; folder = e.1 }

-- an entry is that of a name
place_of : (names : List (String Global × Bool)) (entry : Entry) (k : ℕ) → k < length (entries_of names) → slice_index_or (entries_of names) k entry ≡ entry → (i : ℕ) × (e : String Global × Bool) × (slice_get names i ≡ Some e) × (entry_of e ≡ entry)
place_of [] entry k less is = absurd (omega arith)
place_of (e ∷ names) entry zero less is = (0, e, refl, is)
place_of (e ∷ names) entry (suc k) less is = let rest = place_of names entry k (omega arith) is in (suc rest.0, rest.1, rest.2, rest.3)

-- a name is that of an entry
contains_name : (names : List (String Global × Bool)) (i : ℕ) (e : String Global × Bool) (name : List ℕ) → slice_get names i ≡ Some e → string_bytes e.0 ≡ name → Contains (map (λ entry. entry.name) (entries_of names)) name
contains_name [] i e name place is = absurd (cc)
contains_name (x ∷ names) zero e name place is = let same : x ≡ e = cc in (0, omega arith, ap (λ (p : String Global × Bool). string_bytes p.0) same ∙ is)
contains_name (x ∷ names) (suc i) e name place is = let rest = contains_name names i e name place is in (suc rest.0, omega (arith, rest.1), rest.2)

all_above : (key : String Global) (names : List (String Global × Bool)) → AllByRecursion (λ y. string_cmp key y ≡ Less) (map (λ e. e.0) names) → AllByRecursion (λ y. slice_cmp nat_cmp (string_bytes key) y ≡ Less) (map (λ entry. entry.name) (entries_of names))
all_above key [] h = tt
all_above key (e ∷ names) h = (h.0, all_above key names h.1)

sorted_names : (names : List (String Global × Bool)) → IsStrictlySortedBy string_cmp (map (λ e. e.0) names) → IsStrictlySortedBy (slice_cmp nat_cmp) (map (λ entry. entry.name) (entries_of names))
unfolding IsStrictlySortedBy
sorted_names [] h = tt
sorted_names (e ∷ names) h = (all_above e.0 names h.0, sorted_names names h.1)

-- the entries of the names that all held paths tell of are the listing
pub is_listing : (files : BTreeMap (String Global) (Vec ℕ Global)) (path : List ℕ) (names : BTreeMap (String Global) Bool) → tree.IsOrdered string_cmp names → ((name : List ℕ) → get_by_text names name ≡ told_by_all path name (tree.keys files)) → IsListing (files_of files.entries) path (entries_of names.entries)
is_listing files path names ordered told = record {
  sorted = sorted_names names.entries ordered;
  each = λ entry h.
      let found = place_of names.entries entry h.0 h.1 h.2 in
      let name = string_bytes found.1.0 in
      let value : get_by_text names name ≡ Some found.1.1 = btree_map_get_place string_cmp_total names found.0 found.1.0 found.1.1 ordered found.2 in
      let P : Entry → Type 0 = λ entry. (is_below (files_of files.entries) path entry.name ≡ true) × (entry.folder ≡ is_folder (files_of files.entries) (path_below path entry.name)) in
      subst P found.3 (reads (is_part name) _ _ found.1.1 (sym (told-files path name files.entries) ∙ sym (told name) ∙ value));
  all = λ name h.
      let kind = finds (is_part name) (is_folder (files_of files.entries) (path_below path name)) (contains_key (files_of files.entries) (path_below path name)) h in
      let place = place_from_lookup _ names.entries kind.0 (told name ∙ told-files path name files.entries ∙ kind.1) in
      contains_name names.entries place.0 (place.1, kind.0) name place.2 (sym (exact_bytes name (string_bytes place.1) ((Equal-is _).0 place.3)));
}

module _ (files : BTreeMap (String Global) (Vec ℕ Global)) (path : List ℕ) (names : BTreeMap (String Global) Bool) (ordered : tree.IsOrdered string_cmp names) (told : (name : List ℕ) → get_by_text names name ≡ told_by_all path name (tree.keys files)) where
  -- no names
  pub none_listed : length names.entries ≡ 0 → IsListing (files_of files.entries) path []
  none_listed none = subst (λ es. IsListing (files_of files.entries) path (entries_of es)) (no_entries names.entries none) (is_listing files path names ordered told)

  -- too many names
  pub many_listed : (limit : ℕ) → limit < length names.entries → (listed : List Entry) × IsListing (files_of files.entries) path listed × (limit < length listed)
  many_listed limit more = (entries_of names.entries, is_listing files path names ordered told, rw length-map more)

  -- the entries of all names
  pub all_listed : (limit : ℕ) (listed : List Entry) → listed ≡ entries_of names.entries → length names.entries ≤ limit → length names.entries ≢ 0 → IsListing (files_of files.entries) path listed × (length listed ≤ limit) × (0 < length listed)
  all_listed limit listed is most some =
      let long : length listed ≡ length names.entries = ap length is ∙ length-map names.entries entry_of in
      (subst (λ es. IsListing (files_of files.entries) path es) (sym is) (is_listing files path names ordered told), omega arith, omega arith)
