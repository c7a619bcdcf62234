-- The walk over the folders takes exactly the files that the map of paths says.
use Rattle.std.proofs.Common.{◌≡◌, ℕ, ◌-◌, Bool, true, false, cond, not, ◌&&◌, ◌||◌, ltb, List, [], ◌∷◌, ◌++◌, map, length, take, drop, Option, Some, None, Result, Ok, Err, refl, sym, ap, ◌∙◌, arith}
use Rattle.std.specs.Prelude.{is_some, IfOk}
use Rattle.std.specs.Bool.{Decides}
use Rattle.std.specs.Option.{option_or}
use Rattle.std.specs.List.{list_any}
use Rattle.std.specs.Str.{bytes_eq}
use Rattle.std.specs.declared.cmp.Ordering.{Ordering}
use Rattle.std.specs.declared.cmp.Ordering.TheVariants.{Less, Equal, Greater}
use Rattle.std.specs.Ordering.{nat_cmp, is_eq, eq_by_cmp, ordering_then, match_ordering}
use Rattle.std.specs.Cmp.Lexicographic.{slice_cmp, texts_ties}
use Rattle.std.specs.BTreeMap.{is_at, insert_entry}
use Rattle.std.specs.List.Sorted.{IsStrictlySortedBy}
use Rattle.std.specs.Map.{lookup, keys_of}
use Rattle.std.specs.FinMap.Entries.{find, put, find-put, find_tied, by_order}
use Rattle.std.proofs.lemmas.Bool.{true≢false}
use Rattle.std.proofs.lemmas.Bool.Decides.{same_from_decides}
use Rattle.std.proofs.lemmas.List.{take-append-drop, length-append, take_at, drop_at}
use Rattle.std.proofs.lemmas.Slice.Eq.{bytes_eq-Decides}
use Rattle.pl_base.specs.declared.files.Entry.{Entry}
use Rattle.pl_base.specs.FileMap.{FileMap, path_below, is_below, is_folder}
use Rattle.component_tree.specs.declared.error.TreeLimit.TheVariants.{Entries}
use Rattle.component_tree.specs.declared.error.TreeError.{TreeError}
use Rattle.component_tree.specs.declared.error.TreeError.TheVariants.{BadName, TooMany}
use Rattle.component_tree.specs.declared.place.Place.{Place}
use Rattle.component_tree.specs.Listing.{names_below, as_entry, listing}
use Rattle.component_tree.specs.Names.{file_ending, folder_ending, stem_of, is_good}
use Rattle.component_tree.specs.Places.{place_cmp, place_total}
use Rattle.component_tree.specs.PlainTree.{plain}
use Rattle.component_tree.specs.Reading.{loaded}
use Rattle.component_tree.specs.Selection.{is_there, path_of, chosen}
use Rattle.component_tree.specs.Step.{◌>>=◌, Answers}
use Rattle.component_tree.specs.TreeOf.{IsTreeOf}
use Rattle.component_tree.specs.declared.tree.Tree.{Tree}
use Rattle.component_tree.specs.Taken.{Taken, noted, named, with_variant, with_variant_entry, with_variant_entries, entries_of, with_variants, with_own, with_entry, with_entries, with_folder, with_folders, taken_in}
use Rattle.component_tree.proofs.Listings.{names_contain}

abbrev text_cmp : List ℕ → List ℕ → Ordering
text_cmp = slice_cmp nat_cmp

abbrev pub Path : Type 0
Path = Option (List ℕ)

abbrev pub found : Place → Taken → Path
found q t = lookup (is_at (place_cmp q)) t

-- ---- results and options

bind_ok : {A B : Type 0} (r : Result A TreeError) (f : A → Result B TreeError) (y : B) → (r >>= f) ≡ Ok y → (x : A) × (r ≡ Ok x) × (f x ≡ Ok y)
bind_ok (Ok x) f y e = (x, refl, e)
bind_ok (Err d) f y e = absurd cc

abbrev done : {A : Type 0} → A → Result A TreeError
done x = Ok x

ok_is : {A : Type 0} (x y : A) → done x ≡ done y → x ≡ y
ok_is x y e = cc

or-none : (o : Path) → option_or o None ≡ o
or-none None = refl
or-none (Some x) = refl

or_assoc : (a b c : Path) → option_or (option_or a b) c ≡ option_or a (option_or b c)
or_assoc None b c = refl
or_assoc (Some x) b c = refl

or_again : (o : Path) (b : Bool) → option_or o (cond b o None) ≡ o
or_again None true = refl
or_again None false = refl
or_again (Some x) b = refl

-- ---- what is found after a file was noted

found_is_find : (q : Place) (es : Taken) → found q es ≡ find place_cmp q es
found_is_find q [] = refl
found_is_find q (e ∷ es) = ap (λ (o : Path). cond (is_at (place_cmp q) e.0) (Some e.1) o) (found_is_find q es)

put_is : (k : Place) (v : List ℕ) (es : Taken) → insert_entry place_cmp es k v ≡ put place_cmp k v es
put_is k v [] = refl
put_is k v (e ∷ es) =
    elim (place_cmp k e.0) as (λ o. match_ordering o ((k, v) ∷ e ∷ es) ((e.0, v) ∷ es) (e ∷ insert_entry place_cmp es k v) ≡ by_order o ((k, v) ∷ e ∷ es) ((e.0, v) ∷ es) (e ∷ put place_cmp k v es)) [
      | Less ↦ refl
      | Equal ↦ refl
      | Greater ↦ ap (λ (xs : Taken). e ∷ xs) (put_is k v es)
    ]

found-put : (q p : Place) (x : List ℕ) (t : Taken) → found q (insert_entry place_cmp t p x) ≡ cond (eq_by_cmp place_cmp q p) (Some x) (found q t)
found-put q p x t = ap (found q) (put_is p x t) ∙ found_is_find q (put place_cmp p x t) ∙ find-put place_cmp place_total q p x t ∙ ap (cond (eq_by_cmp place_cmp q p) (Some x)) (sym (found_is_find q t))

equal_of : (r : Ordering) → is_eq r ≡ true → r ≡ Equal
equal_of Less e = absurd (true≢false (sym e))
equal_of Equal e = refl
equal_of Greater e = absurd (true≢false (sym e))

found_tied : (q p : Place) (t : Taken) → eq_by_cmp place_cmp q p ≡ true → found q t ≡ found p t
found_tied q p t tie = found_is_find q t ∙ sym (find_tied place_cmp place_total q p (equal_of (place_cmp q p) tie) t) ∙ sym (found_is_find p t)

found_noted : (q p : Place) (x : List ℕ) (t : Taken) → found q (noted t p x) ≡ option_or (found q t) (cond (eq_by_cmp place_cmp q p) (Some x) None)
found_noted q p x t =
    elim (found p t) as (λ o. found p t ≡ o → found q (cond (is_some o) t (insert_entry place_cmp t p x)) ≡ option_or (found q t) (cond (eq_by_cmp place_cmp q p) (Some x) None)) [
      | Some y ↦ λ at. elim (eq_by_cmp place_cmp q p) as (λ b. eq_by_cmp place_cmp q p ≡ b → found q t ≡ option_or (found q t) (cond b (Some x) None)) [
        | true ↦ λ tie. let here : found q t ≡ Some y = found_tied q p t tie ∙ at in rw here refl
        | false ↦ λ _. sym (or-none (found q t))
      ] refl
      | None ↦ λ at. found-put q p x t ∙ elim (eq_by_cmp place_cmp q p) as (λ b. eq_by_cmp place_cmp q p ≡ b → cond b (Some x) (found q t) ≡ option_or (found q t) (cond b (Some x) None)) [
        | true ↦ λ tie. let here : found q t ≡ None = found_tied q p t tie ∙ at in rw here refl
        | false ↦ λ _. sym (or-none (found q t))
      ] refl
    ] refl

unchanged : (q : Place) (t more : Taken) → t ≡ more → found q more ≡ option_or (found q t) None
unchanged q t more same = ap (found q) (sym same) ∙ sym (or-none (found q t))

named_ok : (name x : List ℕ) (t more : Taken) (p : Place) → named name t p x ≡ Ok more → noted t p x ≡ more
named_ok name x t more p e =
    elim (is_good name) as (λ b. cond b (Ok (noted t p x)) (Err (BadName x)) ≡ Ok more → noted t p x ≡ more) [ true ↦ λ g. ok_is (noted t p x) more g | false ↦ λ g. absurd cc ] e

-- ---- the variants in a folder of them

by_stem : Option (List ℕ) → Path → Path
by_stem None o = None
by_stem (Some s) o = o

abbrev variant_gives : List ℕ → List ℕ → Place → Entry → Path
variant_gives id folder q e = cond e.folder None (by_stem (stem_of file_ending e.name) (cond (eq_by_cmp place_cmp q (record { id = id; file = Some e.name })) (Some (path_below folder e.name)) None))

abbrev first_given : (Entry → Path) → List Entry → Path
first_given g [] = None
first_given g (e ∷ es) = option_or (g e) (first_given g es)

variant_by : (id folder name : List ℕ) (q : Place) (t more : Taken) (b : Bool) (s : Option (List ℕ)) → cond b (Ok t) (with_variant s t id folder name) ≡ Ok more
    → found q more ≡ option_or (found q t) (cond b None (by_stem s (cond (eq_by_cmp place_cmp q (record { id = id; file = Some name })) (Some (path_below folder name)) None)))
unfolding by_stem
variant_by id folder name q t more true s e = unchanged q t more (ok_is t more e)
variant_by id folder name q t more false None e = unchanged q t more (ok_is t more e)
variant_by id folder name q t more false (Some v) e =
    ap (found q) (sym (named_ok v (path_below folder name) t more (record { id = id; file = Some name }) e)) ∙ found_noted q (record { id = id; file = Some name }) (path_below folder name) t

variants_give : (id folder : List ℕ) (q : Place) (es : List Entry) (t more : Taken) → with_variant_entries t id folder es ≡ Ok more → found q more ≡ option_or (found q t) (first_given (variant_gives id folder q) es)
variants_give id folder q [] t more e = unchanged q t more (ok_is t more e)
variants_give id folder q (entry ∷ es) t more e =
    let b = bind_ok (with_variant_entry t id folder entry) (λ m. with_variant_entries m id folder es) more e in
    variants_give id folder q es b.0 more b.2
    ∙ ap (λ (o : Path). option_or o (first_given (variant_gives id folder q) es)) (variant_by id folder entry.name q t b.0 entry.folder (stem_of file_ending entry.name) b.1)
    ∙ or_assoc (found q t) (variant_gives id folder q entry) (first_given (variant_gives id folder q) es)

-- ---- a listing gives what one entry of it gives

given_names : (files : FileMap) (folder name : List ℕ) (g y : Entry → Path) → ((e : Entry) → g e ≡ cond (bytes_eq name e.name) (y e) None) → (ns : List (List ℕ))
    → first_given g (map (as_entry files folder) ns) ≡ cond (list_any (bytes_eq name) ns) (y (as_entry files folder name)) None
given_names files folder name g y gives [] = refl
given_names files folder name g y gives (n ∷ ns) =
    let rest = given_names files folder name g y gives ns in
    let at = y (as_entry files folder name) in
    ap (λ (o : Path). option_or o (first_given g (map (as_entry files folder) ns))) (gives (as_entry files folder n))
    ∙ ap (option_or (cond (bytes_eq name n) (y (as_entry files folder n)) None)) rest
    ∙ elim (bytes_eq name n) as (λ b. bytes_eq name n ≡ b → option_or (cond b (y (as_entry files folder n)) None) (cond (list_any (bytes_eq name) ns) at None) ≡ cond (b || list_any (bytes_eq name) ns) at None) [
      | true ↦ λ same. ap (λ (m : List ℕ). option_or (y (as_entry files folder m)) (cond (list_any (bytes_eq name) ns) at None)) (sym ((bytes_eq-Decides name n).0 same)) ∙ or_again at (list_any (bytes_eq name) ns)
      | false ↦ λ _. refl
    ] refl

given_listing : (files : FileMap) (folder name : List ℕ) (g y : Entry → Path) → ((e : Entry) → g e ≡ cond (bytes_eq name e.name) (y e) None)
    → first_given g (listing files folder) ≡ cond (is_below files folder name) (y (as_entry files folder name)) None
unfolding listing
given_listing files folder name g y gives =
    given_names files folder name g y gives (names_below files folder) ∙ ap (λ (b : Bool). cond b (y (as_entry files folder name)) None) (names_contain files folder name)

none_given : (g : Entry → Path) → ((e : Entry) → g e ≡ None) → (es : List Entry) → first_given g es ≡ None
none_given g none [] = refl
none_given g none (e ∷ es) = rw (none e, none_given g none es) refl

-- ---- places that are one

is_eq-then : (r s : Ordering) → is_eq (ordering_then r s) ≡ (is_eq r && is_eq s)
is_eq-then Less s = refl
is_eq-then Equal s = refl
is_eq-then Greater s = refl

and_false : (b : Bool) → (b && false) ≡ false
and_false true = refl
and_false false = refl

and_true : (b : Bool) → (b && true) ≡ b
and_true true = refl
and_true false = refl

-- own files, and files of variants
own_eq : (i j : List ℕ) → eq_by_cmp place_cmp (record { id = i; file = None }) (record { id = j; file = None }) ≡ bytes_eq i j
own_eq i j = is_eq-then (text_cmp i j) Equal ∙ and_true (is_eq (text_cmp i j)) ∙ sym (texts_ties i j)

own_other : (i j f : List ℕ) → eq_by_cmp place_cmp (record { id = i; file = None }) (record { id = j; file = Some f }) ≡ false
own_other i j f = is_eq-then (text_cmp i j) Less ∙ and_false (is_eq (text_cmp i j))

other_own : (i f j : List ℕ) → eq_by_cmp place_cmp (record { id = i; file = Some f }) (record { id = j; file = None }) ≡ false
other_own i f j = is_eq-then (text_cmp i j) Greater ∙ and_false (is_eq (text_cmp i j))

variant_eq : (i f j h : List ℕ) → eq_by_cmp place_cmp (record { id = i; file = Some f }) (record { id = j; file = Some h }) ≡ (bytes_eq i j && bytes_eq f h)
variant_eq i f j h = is_eq-then (text_cmp i j) (text_cmp f h) ∙ ap (λ (b : Bool). b && is_eq (text_cmp f h)) (sym (texts_ties i j)) ∙ ap (λ (b : Bool). bytes_eq i j && b) (sym (texts_ties f h))

-- ---- stems

stem_some : (ending name s : List ℕ) → stem_of ending name ≡ Some s → name ≡ s ++ ending
stem_some ending name s e =
    let n = length name - length ending in
    elim (bytes_eq ending (drop n name)) as (λ b. bytes_eq ending (drop n name) ≡ b → cond b (Some (take n name)) None ≡ Some s → name ≡ s ++ ending) [
      | true ↦ λ same h.
          let front : take n name ≡ s = cc in
          sym (take-append-drop n name) ∙ ap (λ (x : List ℕ). x ++ drop n name) front ∙ ap (λ (x : List ℕ). s ++ x) (sym ((bytes_eq-Decides ending (drop n name)).0 same))
      | false ↦ λ _ h. absurd cc
    ] refl e

stem_back : (ending s : List ℕ) → stem_of ending (s ++ ending) ≡ Some s
stem_back ending s =
    let n : length (s ++ ending) - length ending ≡ length s = omega (arith, length-append s ending) in
    let behind : drop (length s) (s ++ ending) ≡ ending = drop_at s ending (length s) refl in
    let same : bytes_eq ending ending ≡ true = (bytes_eq-Decides ending ending).1 refl in
    ap (λ (k : ℕ). cond (bytes_eq ending (drop k (s ++ ending))) (Some (take k (s ++ ending))) None) n
    ∙ ap (λ (x : List ℕ). cond (bytes_eq ending x) (Some (take (length s) (s ++ ending))) None) behind
    ∙ ap (λ (b : Bool). cond b (Some (take (length s) (s ++ ending))) None) same
    ∙ ap (λ (x : List ℕ). Some x) (take_at s ending (length s) refl)

abbrev matches : List ℕ → Option (List ℕ) → Bool
matches id None = false
matches id (Some s) = bytes_eq id s

same_some : (x y : List ℕ) → Some x ≡ Some y → x ≡ y
same_some x y e = cc

matched : (ending name id : List ℕ) (o : Option (List ℕ)) → stem_of ending name ≡ o → matches id o ≡ bytes_eq (id ++ ending) name
matched ending name id None at =
    elim (bytes_eq (id ++ ending) name) as (λ b. bytes_eq (id ++ ending) name ≡ b → false ≡ b) [
      | true ↦ λ same.
          let is : stem_of ending name ≡ Some id = ap (stem_of ending) (sym ((bytes_eq-Decides (id ++ ending) name).0 same)) ∙ stem_back ending id in
          let both : Some id ≡ None = sym is ∙ at in
          absurd cc
      | false ↦ λ _. refl
    ] refl
matched ending name id (Some s) at =
    let whole : name ≡ s ++ ending = stem_some ending name s at in
    let right : Decides (bytes_eq (id ++ ending) name) (id ≡ s) =
    (λ same. same_some id s (sym (stem_back ending id) ∙ ap (stem_of ending) ((bytes_eq-Decides (id ++ ending) name).0 same) ∙ at), λ e. (bytes_eq-Decides (id ++ ending) name).1 (ap (λ (x : List ℕ). x ++ ending) e ∙ sym whole)) in
    same_from_decides _ _ (bytes_eq-Decides id s) right

-- ---- the folder of a component's variants

abbrev variant_in : FileMap → List ℕ → List ℕ → Path
variant_in files path file = cond (is_below files path file) (cond (is_folder files (path_below path file)) None (by_stem (stem_of file_ending file) (Some (path_below path file)))) None

by_entry : (f : Bool) (s : Option (List ℕ)) (a b : Bool) (p : Path) → cond f None (by_stem s (cond (a && b) p None)) ≡ cond b (cond f None (by_stem s (cond a p None))) None
unfolding by_stem
by_entry true s a true p = refl
by_entry true s a false p = refl
by_entry false None a true p = refl
by_entry false None a false p = refl
by_entry false (Some v) true true p = refl
by_entry false (Some v) true false p = refl
by_entry false (Some v) false true p = refl
by_entry false (Some v) false false p = refl

by_id : (c d : Bool) (s : Option (List ℕ)) (a : Bool) (p : Path) → cond c (cond d None (by_stem s (cond a p None))) None ≡ cond a (cond c (cond d None (by_stem s p)) None) None
unfolding by_stem
by_id true true s true p = refl
by_id true true s false p = refl
by_id true false None true p = refl
by_id true false None false p = refl
by_id true false (Some v) true p = refl
by_id true false (Some v) false p = refl
by_id false d s true p = refl
by_id false d s false p = refl

not_by_entry : (f : Bool) (s : Option (List ℕ)) (p : Path) → cond f None (by_stem s (cond false p None)) ≡ None
unfolding by_stem
not_by_entry true s p = refl
not_by_entry false None p = refl
not_by_entry false (Some v) p = refl

variants_of_id : (files : FileMap) (path i f id : List ℕ) → first_given (variant_gives id path (record { id = i; file = Some f })) (listing files path) ≡ cond (bytes_eq i id) (variant_in files path f) None
variants_of_id files path i f id =
    let q : Place = record { id = i; file = Some f } in
    let y : Entry → Path = λ e. cond e.folder None (by_stem (stem_of file_ending e.name) (cond (bytes_eq i id) (Some (path_below path e.name)) None)) in
    let gives : (e : Entry) → variant_gives id path q e ≡ cond (bytes_eq f e.name) (y e) None = λ e.
    ap (λ (t : Bool). cond e.folder None (by_stem (stem_of file_ending e.name) (cond t (Some (path_below path e.name)) None))) (variant_eq i f id e.name)
    ∙ by_entry e.folder (stem_of file_ending e.name) (bytes_eq i id) (bytes_eq f e.name) (Some (path_below path e.name)) in
    given_listing files path f (variant_gives id path q) y gives
    ∙ by_id (is_below files path f) (is_folder files (path_below path f)) (stem_of file_ending f) (bytes_eq i id) (Some (path_below path f))

no_variants : (files : FileMap) (path i id : List ℕ) → first_given (variant_gives id path (record { id = i; file = None })) (listing files path) ≡ None
no_variants files path i id =
    none_given (variant_gives id path (record { id = i; file = None })) (λ e.
    ap (λ (t : Bool). cond e.folder None (by_stem (stem_of file_ending e.name) (cond t (Some (path_below path e.name)) None))) (own_other i id e.name)
    ∙ not_by_entry e.folder (stem_of file_ending e.name) (Some (path_below path e.name))) (listing files path)

-- ---- a folder of components

own_gives : Place → Option (List ℕ) → List ℕ → Path
own_gives q None path = None
own_gives q (Some id) path = cond (eq_by_cmp place_cmp q (record { id = id; file = None })) (Some path) None

folder_gives : FileMap → Place → Option (List ℕ) → List ℕ → Path
folder_gives files q None path = None
folder_gives files q (Some id) path = first_given (variant_gives id path q) (listing files path)

abbrev entry_gives : FileMap → List ℕ → Place → Entry → Path
entry_gives files folder q e = cond e.folder (folder_gives files q (stem_of folder_ending e.name) (path_below folder e.name)) (own_gives q (stem_of file_ending e.name) (path_below folder e.name))

entries_ok : (files : FileMap) (path : List ℕ) (es : List Entry) → entries_of files path ≡ Ok es → listing files path ≡ es
entries_ok files path es e =
    elim (ltb 4096 (length (listing files path))) as (λ b. cond b (Err (TooMany Entries)) (Ok (listing files path)) ≡ Ok es → listing files path ≡ es) [ true ↦ λ h. absurd cc | false ↦ λ h. ok_is (listing files path) es h ] e

good_ok : {A : Type 0} (name x : List ℕ) (r : Result A TreeError) (y : A) → cond (is_good name) r (Err (BadName x)) ≡ Ok y → r ≡ Ok y
good_ok name x r y e = elim (is_good name) as (λ b. cond b r (Err (BadName x)) ≡ Ok y → r ≡ Ok y) [ true ↦ λ h. h | false ↦ λ h. absurd cc ] e

entry_by : (files : FileMap) (path : List ℕ) (q : Place) (t more : Taken) (b : Bool) (sf so : Option (List ℕ)) → cond b (with_variants files sf t path) (with_own so t path) ≡ Ok more
    → found q more ≡ option_or (found q t) (cond b (folder_gives files q sf path) (own_gives q so path))
unfolding folder_gives own_gives
entry_by files path q t more true None so e = unchanged q t more (ok_is t more e)
entry_by files path q t more true (Some id) so e =
    let g = good_ok id path (entries_of files path >>= λ es. with_variant_entries t id path es) more e in
    let b = bind_ok (entries_of files path) (λ es. with_variant_entries t id path es) more g in
    variants_give id path q b.0 t more b.2 ∙ ap (λ (es : List Entry). option_or (found q t) (first_given (variant_gives id path q) es)) (sym (entries_ok files path b.0 b.1))
entry_by files path q t more false sf None e = unchanged q t more (ok_is t more e)
entry_by files path q t more false sf (Some id) e =
    ap (found q) (sym (named_ok id path t more (record { id = id; file = None }) e)) ∙ found_noted q (record { id = id; file = None }) path t

entries_give : (files : FileMap) (folder : List ℕ) (q : Place) (es : List Entry) (t more : Taken) → with_entries files t folder es ≡ Ok more → found q more ≡ option_or (found q t) (first_given (entry_gives files folder q) es)
entries_give files folder q [] t more e = unchanged q t more (ok_is t more e)
entries_give files folder q (entry ∷ es) t more e =
    let b = bind_ok (with_entry files t folder entry) (λ m. with_entries files m folder es) more e in
    entries_give files folder q es b.0 more b.2
    ∙ ap (λ (o : Path). option_or o (first_given (entry_gives files folder q) es)) (entry_by files (path_below folder entry.name) q t b.0 entry.folder (stem_of folder_ending entry.name) (stem_of file_ending entry.name) b.1)
    ∙ or_assoc (found q t) (entry_gives files folder q entry) (first_given (entry_gives files folder q) es)

own_of : (i : List ℕ) (s : Option (List ℕ)) (path : List ℕ) → own_gives (record { id = i; file = None }) s path ≡ cond (matches i s) (Some path) None
unfolding own_gives
own_of i None path = refl
own_of i (Some id) path = ap (λ (b : Bool). cond b (Some path) None) (own_eq i id)

no_own : (i f : List ℕ) (s : Option (List ℕ)) (path : List ℕ) → own_gives (record { id = i; file = Some f }) s path ≡ None
unfolding own_gives
no_own i f None path = refl
no_own i f (Some id) path = ap (λ (b : Bool). cond b (Some path) None) (other_own i f id)

no_folder : (files : FileMap) (i : List ℕ) (s : Option (List ℕ)) (path : List ℕ) → folder_gives files (record { id = i; file = None }) s path ≡ None
unfolding folder_gives
no_folder files i None path = refl
no_folder files i (Some id) path = no_variants files path i id

folder_of : (files : FileMap) (i f : List ℕ) (s : Option (List ℕ)) (path : List ℕ) → folder_gives files (record { id = i; file = Some f }) s path ≡ cond (matches i s) (variant_in files path f) None
unfolding folder_gives
folder_of files i f None path = refl
folder_of files i f (Some id) path = variants_of_id files path i f id

own_entry : (f m : Bool) (p : Path) → cond f None (cond m p None) ≡ cond m (cond f None p) None
own_entry true true p = refl
own_entry true false p = refl
own_entry false true p = refl
own_entry false false p = refl

folder_entry : (f m : Bool) (p : Path) → cond f (cond m p None) None ≡ cond m (cond f p None) None
folder_entry true true p = refl
folder_entry true false p = refl
folder_entry false true p = refl
folder_entry false false p = refl

own_there : (a b : Bool) (p : Path) → cond a (cond b None p) None ≡ cond (a && not b) p None
own_there true true p = refl
own_there true false p = refl
own_there false b p = refl

variant_there : (a b c d : Bool) (s : Option (List ℕ)) (p : Path) → cond a (cond b (cond c (cond d None (by_stem s p)) None) None) None ≡ cond ((a && b) && ((c && not d) && is_some s)) p None
unfolding by_stem
variant_there false b c d s p = refl
variant_there true false c d s p = refl
variant_there true true false d s p = refl
variant_there true true true true s p = refl
variant_there true true true false None p = refl
variant_there true true true false (Some v) p = refl

folder_gives_place : (files : FileMap) (folder i : List ℕ) (o : Option (List ℕ)) → first_given (entry_gives files folder (record { id = i; file = o })) (listing files folder) ≡ cond (is_there files folder i o) (Some (path_of folder i o)) None
folder_gives_place files folder i None =
    let q : Place = record { id = i; file = None } in
    let name = i ++ file_ending in
    let y : Entry → Path = λ e. cond e.folder None (Some (path_below folder e.name)) in
    let gives : (e : Entry) → entry_gives files folder q e ≡ cond (bytes_eq name e.name) (y e) None = λ e.
    ap (λ (x : Path). cond e.folder x (own_gives q (stem_of file_ending e.name) (path_below folder e.name))) (no_folder files i (stem_of folder_ending e.name) (path_below folder e.name))
    ∙ ap (λ (x : Path). cond e.folder None x) (own_of i (stem_of file_ending e.name) (path_below folder e.name) ∙ ap (λ (b : Bool). cond b (Some (path_below folder e.name)) None) (matched file_ending e.name i (stem_of file_ending e.name) refl))
    ∙ own_entry e.folder (bytes_eq name e.name) (Some (path_below folder e.name)) in
    given_listing files folder name (entry_gives files folder q) y gives
    ∙ own_there (is_below files folder name) (is_folder files (path_below folder name)) (Some (path_below folder name))
folder_gives_place files folder i (Some f) =
    let q : Place = record { id = i; file = Some f } in
    let name = i ++ folder_ending in
    let y : Entry → Path = λ e. cond e.folder (variant_in files (path_below folder e.name) f) None in
    let gives : (e : Entry) → entry_gives files folder q e ≡ cond (bytes_eq name e.name) (y e) None = λ e.
    ap (λ (x : Path). cond e.folder (folder_gives files q (stem_of folder_ending e.name) (path_below folder e.name)) x) (no_own i f (stem_of file_ending e.name) (path_below folder e.name))
    ∙ ap (λ (x : Path). cond e.folder x None) (folder_of files i f (stem_of folder_ending e.name) (path_below folder e.name) ∙ ap (λ (b : Bool). cond b (variant_in files (path_below folder e.name) f) None) (matched folder_ending e.name i (stem_of folder_ending e.name) refl))
    ∙ folder_entry e.folder (bytes_eq name e.name) (variant_in files (path_below folder e.name) f) in
    let path = path_below folder name in
    given_listing files folder name (entry_gives files folder q) y gives
    ∙ variant_there (is_below files folder name) (is_folder files path) (is_below files path f) (is_folder files (path_below path f)) (stem_of file_ending f) (Some (path_below path f))

-- ---- all folders

first_chosen : (b : Bool) (x : List ℕ) (o : Path) → option_or (cond b (Some x) None) o ≡ cond b (Some x) o
first_chosen true x o = refl
first_chosen false x o = refl

pub folders_give : (files : FileMap) (q : Place) (folders : List (List ℕ)) (t more : Taken) → with_folders files t folders ≡ Ok more → found q more ≡ option_or (found q t) (chosen files folders q)
folders_give files q [] t more e = unchanged q t more (ok_is t more e)
folders_give files q (folder ∷ folders) t more e =
    let a = bind_ok (with_folder files t folder) (λ m. with_folders files m folders) more e in
    let b = bind_ok (entries_of files folder) (λ es. with_entries files t folder es) a.0 a.1 in
    let here : found q a.0 ≡ option_or (found q t) (cond (is_there files folder q.id q.file) (Some (path_of folder q.id q.file)) None) =
    entries_give files folder q b.0 t a.0 b.2
    ∙ ap (λ (es : List Entry). option_or (found q t) (first_given (entry_gives files folder q) es)) (sym (entries_ok files folder b.0 b.1))
    ∙ ap (option_or (found q t)) (folder_gives_place files folder q.id q.file) in
    folders_give files q folders a.0 more a.2
    ∙ ap (λ (o : Path). option_or o (chosen files folders q)) here
    ∙ or_assoc (found q t) (cond (is_there files folder q.id q.file) (Some (path_of folder q.id q.file)) None) (chosen files folders q)
    ∙ ap (option_or (found q t)) (first_chosen (is_there files folder q.id q.file) (path_of folder q.id q.file) (chosen files folders q))

-- what the walk took, and the components of its files, are those of the map
pub tree_of : (files : FileMap) (folders : List (List ℕ)) (taken : Taken) → IsStrictlySortedBy place_cmp (keys_of taken) → taken_in files folders ≡ Ok taken
    → (r : Result Tree TreeError) → Answers (λ tree. plain tree.components) r (loaded files [] taken) → IfOk r (λ tree. IsTreeOf files folders (plain tree.components))
tree_of files folders taken sorted took (Ok tree) given = (taken, record { sorted = sorted; each = λ q. folders_give files q folders [] taken took }, given)
tree_of files folders taken sorted took (Err e) given = tt
