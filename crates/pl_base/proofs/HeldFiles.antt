-- The map of files in memory, after a change of one path.
use Rattle.std.proofs.Common.{◌≡◌, ℕ, Bool, true, false, cond, List, [], ◌∷◌, map, refl, sym, ap, ◌∙◌}
use Rattle.std.specs.Prelude.{Option, None, Some, is_some, MatchBool, string_bytes}
use Rattle.std.specs.Option.{option_map}
use Rattle.std.specs.FinMap.{get, insert, remove, get-from_entries, get-insert, get-remove, same_map, slice_cmp-IsAntisymmetric, nat_cmp-IsAntisymmetric}
use Rattle.std.specs.FinMap.Entries.{find}
use Rattle.std.specs.Ordering.{nat_cmp, eq_by_cmp}
use Rattle.std.specs.Cmp.{eq_by_cmp_equiv, Equal-is}
use Rattle.std.specs.Cmp.Lexicographic.{slice_cmp, nat_list_cmp_total}
use Rattle.std.specs.Map.{lookup}
use Rattle.std.specs.String.{string_cmp}
use Rattle.std.specs.Str.{bytes_eq}
use Rattle.std.specs.BTreeMap.{BTreeMap, UpdatesBy, get_by_text, is_at}
use Rattle.std.specs.declared.alloc.Global.{Global}
use Rattle.std.specs.declared.string.String.{String}
use Rattle.std.specs.declared.vec.Vec.{Vec}
use Rattle.std.proofs.lemmas.Map.Text.{btree_map_updates_text, is_eq-slice_cmp}
use Rattle.std.proofs.lemmas.Map.Lookups.{exact_bytes}
use Rattle.pl_base.specs.FileMap.{FileMap}
use Rattle.pl_base.specs.MemoryFiles.{files_of}

map_cond : {A B : Type 0} (f : A → B) (b : Bool) (x : A) (rest : Option A) (other : Option B) → other ≡ option_map f rest → cond b (Some (f x)) other ≡ option_map f (cond b (Some x) rest)
map_cond f true x rest other e = refl
map_cond f false x rest other e = e

find_file : (entries : List (String Global × Vec ℕ Global)) (path : List ℕ) → find (slice_cmp nat_cmp) path (map (λ e. (string_bytes e.0, e.1.items)) entries) ≡ option_map (λ v. v.items) (lookup (is_at (λ k. slice_cmp nat_cmp path (string_bytes k))) entries)
find_file [] path = refl
find_file (e ∷ entries) path = map_cond (λ (v : Vec ℕ Global). v.items) _ e.1 _ _ (find_file entries path)

-- what the map has at a path
pub get-files : (entries : List (String Global × Vec ℕ Global)) (path : List ℕ) → get (files_of entries) path ≡ option_map (λ v. v.items) (lookup (is_at (λ k. slice_cmp nat_cmp path (string_bytes k))) entries)
get-files entries path = get-from_entries nat_list_cmp_total _ path ∙ find_file entries path

-- the bytes of two paths agree in either order
same_bytes : (path other : List ℕ) → bytes_eq path other ≡ eq_by_cmp (slice_cmp nat_cmp) other path
same_bytes path other = sym (is_eq-slice_cmp path other) ∙ (eq_by_cmp_equiv nat_list_cmp_total).symm path other

-- the new map is the old one with the path set
pub files-insert : (before after : BTreeMap (String Global) (Vec ℕ Global)) (path : List ℕ) (bytes : Vec ℕ Global) → UpdatesBy string_cmp (λ k. slice_cmp nat_cmp path (string_bytes k)) before after (Some bytes) → files_of after.entries ≡ insert (files_of before.entries) path bytes.items
files-insert before after path bytes h = same_map nat_list_cmp_total (slice_cmp-IsAntisymmetric nat_cmp-IsAntisymmetric) _ _ (λ q.
    get-files after.entries q ∙ ap (option_map (λ (v : Vec ℕ Global). v.items)) (btree_map_updates_text path before after (Some bytes) h q)
    ∙ sym (get-insert nat_list_cmp_total (files_of before.entries) path bytes.items q ∙ ap (λ b. cond b (Some bytes.items) (get (files_of before.entries) q)) (sym (same_bytes path q)) ∙ map_cond (λ (v : Vec ℕ Global). v.items) (bytes_eq path q) bytes (get_by_text before q) _ (get-files before.entries q)))

-- the new map is the old one without the path
none_cond : {A B : Type 0} (f : A → B) (b : Bool) (rest : Option A) (other : Option B) → other ≡ option_map f rest → cond b None other ≡ option_map f (cond b None rest)
none_cond f true rest other e = refl
none_cond f false rest other e = e

pub files-remove : (before after : BTreeMap (String Global) (Vec ℕ Global)) (path : List ℕ) → UpdatesBy string_cmp (λ k. slice_cmp nat_cmp path (string_bytes k)) before after None → files_of after.entries ≡ remove (files_of before.entries) path
files-remove before after path h = same_map nat_list_cmp_total (slice_cmp-IsAntisymmetric nat_cmp-IsAntisymmetric) _ _ (λ q.
    get-files after.entries q ∙ ap (option_map (λ (v : Vec ℕ Global). v.items)) (btree_map_updates_text path before after None h q)
    ∙ sym (get-remove nat_list_cmp_total (files_of before.entries) path q ∙ ap (λ b. cond b None (get (files_of before.entries) q)) (sym (same_bytes path q)) ∙ none_cond (λ (v : Vec ℕ Global). v.items) (bytes_eq path q) (get_by_text before q) _ (get-files before.entries q)))

-- whether a value was taken out
pub was_there : (there : Bool) (taken : Option (Vec ℕ Global)) → there ≡ is_some taken → (found : Option (List ℕ)) → found ≡ option_map (λ v. v.items) taken → MatchBool there ((bytes : List ℕ) × (found ≡ Some bytes)) (found ≡ None)
was_there true None e found f = absurd (cc)
was_there true (Some v) e found f = (v.items, f)
was_there false None e found f = f
was_there false (Some v) e found f = absurd (cc)

-- to take out a path that isn't there changes nothing
pub remove-absent : (files : FileMap) (path : List ℕ) → get files path ≡ None → remove files path ≡ files
remove-absent files path none = same_map nat_list_cmp_total (slice_cmp-IsAntisymmetric nat_cmp-IsAntisymmetric) _ _ (λ q. get-remove nat_list_cmp_total files path q ∙ absent _ q refl)
  where
    absent : (same : Bool) (q : List ℕ) → eq_by_cmp (slice_cmp nat_cmp) q path ≡ same → cond same None (get files q) ≡ get files q
    absent true q e = sym (ap (get files) (exact_bytes q path ((Equal-is _).0 e)) ∙ none)
    absent false q e = refl

-- what stands after a path that wasn't there is taken out
pub unchanged : (held now : FileMap) (path : List ℕ) → get held path ≡ None → now ≡ remove held path → (files : FileMap) → held ≡ files → (get files path ≡ None) × (Some now ≡ Some files)
unchanged held now path none gone files same = (ap (λ m. get m path) (sym same) ∙ none, ap Some (gone ∙ remove-absent held path none ∙ same))
