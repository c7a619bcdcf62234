-- Files as a map from paths to bytes, and what is directly below a path.
use Rattle.std.specs.Prelude.{ℕ, Bool, not, ◌&&◌, ◌||◌, List, [], ◌∷◌, ◌++◌, length, nat_eq}
use Rattle.std.specs.List.{starts_with, list_any}
use Rattle.std.specs.Ordering.{nat_cmp}
use Rattle.std.specs.Cmp.Lexicographic.{slice_cmp}
use Rattle.std.specs.FinMap.{FinMap, keys, contains_key}

-- files by their paths, in the order of the paths' bytes
abbrev pub FileMap : Type 0
FileMap = FinMap (slice_cmp nat_cmp) (List ℕ)

-- the byte between the parts of a path
abbrev pub slash : ℕ
slash = 47

-- the path of a name directly below a path
abbrev pub path_below : List ℕ → List ℕ → List ℕ
path_below path name = path ++ slash ∷ name

-- whether some path goes on below this one
abbrev pub is_folder : FileMap → List ℕ → Bool
is_folder files path = list_any (λ held. starts_with nat_eq held (path ++ slash ∷ [])) (keys files)

-- whether the name is one part of a path, and stands directly below the path as a file or a folder
abbrev pub is_below : FileMap → List ℕ → List ℕ → Bool
is_below files path name =
    not (nat_eq (length name) 0) && not (list_any (nat_eq slash) name)
    && (contains_key files (path_below path name) || is_folder files (path_below path name))
