-- Which component files a list of folders gives, said of the map of paths alone.
use Rattle.std.specs.Prelude.{◌≡◌, ℕ, Bool, ◌&&◌, not, List, [], ◌∷◌, ◌++◌, is_some, Option, Some, None, if◌then◌else◌}
use Rattle.std.specs.BTreeMap.{is_at}
use Rattle.std.specs.List.Sorted.{IsStrictlySortedBy}
use Rattle.std.specs.Map.{keys_of, lookup}
use Rattle.pl_base.specs.FileMap.{FileMap, path_below, is_below, is_folder}
use Rattle.component_tree.specs.declared.place.Place.{Place}
use Rattle.component_tree.specs.Names.{file_ending, folder_ending, stem_of}
use Rattle.component_tree.specs.Places.{place_cmp}
use Rattle.component_tree.specs.Taken.{Taken}

-- a file directly in a folder: no held path goes on below it
abbrev pub file_in : FileMap → List ℕ → List ℕ → Bool
file_in files folder name = is_below files folder name && not (is_folder files (path_below folder name))

-- a folder directly in a folder
abbrev pub folder_in : FileMap → List ℕ → List ℕ → Bool
folder_in files folder name = is_below files folder name && is_folder files (path_below folder name)

-- whether a folder has a component's own file `ID.pcrlock`, or the file in its folder `ID.pcrlock.d`, whose name ends in `.pcrlock`
abbrev pub is_there : FileMap → List ℕ → List ℕ → Option (List ℕ) → Bool
is_there files folder id None = file_in files folder (id ++ file_ending)
is_there files folder id (Some file) =
    folder_in files folder (id ++ folder_ending) && (file_in files (path_below folder (id ++ folder_ending)) file && is_some (stem_of file_ending file))

-- the path of that file
abbrev pub path_of : List ℕ → List ℕ → Option (List ℕ) → List ℕ
path_of folder id None = path_below folder (id ++ file_ending)
path_of folder id (Some file) = path_below (path_below folder (id ++ folder_ending)) file

-- the path in the first of the folders that has a file in the place
abbrev pub chosen : FileMap → List (List ℕ) → Place → Option (List ℕ)
chosen files [] place = None
chosen files (folder ∷ folders) place =
    if is_there files folder place.id place.file then Some (path_of folder place.id place.file) else chosen files folders place

-- in the order of their places exactly the files that the folders have, each from the first folder that has it
pub record IsSelection (files : FileMap) (folders : List (List ℕ)) (taken : Taken) : Type 0 where
  pub sorted : IsStrictlySortedBy place_cmp (keys_of taken)
  pub each : (place : Place) → lookup (is_at (place_cmp place)) taken ≡ chosen files folders place
