-- The component files that a list of folders gives, and where each is taken from; folder after folder, entry after entry.
use Rattle.std.specs.Prelude.{◌≡◌, ℕ, true, List, [], ◌∷◌, length, is_some, nat_lt, Option, Some, None, Result, Ok, Err, if◌then◌else◌}
use Rattle.std.specs.FinMap.{contains_key}
use Rattle.std.specs.List.{AllByRecursion}
use Rattle.std.specs.Map.{lookup}
use Rattle.std.specs.BTreeMap.{is_at, insert_entry}
use Rattle.pl_base.specs.declared.files.Entry.{Entry}
use Rattle.pl_base.specs.FileMap.{FileMap, path_below}
use Rattle.component_tree.specs.declared.error.TreeLimit.TheVariants.{Entries}
use Rattle.component_tree.specs.declared.error.TreeError.{TreeError}
use Rattle.component_tree.specs.declared.error.TreeError.TheVariants.{BadName, TooMany}
use Rattle.component_tree.specs.declared.place.Place.{Place}
use Rattle.component_tree.specs.Limits.{entry_limit}
use Rattle.component_tree.specs.Listing.{listing}
use Rattle.component_tree.specs.Names.{file_ending, folder_ending, stem_of, is_good}
use Rattle.component_tree.specs.Places.{place_cmp}
use Rattle.component_tree.specs.Step.{◌>>=◌}

-- component files in the order of their places, each with the path that it is taken from
abbrev pub Taken : Type 0
Taken = List (Place × List ℕ)

-- a file with a path, unless an earlier folder has one in its place
abbrev pub noted : Taken → Place → List ℕ → Taken
noted taken place path =
    if is_some (lookup (is_at (place_cmp place)) taken) then taken else insert_entry place_cmp taken place path

-- a file in a place, where the name that it gives is good
abbrev pub named : List ℕ → Taken → Place → List ℕ → Result Taken TreeError
named name taken place path = if is_good name then Ok (noted taken place path) else Err (BadName path)

-- a variant's file, where the entry's name has the ending
abbrev pub with_variant : Option (List ℕ) → Taken → List ℕ → List ℕ → List ℕ → Result Taken TreeError
with_variant None taken id folder name = Ok taken
with_variant (Some variant) taken id folder name =
    named variant taken (record { id = id; file = Some name }) (path_below folder name)

-- an entry of the folder of a component's variants
abbrev pub with_variant_entry : Taken → List ℕ → List ℕ → Entry → Result Taken TreeError
with_variant_entry taken id folder entry =
    if entry.folder then Ok taken else with_variant (stem_of file_ending entry.name) taken id folder entry.name

abbrev pub with_variant_entries : Taken → List ℕ → List ℕ → List Entry → Result Taken TreeError
with_variant_entries taken id folder [] = Ok taken
with_variant_entries taken id folder (entry ∷ entries) =
    with_variant_entry taken id folder entry >>= λ more. with_variant_entries more id folder entries

-- the entries of a folder; none where it isn't there
abbrev pub entries_of : FileMap → List ℕ → Result (List Entry) TreeError
entries_of files folder =
    if nat_lt entry_limit (length (listing files folder)) then Err (TooMany Entries) else Ok (listing files folder)

-- the files of a component's variants, in the folder of that name
abbrev pub with_variants : FileMap → Option (List ℕ) → Taken → List ℕ → Result Taken TreeError
with_variants files None taken path = Ok taken
with_variants files (Some id) taken path =
    if is_good id then (entries_of files path >>= λ entries. with_variant_entries taken id path entries) else Err (BadName path)

-- a component's own file, where the entry's name has the ending
abbrev pub with_own : Option (List ℕ) → Taken → List ℕ → Result Taken TreeError
with_own None taken path = Ok taken
with_own (Some id) taken path = named id taken (record { id = id; file = None }) path

-- an entry of a folder of components
abbrev pub with_entry : FileMap → Taken → List ℕ → Entry → Result Taken TreeError
with_entry files taken folder entry =
    if entry.folder
    then with_variants files (stem_of folder_ending entry.name) taken (path_below folder entry.name)
    else with_own (stem_of file_ending entry.name) taken (path_below folder entry.name)

abbrev pub with_entries : FileMap → Taken → List ℕ → List Entry → Result Taken TreeError
with_entries files taken folder [] = Ok taken
with_entries files taken folder (entry ∷ entries) =
    with_entry files taken folder entry >>= λ more. with_entries files more folder entries

abbrev pub with_folder : FileMap → Taken → List ℕ → Result Taken TreeError
with_folder files taken folder = entries_of files folder >>= λ entries. with_entries files taken folder entries

abbrev pub with_folders : FileMap → Taken → List (List ℕ) → Result Taken TreeError
with_folders files taken [] = Ok taken
with_folders files taken (folder ∷ folders) = with_folder files taken folder >>= λ more. with_folders files more folders

-- the files that the folders give together
abbrev pub taken_in : FileMap → List (List ℕ) → Result Taken TreeError
taken_in files folders = with_folders files [] folders

-- each file is there, at the path that it is taken from
abbrev pub AreThere : FileMap → Taken → Type 0
AreThere files taken = AllByRecursion (λ file. contains_key files file.1 ≡ true) taken
