-- What stands directly below a path, by the map of files.
use Rattle.std.specs.Prelude.{ℕ, ◌==◌, List, ◌∷◌, [], ◌++◌, length, map, option_and_then, Option, None, Some, if◌then◌else◌}
use Rattle.std.specs.List.{filter_map}
use Rattle.std.specs.FinMap.{keys, from_entries}
use Rattle.std.specs.Ordering.{nat_cmp}
use Rattle.std.specs.Cmp.Lexicographic.{slice_cmp}
use Rattle.pl_base.specs.declared.files.Entry.{Entry}
use Rattle.pl_base.specs.FileMap.{FileMap, slash, path_below, is_folder}

-- what follows a text in another that begins with it
abbrev pub following : List ℕ → List ℕ → Option (List ℕ)
following [] text = Some text
following (b ∷ bs) [] = None
following (b ∷ bs) (c ∷ text) = if b == c then following bs text else None

-- the bytes up to the first slash, or all
abbrev pub until_slash : List ℕ → List ℕ
until_slash [] = []
until_slash (b ∷ bs) = if slash == b then [] else b ∷ until_slash bs

-- the first part of a path, where it isn't empty
abbrev pub first_part : List ℕ → Option (List ℕ)
first_part rest = if length (until_slash rest) == 0 then None else Some (until_slash rest)

-- the name directly below a path on the way to a held path, where that goes on below it
abbrev pub name_below : List ℕ → List ℕ → Option (List ℕ)
name_below path held = option_and_then first_part (following (path ++ slash ∷ []) held)

-- the names, each once and in the order of their bytes
unfoldable pub in_order : List (List ℕ) → List (List ℕ)
in_order names = keys (from_entries {X = Unit {0}} {R = slice_cmp nat_cmp} (map (λ name. (name, tt)) names))

-- the names directly below a path
abbrev pub names_below : FileMap → List ℕ → List (List ℕ)
names_below files path = in_order (filter_map (name_below path) (keys files))

-- each name with whether it is a folder, which it is where a held path goes on below it
abbrev pub as_entry : FileMap → List ℕ → List ℕ → Entry
as_entry files path name = record { name = name; folder = is_folder files (path_below path name) }

-- the entries of a folder
unfoldable pub listing : FileMap → List ℕ → List Entry
listing files path = map (as_entry files path) (names_below files path)
