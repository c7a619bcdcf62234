-- What the paths that are held say, each by itself and all together, of a name below a path.
use Rattle.std.specs.Prelude.{ℕ, Bool, true, false, cond, not, ◌&&◌, ◌||◌, List, [], ◌∷◌, ◌++◌, map, length, nat_eq, Option, None, Some, string_bytes}
use Rattle.std.specs.List.{starts_with, list_any}
use Rattle.std.specs.Str.{bytes_eq}
use Rattle.std.specs.declared.alloc.Global.{Global}
use Rattle.std.specs.declared.string.String.{String}
use Rattle.pl_base.specs.FileMap.{slash, path_below}
use Rattle.pl_base.specs.declared.files.Entry.{Entry}

-- whether the bytes are one part of a path
abbrev pub is_part : List ℕ → Bool
is_part name = not (nat_eq (length name) 0) && not (list_any (nat_eq slash) name)

-- what a held path says of a name below a path: nothing, that it is a file (false), or that it is a folder (true)
unfoldable pub told_of : List ℕ → List ℕ → List ℕ → Option Bool
told_of path name held =
    cond (is_part name)
    (cond (starts_with nat_eq held (path_below path name ++ slash ∷ [])) (Some true) (cond (bytes_eq (path_below path name) held) (Some false) None))
    None

-- a name is known where either says so, and a folder where either says that it is one
abbrev pub joined : Option Bool → Option Bool → Option Bool
joined None other = other
joined (Some folder) None = Some folder
joined (Some folder) (Some other) = Some (folder || other)

-- what all held paths say of it together
abbrev pub told_by_all : List ℕ → List ℕ → List (String Global) → Option Bool
told_by_all path name [] = None
told_by_all path name (held ∷ others) = joined (told_of path name (string_bytes held)) (told_by_all path name others)

-- the entries of names, each with whether it is a folder
abbrev pub entries_of : List (String Global × Bool) → List Entry
entries_of names = map (λ e. record { name = string_bytes e.0; folder = e.1 }) names
