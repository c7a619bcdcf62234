-- The tree that component files give, file after file in the order of their places.
use Rattle.std.specs.Prelude.{◌≡◌, ◌⊎◌, ℕ, ◌+◌, ◌-◌, Bool, false, ◌==◌, List, [], ◌∷◌, ◌++◌, length, take, codes, slice_get, nat_lt, unwrap_or, Option, Some, None, Result, Ok, Err, if◌then◌else◌}
use Rattle.std.specs.FinMap.{get}
use Rattle.std.specs.Option.{option_or}
use Rattle.std.specs.Str.{bytes_eq}
use Rattle.pl_base.specs.FileMap.{FileMap}
use Rattle.cel_record.specs.declared.error.RecordsError.{RecordsError}
use Rattle.cel_record.specs.declared.error.RecordsError.TheVariants as records
use Rattle.cel_record.specs.ComponentText.{component_of}
use Rattle.cel_record.specs.Spelled.{Spelled}
use Rattle.component_tree.specs.declared.error.TreeLimit.{TreeLimit}
use Rattle.component_tree.specs.declared.error.TreeLimit.TheVariants.{FileBytes, Components, Variants, Records, Total}
use Rattle.component_tree.specs.declared.error.TreeError.{TreeError}
use Rattle.component_tree.specs.declared.error.TreeError.TheVariants as errors
use Rattle.component_tree.specs.declared.place.Place.{Place}
use Rattle.component_tree.specs.Limits.{byte_limit, variant_limit, component_limit, total_limit}
use Rattle.component_tree.specs.Names.{file_ending, stem_of}
use Rattle.component_tree.specs.PlainTree.{PlainVariant, PlainComponent, records_in_all}
use Rattle.component_tree.specs.Step.{◌>>=◌}
use Rattle.component_tree.specs.Taken.{Taken, taken_in}

-- why the file at a path is refused
abbrev pub refusal_of : List ℕ → RecordsError → TreeError
refusal_of path records.NotJson = errors.Malformed path records.NotJson
refusal_of path records.NotRecords = errors.Malformed path records.NotRecords
refusal_of path (records.BadRecord number kind) = errors.Malformed path (records.BadRecord number kind)
refusal_of path records.TooMany = errors.TooMany Records
refusal_of path records.Memory = errors.Memory

-- the refusal given, or another where memory ran out
abbrev pub IsRefusalOr : TreeError → TreeError → TreeError → Type 0
IsRefusalOr other given refusal = (refusal ≡ given) ⊎ (refusal ≡ other)

abbrev pub some_records : List ℕ → Result (List Spelled) RecordsError → Result (Option (List Spelled)) TreeError
some_records path (Ok rs) = Ok (Some rs)
some_records path (Err e) = Err (refusal_of path e)

-- the records of a file, and none where it is empty
abbrev pub records_of : List ℕ → List ℕ → Result (Option (List Spelled)) TreeError
records_of path [] = Ok None
records_of path (b ∷ bytes) = some_records path (component_of (b ∷ bytes))

abbrev pub records_found : List ℕ → Option (List ℕ) → Result (Option (List Spelled)) TreeError
records_found path None = Ok None
records_found path (Some bytes) =
    if nat_lt byte_limit (length bytes) then Err (errors.TooMany (FileBytes (length bytes))) else records_of path bytes

-- the records of the file at a path
abbrev pub records_at : FileMap → List ℕ → Result (Option (List Spelled)) TreeError
records_at files path = records_found path (get files path)

-- `-` for a component's own file, else the file's name without its ending
abbrev pub variant_name : Option (List ℕ) → List ℕ
variant_name None = codes "-"
variant_name (Some file) = unwrap_or (stem_of file_ending file) file

-- the last component
abbrev pub last_of : List PlainComponent → Option PlainComponent
last_of components = slice_get components (length components - 1)

-- whether the last component has the id
abbrev pub has_id : Option PlainComponent → List ℕ → Bool
has_id None id = false
has_id (Some c) id = bytes_eq c.id id

-- one more variant of the last component, c
abbrev pub grown : List PlainComponent → PlainComponent → PlainVariant → List PlainComponent
grown components c v = take (length components - 1) components ++ record { id = c.id; variants = c.variants ++ v ∷ [] } ∷ []

-- one more variant, of the last component where it has the id, else of a new one
abbrev pub added_to : Option PlainComponent → List PlainComponent → List ℕ → PlainVariant → List PlainComponent
added_to None components id v = components ++ record { id = id; variants = v ∷ [] } ∷ []
added_to (Some c) components id v =
    if bytes_eq c.id id then grown components c v else components ++ record { id = id; variants = v ∷ [] } ∷ []

abbrev pub added : List PlainComponent → List ℕ → PlainVariant → List PlainComponent
added components id v = added_to (last_of components) components id v

-- the limit that a further component passes
abbrev pub component_passes : List PlainComponent → Option TreeLimit
component_passes components = if length components == component_limit then Some Components else None

-- the limit that a further variant passes, in the last component or in a new one
abbrev pub variant_passes : Option PlainComponent → List PlainComponent → List ℕ → Option TreeLimit
variant_passes None components id = component_passes components
variant_passes (Some c) components id =
    if bytes_eq c.id id then (if length c.variants == variant_limit then Some Variants else None) else component_passes components

-- the first limit that a further variant with so many records passes: of variants, of components, of records in all
abbrev pub passes : List PlainComponent → List ℕ → ℕ → Option TreeLimit
passes components id records =
    option_or (variant_passes (last_of components) components id) (if nat_lt total_limit (records_in_all components + records) then Some Total else None)

-- the components, unless a limit is passed
abbrev pub within : Option TreeLimit → List PlainComponent → Result (List PlainComponent) TreeError
within None components = Ok components
within (Some limit) components = Err (errors.TooMany limit)

-- the components with the records of the file of a place
abbrev pub with_records : List PlainComponent → Place → List Spelled → Result (List PlainComponent) TreeError
with_records components place rs =
    within (passes components place.id (length rs)) (added components place.id (record { name = variant_name place.file; records = rs }))

abbrev pub with_found : List PlainComponent → Place → Option (List Spelled) → Result (List PlainComponent) TreeError
with_found components place None = Ok components
with_found components place (Some rs) = with_records components place rs

-- the components with what the file at a path gives
abbrev pub with_file : FileMap → List PlainComponent → Place → List ℕ → Result (List PlainComponent) TreeError
with_file files components place path = records_at files path >>= λ found. with_found components place found

-- the files after those whose components are given
abbrev pub loaded : FileMap → List PlainComponent → Taken → Result (List PlainComponent) TreeError
loaded files components [] = Ok components
loaded files components (e ∷ taken) = with_file files components e.0 e.1 >>= λ more. loaded files more taken

-- the components that the folders give, or the first refusal
unfoldable pub tree_in : FileMap → List (List ℕ) → Result (List PlainComponent) TreeError
tree_in files folders = taken_in files folders >>= λ taken. loaded files [] taken
