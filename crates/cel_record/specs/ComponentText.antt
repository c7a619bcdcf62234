-- Which bytes are a component file, and of which records (systemd.pcrlock(5)).
use Rattle.std.specs.Prelude.{ℕ, ◌+◌, ◌==◌, List, [], ◌∷◌, ◌++◌, codes, Result, Ok, Err, if◌then◌else◌}
use Rattle.std.specs.Option.{ok_or, option_or}
use Rattle.serde_json.specs.Data.{Data, Items, no_items, item}
use Rattle.serde_json.specs.Find.{as_array}
use Rattle.cel_record.specs.declared.error.RecordsError.{RecordsError}
use Rattle.cel_record.specs.declared.error.RecordsError.TheVariants.{NotJson, NotRecords, BadRecord, TooMany}
use Rattle.cel_record.specs.declared.kind.RecordKind.{RecordKind}
use Rattle.cel_record.specs.JsonValue.{json_of, array_at}
use Rattle.cel_record.specs.RecordText.{record_of}
use Rattle.cel_record.specs.Spelled.{Spelled}
use Rattle.cel_record.specs.Step.{◌>>=◌}

-- how many records one file may have
abbrev pub record_limit : ℕ
record_limit = 256

-- a refusal of the record of this number
abbrev pub numbered : {A : Type 0} → ℕ → Result A RecordKind → Result A RecordsError
numbered n (Ok x) = Ok x
numbered n (Err kind) = Err (BadRecord n kind)

-- the records with one more at the end
abbrev pub with_record : List Spelled → Result Spelled RecordsError → Result (List Spelled) RecordsError
with_record rs given = given >>= λ r. Ok (rs ++ r ∷ [])

-- the records of values that stand after n others
abbrev pub records_from : ℕ → Items → Result (List Spelled) RecordsError
records_from n no_items = Ok []
records_from n (item d ds) =
    if n == record_limit then Err TooMany
    else numbered n (record_of d) >>= λ r. records_from (n + 1) ds >>= λ rs. Ok (r ∷ rs)

-- the values that a file's value lists: those of an array, or of the array `records` of an object
abbrev pub values_of : Data → Result Items RecordsError
values_of d = ok_or (option_or (as_array d) (array_at (codes "records") d)) NotRecords

-- the records of a component file
abbrev pub component_of : List ℕ → Result (List Spelled) RecordsError
component_of bytes = do
  value ← ok_or (json_of bytes) NotJson
  values ← values_of value
  records_from 0 values
