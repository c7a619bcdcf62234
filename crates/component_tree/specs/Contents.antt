-- What stands at a path, as it was read.
use Rattle.std.specs.Prelude.{◌≤◌, List, length, map, Option, Some, None}
use Rattle.cel_record.specs.Spelled.{Spelled, spelled}
use Rattle.component_tree.specs.declared.reading.Contents.{Contents}
use Rattle.component_tree.specs.declared.reading.Contents.TheVariants as contents
use Rattle.component_tree.specs.Limits.{record_limit}

-- the records of a file; none of one that is empty or isn't there
abbrev pub records_in : Contents → Option (List Spelled)
records_in contents.Missing = None
records_in contents.Empty = None
records_in (contents.Records records) = Some (map spelled records)

-- no more records than one file may have
abbrev pub HasFew : Contents → Type 0
HasFew contents.Missing = Unit {0}
HasFew contents.Empty = Unit {0}
HasFew (contents.Records records) = length records ≤ record_limit
