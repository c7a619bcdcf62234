-- What stands in a made file.
use Rattle.std.specs.Prelude.{ℕ, List}
use Rattle.cel_record.specs.Spelled.{Spelled}
use Rattle.component_make.specs.FileText.{file_text}

-- what stands in a file of these records
unfoldable pub made_text : List Spelled → List ℕ
made_text records = file_text records
