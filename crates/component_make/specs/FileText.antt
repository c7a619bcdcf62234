-- The text of a made component file.
use Rattle.std.specs.Prelude.{ℕ, List, [], ◌∷◌, ◌++◌, codes}
use Rattle.cel_record.specs.Spelled.{Spelled}
use Rattle.cel_record.specs.Written.{component_text}

-- an object with an array's text under `records`, and a line feed
abbrev pub object_text : List ℕ → List ℕ
object_text array = codes "{\"records\":" ++ (array ++ 125 ∷ 10 ∷ [])

abbrev pub file_text : List Spelled → List ℕ
file_text records = object_text (component_text records)
