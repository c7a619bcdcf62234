-- The text of a userspace log (RFC 7464, section 2.2): each record between a separator and a line feed.
use Rattle.std.specs.Prelude.{ℕ, List, [], ◌∷◌, ◌++◌, flat_map}
use Rattle.cel_record.specs.Spelled.{Spelled}
use Rattle.cel_record.specs.Written.{record_text}

-- a record behind its separator
abbrev pub piece_text : Spelled → List ℕ
piece_text r = record_text r ++ 0x0A ∷ []

abbrev pub written_text : Spelled → List ℕ
written_text r = 0x1E ∷ piece_text r

abbrev pub seq_text : List Spelled → List ℕ
seq_text rs = flat_map written_text rs
