-- What stands at a path, under a limit of bytes.
use Rattle.std.specs.Prelude.{ℕ, nat_lt, if◌then◌else◌, List, length, Option, None, Some}
use Rattle.std.specs.FinMap.{get}
use Rattle.pl_base.specs.FileMap.{FileMap}
use Rattle.pcrlock_line.specs.declared.reading.Found.{Found}
use Rattle.pcrlock_line.specs.declared.reading.Found.TheVariants as found

-- no file; one with more bytes than the limit; or the bytes
pub data Content : Type 0 where
  Missing : Content
  TooLarge : ℕ → Content
  Bytes : List ℕ → Content

-- the bytes, unless they are more than the limit
abbrev pub within : ℕ → List ℕ → Content
within limit bytes = if nat_lt limit (length bytes) then TooLarge (length bytes) else Bytes bytes

-- what stands there, given what the map has
abbrev pub content_at : Option (List ℕ) → ℕ → Content
content_at None limit = Missing
content_at (Some bytes) limit = within limit bytes

-- what stands at the path
abbrev pub content_of : FileMap → List ℕ → ℕ → Content
content_of files path limit = content_at (get files path) limit

-- what was found, as a content
abbrev pub content_found : Found → Content
content_found found.Missing = Missing
content_found (found.TooLarge size) = TooLarge size
content_found (found.Bytes bytes) = Bytes bytes.items
