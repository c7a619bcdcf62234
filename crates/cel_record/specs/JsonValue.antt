-- The JSON value that bytes are (RFC 8259), and what stands in it, in the words of `serde_json`.
use Rattle.std.specs.Prelude.{ℕ, List, Option, None, option_and_then, if◌then◌else◌}
use Rattle.std.specs.Str.{is_utf8}
use Rattle.serde_json.specs.Data.{Data, Items}
use Rattle.serde_json.specs.Read.{read}
use Rattle.serde_json.specs.Find.{get, as_str, as_number, as_u64, as_array}

-- the value that bytes are: they are UTF-8, and `serde_json` reads them
unfoldable pub json_of : List ℕ → Option Data
json_of bytes = if is_utf8 bytes then read bytes else None

-- the text under a key, where the value is an object that has a text there
abbrev pub text_at : List ℕ → Data → Option (List ℕ)
text_at key d = option_and_then as_str (get key d)

-- the unsigned whole number under a key
abbrev pub unsigned_at : List ℕ → Data → Option ℕ
unsigned_at key d = option_and_then as_u64 (option_and_then as_number (get key d))

-- the members of the array under a key
abbrev pub array_at : List ℕ → Data → Option Items
array_at key d = option_and_then as_array (get key d)
