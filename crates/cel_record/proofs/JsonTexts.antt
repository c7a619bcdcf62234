-- What `serde_json` says of bytes, as `json_of` has it.
use Rattle.std.proofs.Common.{◌≡◌, List, ℕ, Bool, true, false, cond, Some, None, refl, IsUtf8}
use Rattle.std.proofs.lemmas.Str.{IsUtf8-from_is_utf8, is_utf8-from_IsUtf8}
use Rattle.std.specs.Str.{is_utf8}
use Rattle.serde_json.specs.Data.{Data}
use Rattle.serde_json.specs.Read.{read}
use Rattle.cel_record.specs.JsonValue.{json_of}

pub json_of-some : (bytes : List ℕ) (d : Data) → IsUtf8 bytes → read bytes ≡ Some d → json_of bytes ≡ Some d
unfolding json_of
json_of-some bytes d utf8 h = rw (is_utf8-from_IsUtf8 bytes utf8) h

none_by : (bytes : List ℕ) (b : Bool) → is_utf8 bytes ≡ b → (IsUtf8 bytes → read bytes ≡ None) → cond b (read bytes) None ≡ None
none_by bytes true is h = h (IsUtf8-from_is_utf8 bytes is)
none_by bytes false is h = refl

pub json_of-none : (bytes : List ℕ) → (IsUtf8 bytes → read bytes ≡ None) → json_of bytes ≡ None
unfolding json_of
json_of-none bytes h = none_by bytes (is_utf8 bytes) refl h

pub ruleset json_value = (json_of-some, json_of-none)
