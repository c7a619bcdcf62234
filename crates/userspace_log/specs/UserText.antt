-- Which bytes are a userspace log: a JSON text sequence (RFC 7464) of records, each text whole.
use Rattle.std.specs.Prelude.{ℕ, ◌+◌, ◌-◌, ◌==◌, ◌&&◌, List, [], ◌∷◌, length, slice_index, take, codes, Bool, not, is_some, Option, Some, None, Result, Ok, Err, if◌then◌else◌}
use Rattle.std.specs.Option.{ok_or}
use Rattle.std.specs.List.{slice_split}
use Rattle.serde_json.specs.Data.{Data}
use Rattle.serde_json.specs.Find.{as_object, get}
use Rattle.cel_record.specs.declared.kind.RecordKind.{RecordKind}
use Rattle.cel_record.specs.declared.kind.RecordKind.TheVariants.{NotJson}
use Rattle.cel_record.specs.JsonValue.{json_of}
use Rattle.cel_record.specs.RecordText.{record_of}
use Rattle.cel_record.specs.Spelled.{Spelled}
use Rattle.cel_record.specs.Step.{◌>>=◌}
use Rattle.userspace_log.specs.declared.error.SeqError.{SeqError}
use Rattle.userspace_log.specs.declared.error.SeqError.TheVariants.{BadSeparator, BadRecord, TooMany}
use Rattle.userspace_log.specs.Found.{Found, none_found, with_first}

-- the byte before each text, the record separator of ASCII (RFC 7464, section 2.2)
abbrev pub is_separator : ℕ → Bool
is_separator b = b == 0x1E

-- how many texts a log may have
abbrev pub text_limit : ℕ
text_limit = 4096

-- an object without the member `pcr`, which is no record of a PCR
abbrev pub is_skipped : Data → Bool
is_skipped d = is_some (as_object d) && not (is_some (get (codes "pcr") d))

-- the record that a value is, or nothing where it is skipped
abbrev pub value_says : Data → Result (Option Spelled) RecordKind
value_says d = if is_skipped d then Ok None else record_of d >>= λ r. Ok (Some r)

-- the same of the bytes of a JSON text
abbrev pub text_says : List ℕ → Result (Option Spelled) RecordKind
text_says text = ok_or (json_of text) NotJson >>= value_says

-- a text whose last byte is a line feed, without it
abbrev pub without_feed : List ℕ → Option (List ℕ)
without_feed text = if slice_index text (length text - 1) == 0x0A then Some (take (length text - 1) text) else None

-- a refusal of the text of this number
abbrev pub numbered : {A : Type 0} → ℕ → Result A RecordKind → Result A SeqError
numbered n (Ok x) = Ok x
numbered n (Err kind) = Err (BadRecord n kind)

-- the text of this number, which ends at this place
abbrev pub piece_says : ℕ → ℕ → List ℕ → Result (Option Spelled) SeqError
piece_says n end piece =
    if n == text_limit then Err TooMany
    else ok_or (without_feed piece) (BadSeparator end) >>= λ text. numbered n (text_says text)

-- what the pieces hold that stand behind n others, the first of them with its separator at this place
abbrev pub found_from : ℕ → ℕ → List (List ℕ) → Result Found SeqError
found_from n place [] = Ok none_found
found_from n place (p ∷ ps) =
    piece_says n (place + 1 + length p) p >>= λ said. found_from (n + 1) (place + 1 + length p) ps >>= λ f. Ok (with_first said f)

-- what a userspace log holds: its bytes are cut before each separator
abbrev pub log_of : List ℕ → Result Found SeqError
log_of [] = Ok none_found
log_of (b ∷ bs) = if is_separator b then found_from 0 0 (slice_split is_separator bs) else Err (BadSeparator 0)

-- the pieces of what is left, if anything is
abbrev pub pieces_of : Option (List ℕ) → List (List ℕ)
pieces_of None = []
pieces_of (Some bytes) = slice_split is_separator bytes
