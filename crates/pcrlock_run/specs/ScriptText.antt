-- The text of a script, which stands in a file.
use Rattle.std.specs.Prelude.{ℕ, nat_lt, if◌then◌else◌, List, length, codes, String, Result, Ok, Err}
use Rattle.std.specs.Str.Lossy.{utf8_valid_len}
use Rattle.std.specs.String.{string_bytes}
use Rattle.pl_base.specs.FileMap.{FileMap}
use Rattle.pcrlock_answer.specs.declared.answer.Answer.{Answer}
use Rattle.pcrlock_answer.specs.declared.answer.Answer.TheVariants as answers
use Rattle.pcrlock_answer.specs.declared.place.Place.TheVariants.{At}
use Rattle.pcrlock_line.specs.Content.{Content, Missing, TooLarge, Bytes, content_of}
use Rattle.pcrlock_run.specs.Lines.{line_count}

-- the most bytes of a script, 4 MiB, and the most lines
abbrev pub script_bytes_limit : ℕ
script_bytes_limit = 4194304

abbrev pub script_lines_limit : ℕ
script_lines_limit = 65536

-- the text, unless it has too many lines
abbrev pub few_lines : List ℕ → Result (List ℕ) Answer
few_lines text = if nat_lt script_lines_limit (line_count text) then Err (answers.Limit (codes "lines") 65537) else Ok text

-- the bytes of the file, unless they are no UTF-8: the place is that of the first byte at which they aren't
abbrev pub text_from : List ℕ → List ℕ → Result (List ℕ) Answer
text_from file bytes = if nat_lt (utf8_valid_len bytes) (length bytes) then Err (answers.Malformed file (At (utf8_valid_len bytes))) else few_lines bytes

-- by what stands at the path
abbrev pub text_in : List ℕ → Content → Result (List ℕ) Answer
text_in file Missing = Err (answers.NoSuchFile file)
text_in file (TooLarge size) = Err (answers.Limit (codes "script-bytes") size)
text_in file (Bytes bytes) = text_from file bytes

-- the text of the script in the file, or why there is none
unfoldable pub script_text : FileMap → List ℕ → Result (List ℕ) Answer
script_text files file = text_in file (content_of files file script_bytes_limit)

-- what was read
abbrev pub text_read : {Z : Type 0} → Result (String Z) Answer → Result (List ℕ) Answer
text_read (Ok text) = Ok (string_bytes text)
text_read (Err answer) = Err answer
