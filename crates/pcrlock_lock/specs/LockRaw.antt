-- What `lock-raw` does: it makes a component file of the one record that some bytes are measured as.
use Rattle.std.specs.Prelude.{ℕ, List, [], ◌∷◌, codes, None, Result, Ok, Err}
use Rattle.component_make.specs.FileText.{file_text}
use Rattle.component_make.specs.RawRecord.{raw_record}
use Rattle.pcrlock_answer.specs.declared.answer.Answer.{Answer}
use Rattle.pcrlock_answer.specs.declared.answer.Answer.TheVariants as said
use Rattle.pcrlock_answer.specs.Texts.{locked_text}
use Rattle.pcrlock_line.specs.Content.{Content, Missing, TooLarge, Bytes, content_of}
use Rattle.pcrlock_line.specs.Machine.{Machine}
use Rattle.pcrlock_line.specs.Outcome.{Outcome}
use Rattle.pcrlock_deeds.specs.Acts.{Written}
use Rattle.pcrlock_deeds.specs.Deed.{keeps}
use Rattle.pcrlock_lock.specs.Changing.{Work, changing_line}

-- the most bytes that are measured
abbrev pub raw_limit : ℕ
raw_limit = 4194304

-- the text of the file of the one record
unfoldable pub raw_text : ℕ → List ℕ → List ℕ
raw_text pcr bytes = file_text (raw_record pcr bytes ∷ [])

-- the answer for a file of so many bytes, more than the limit
abbrev pub too_large : ℕ → Answer
too_large size = said.Limit (codes "raw-bytes") size

-- by what stands at the path: the output has the record of the bytes
abbrev pub raw_by : List ℕ → ℕ → List ℕ → Content → Result Work Answer
raw_by file pcr output Missing = Err (said.NoSuchFile file)
raw_by file pcr output (TooLarge size) = Err (too_large size)
raw_by file pcr output (Bytes bytes) = Ok (record { text = locked_text 1 None; changes = Written output (raw_text pcr bytes) keeps ∷ [] })

-- `lock-raw`, of the file at the path
abbrev pub lock_raw_line : List ℕ → ℕ → List ℕ → Machine → Outcome
lock_raw_line file pcr output m = changing_line (raw_by file pcr output (content_of m.files file raw_limit)) m
