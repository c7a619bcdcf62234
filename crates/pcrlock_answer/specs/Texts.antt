-- The lines that are printed for each answer and each command. Numbers are decimal, digests and handles
-- hexadecimal in lower case.
use Rattle.std.specs.Prelude.{ℕ, ◌==◌, Bool, true, false, if◌then◌else◌, List, [], ◌∷◌, ◌++◌, codes, length, map, Option, None, Some}
use Rattle.std.specs.Char.{is_ascii_control}
use Rattle.std.specs.Fmt.{decimal}
use Rattle.hex.specs.Hex.{encode_lower}
use Rattle.hash_bank.specs.Hash.{name_in}
use Rattle.policy_digest.specs.Mask.{pcrs_of}
use Rattle.pl_text.specs.Texts.{handle_text, mask_text}
use Rattle.pcrlock_answer.specs.declared.place.Place.{Place}
use Rattle.pcrlock_answer.specs.declared.place.Place.TheVariants.{At, Json, Records, BadName, Rule}
use Rattle.pcrlock_answer.specs.declared.answer.Answer.{Answer}
use Rattle.pcrlock_answer.specs.declared.answer.Answer.TheVariants.{NotForeseen, NotLiteral, BadWords, Malformed, NoSuchFile, Limit, CounterEnd, ReadFault, WriteFault, EntropyFault, TpmFault, Memory, NoToken, NoObject, WrongBinding, SessionsFull, BankAbsent, NoDigest, NothingProtected, NoPolicy, NoIndex, UnwrittenIndex, IndexTaken, Outdated, PinRefused, NoSeparator, NotProved}

-- the line feed at the end of each line
abbrev pub line_end : List ℕ
line_end = 10 ∷ []

-- the handle of the sealed object
unfoldable pub enrolled_text : ℕ → List ℕ
enrolled_text handle = codes "enrolled " ++ handle_text handle ++ line_end

-- the key that was opened
unfoldable pub key_text : List ℕ → List ℕ
key_text key = codes "key " ++ encode_lower key ++ line_end

-- how many records there were
unfoldable pub records_text : ℕ → List ℕ
records_text count = codes "records " ++ decimal count ++ line_end

-- the status of a script's line
unfoldable pub status_text : ℕ → List ℕ
status_text status = codes "= " ++ decimal status ++ line_end

-- where something is malformed
abbrev pub place_text : Place → List ℕ
place_text (At place) = decimal place
place_text Json = codes "json"
place_text Records = codes "records"
place_text BadName = codes "name"
place_text (Rule name) = codes "rule " ++ name

-- which counter is at its end
abbrev pub counter_text : Bool → List ℕ
counter_text true = codes "writes"
counter_text false = codes "update"

-- a row that isn't met: of one PCR its value, of several the digest of their values
abbrev pub unmet_text : ℕ → List ℕ → List ℕ
unmet_text pcrs now =
    if length (pcrs_of pcrs) == 1
    then codes "not foreseen: pcr " ++ mask_text pcrs ++ codes " holds " ++ encode_lower now
    else codes "not foreseen: pcrs " ++ mask_text pcrs ++ codes " hold " ++ encode_lower now

-- what an answer says, in words
unfoldable pub answer_words : Answer → List ℕ
answer_words (NotForeseen pcrs now) = unmet_text pcrs now
answer_words (NotLiteral pcr now sealed) = codes "not literal: pcr " ++ decimal pcr ++ codes " holds " ++ encode_lower now ++ codes ", sealed to " ++ encode_lower sealed
answer_words BadWords = codes "bad words"
answer_words (Malformed path place) = codes "malformed: " ++ path ++ codes ": " ++ place_text place
answer_words (NoSuchFile path) = codes "no such file: " ++ path
answer_words (Limit kind number) = codes "limit: " ++ kind ++ codes " " ++ decimal number
answer_words (CounterEnd writes) = codes "counter at its end: " ++ counter_text writes
answer_words ReadFault = codes "read fault"
answer_words WriteFault = codes "write fault"
answer_words EntropyFault = codes "entropy fault"
answer_words TpmFault = codes "tpm fault"
answer_words Memory = codes "no memory"
answer_words (NoToken path) = codes "no token: " ++ path
answer_words (NoObject handle) = codes "no object: " ++ handle_text handle
answer_words (WrongBinding session object) = codes "wrong binding: session " ++ encode_lower session ++ codes ", object " ++ encode_lower object
answer_words SessionsFull = codes "sessions full: 64"
answer_words (BankAbsent bank) = codes "bank absent: " ++ name_in bank
answer_words (NoDigest component variant place) = codes "no digest: " ++ component ++ codes " " ++ variant ++ codes " " ++ decimal place
answer_words NothingProtected = codes "nothing protected"
answer_words (NoPolicy path) = codes "no policy: " ++ path
answer_words (NoIndex handle) = codes "no index: " ++ handle_text handle
answer_words (UnwrittenIndex handle) = codes "unwritten index: " ++ handle_text handle
answer_words (IndexTaken handle name) = codes "index taken: " ++ handle_text handle ++ codes " " ++ encode_lower name
answer_words (Outdated index file) = codes "outdated: index " ++ encode_lower index ++ codes ", file " ++ encode_lower file
answer_words (PinRefused given index) = codes "pin refused: given " ++ encode_lower given ++ codes ", index " ++ encode_lower index
answer_words (NoSeparator pcr) = codes "no separator: pcr " ++ decimal pcr
answer_words (NotProved line) = codes "not proved: line " ++ decimal line

-- a byte as it is shown: a control byte, below 0x20 or 0x7F, stands as `?`
abbrev pub shown_byte : ℕ → ℕ
shown_byte byte = if is_ascii_control byte then 63 else byte

-- a text as it is shown, so that no path and no name reaches a terminal as a command to it
abbrev pub shown : List ℕ → List ℕ
shown text = map shown_byte text

-- the line of an answer on standard error: its words as they are shown, and the line feed at their end
unfoldable pub answer_text : Answer → List ℕ
answer_text answer = shown (answer_words answer) ++ line_end

-- ---- what further commands print

-- a pin that was drawn
unfoldable pub pin_text : List ℕ → List ℕ
pin_text pin = codes "pin " ++ encode_lower pin ++ line_end

-- how many early and late records a lock of the firmware wrote, or of a raw lock its one record
abbrev pub further_text : Option ℕ → List ℕ
further_text None = []
further_text (Some late) = codes " " ++ decimal late

unfoldable pub locked_text : ℕ → Option ℕ → List ℕ
locked_text early late = codes "locked " ++ decimal early ++ further_text late ++ line_end

-- how many files an unlock removed
unfoldable pub unlocked_text : ℕ → List ℕ
unlocked_text count = codes "unlocked " ++ decimal count ++ line_end

-- how many proofs were made, and checked
unfoldable pub proved_text : ℕ → List ℕ
proved_text count = codes "proved " ++ decimal count ++ line_end

unfoldable pub checked_text : ℕ → List ℕ
checked_text count = codes "checked " ++ decimal count ++ line_end
