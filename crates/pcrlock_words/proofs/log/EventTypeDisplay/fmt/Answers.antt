use Rattle.hash_bank.proofs.Digits.{IsUtf8-encode_lower}
use Rattle.pcrlock_words.proofs.log.EventTypeDisplay.fmt.Goals as goal

-- hexadecimal digits are text
pub unreachable-requires-in_default-from_utf8 : goal.unreachable-requires-in_default-from_utf8
unreachable-requires-in_default-from_utf8 g c =
    c.in_default-from_utf8.ensures.cases.0 (rw c.in-Ok.ensures.written (IsUtf8-encode_lower c.to_be_bytes.result))
