use Rattle.std.proofs.Common.{◌≡◌, map, take}
use Rattle.pcrlock_answer.specs.Texts.{shown_byte}
use Rattle.pcrlock_answer.proofs.texts.shown.Given as goal

abbrev pub invariant-loop-byte : goal.invariant-loop-byte
invariant-loop-byte l = l.bytes.items ≡ map shown_byte (take l.byte-index l.text)
