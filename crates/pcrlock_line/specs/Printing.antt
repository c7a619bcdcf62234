-- Commands that look and print, and change nothing.
use Rattle.std.specs.Prelude.{ℕ, List, Result, Ok, Err}
use Rattle.pcrlock_answer.specs.declared.answer.Answer.{Answer}
use Rattle.pcrlock_line.specs.Machine.{Machine}
use Rattle.pcrlock_line.specs.Outcome.{Ending, Fine, Refused, Outcome, unchanged}

-- the text, or the answer for which there is none
abbrev pub printed : Result (List ℕ) Answer → Ending
printed (Ok text) = Fine text
printed (Err answer) = Refused answer

-- the machine stays as it is
abbrev pub printed_line : Result (List ℕ) Answer → Machine → Outcome
printed_line text m = unchanged (printed text) m
