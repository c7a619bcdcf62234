-- Commands that read files and then change some, and use nothing else.
use Rattle.std.specs.Prelude.{◌≡◌, ℕ, List, [], Option, Some, Result, Ok, Err}
use Rattle.pl_base.specs.FileMap.{FileMap}
use Rattle.pcrlock_answer.specs.declared.answer.Answer.{Answer}
use Rattle.pcrlock_line.specs.declared.reply.Reply.{Reply}
use Rattle.pcrlock_line.specs.Machine.{Machine}
use Rattle.pcrlock_line.specs.Outcome.{Ending, Fine, Refused, Outcome, ending_of}
use Rattle.pcrlock_deeds.specs.Acts.{FileStep, changed_machine, changed_stops, files_then}

-- the text that such a command prints, and its changes
pub record Work : Type 0 where
  pub text : List ℕ
  pub changes : List FileStep

-- how it ends: with its text, or with the answer for which it does nothing
abbrev pub ending_in : Result Work Answer → Ending
ending_in (Ok work) = Fine work.text
ending_in (Err answer) = Refused answer

-- what it changes
abbrev pub changes_in : Result Work Answer → List FileStep
changes_in (Ok work) = work.changes
changes_in (Err answer) = []

-- what it comes to
abbrev pub changing_line : Result Work Answer → Machine → Outcome
changing_line given m = record {
  ending = ending_in given;
  after = changed_machine (changes_in given) m;
  hashed = [];
  stops = changed_stops (changes_in given) m;
}

-- the reply is that of the work, and the files are told as they are after all of its changes
pub record IsDone (held : FileMap) (now : Option FileMap) (reply : Reply) (given : Result Work Answer) : Type 0 where
  pub ending : ending_of reply ≡ ending_in given
  pub files : now ≡ Some (files_then (changes_in given) held)
