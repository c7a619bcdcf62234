-- What a command comes to.
use Rattle.std.specs.Prelude.{◌≡◌, ℕ, Bool, true, false, List, [], ◌∷◌, Option}
use Rattle.pl_base.specs.FileMap.{FileMap}
use Rattle.hash_bank.specs.HashedString.{HashedString}
use Rattle.pcrlock_answer.specs.declared.answer.Answer.{Answer}
use Rattle.tpm_device.specs.Stored.{Stored}
use Rattle.pcrlock_line.specs.declared.stop.Stop.{Stop}
use Rattle.pcrlock_line.specs.declared.reply.Reply.{Reply}
use Rattle.pcrlock_line.specs.declared.reply.Reply.TheVariants as reply
use Rattle.pcrlock_line.specs.Machine.{Machine, Tells}

-- the end of a command: the text that it prints; the answer for which it didn't do its work; or the fault
-- or want of memory at which it stops, and with it the script that it stands in
pub data Ending : Type 0 where
  Fine : List ℕ → Ending
  Refused : Answer → Ending
  Stops : Stop → Ending

-- whether a command stops at this end
abbrev pub is_stop : Ending → Bool
is_stop (Fine text) = false
is_stop (Refused answer) = false
is_stop (Stops stop) = true

-- the end; the machine afterwards; the strings that were hashed; and the machine after each number of
-- the command's changes to files and TPM, from none to all
pub record Outcome : Type 0 where
  pub ending : Ending
  pub after : Machine
  pub hashed : List HashedString
  pub stops : List Machine

-- an end without a change
abbrev pub unchanged : Ending → Machine → Outcome
unchanged ending m = record { ending = ending; after = m; hashed = []; stops = m ∷ [] }

-- a refusal before anything is changed
abbrev pub refused_line : Answer → Machine → Outcome
refused_line answer m = unchanged (Refused answer) m

-- a reply as the end of a command
abbrev pub ending_of : Reply → Ending
ending_of (reply.Fine text) = Fine text.items
ending_of (reply.Refused answer) = Refused answer

-- the reply is the outcome's, and the objects tell the machine afterwards
pub record Gives (held : Option FileMap) (stored : Option Stored) (words : Option (List (List ℕ))) (reply : Reply) (outcome : Outcome) : Type 0 where
  pub ending : ending_of reply ≡ outcome.ending
  pub tells : Tells held stored words outcome.after
