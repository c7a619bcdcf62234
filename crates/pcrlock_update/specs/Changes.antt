-- Changes of the TPM and of the policy file, one after the other.
use Rattle.std.specs.Prelude.{◌≡◌, ℕ, true, List, [], ◌∷◌, ◌++◌, codes, Option, None, Some, Result, Ok, Err}
use Rattle.std.specs.FinMap.{insert}
use Rattle.pl_base.specs.FileMap.{FileMap}
use Rattle.tpm_model.specs.declared.command.Command.{Command}
use Rattle.tpm_model.specs.declared.command.Command.TheVariants as command
use Rattle.tpm_model.specs.declared.parts.Parts.{Parts}
use Rattle.tpm_model.specs.declared.response.Response.{Response}
use Rattle.tpm_model.specs.declared.response.Response.TheVariants as answer
use Rattle.tpm_model.specs.declared.response.Refusal.{Refusal}
use Rattle.tpm_model.specs.declared.response.Refusal.TheVariants as refusal
use Rattle.tpm_model.specs.Respond.{respond}
use Rattle.tpm_device.specs.Stored.{Stored, Holds}
use Rattle.pcrlock_answer.specs.declared.answer.Answer.{Answer}
use Rattle.pcrlock_answer.specs.declared.answer.Answer.TheVariants as said
use Rattle.pcrlock_line.specs.declared.stop.Stop.{Stop}
use Rattle.pcrlock_line.specs.Machine.{Machine, Live, machine}
use Rattle.pcrlock_line.specs.Stopped.{StandsAmong}
use Rattle.pcrlock_update.specs.declared.change.Change.{Change}
use Rattle.pcrlock_update.specs.declared.change.Change.TheVariants as change
use Rattle.pcrlock_update.specs.declared.change.TpmChange.{TpmChange}
use Rattle.pcrlock_update.specs.declared.change.TpmChange.TheVariants as tpm

-- the TPM's command for a change
abbrev pub command_of : TpmChange → Command
command_of (tpm.Undefine index) = command.NvUndefine index
command_of (tpm.Define public) = command.NvDefine public
command_of (tpm.Write index pin value) = command.NvWrite index pin value
command_of (tpm.Evict object) = command.Evict object

-- the answer for which a change's refusal ends the changes; None where they go on, which is only where an object that is
-- taken away isn't there. Where a change is made as the commands make it, no other refusal comes than the ones named here
-- (`RefusedOnly`); another one is taken for want of memory
abbrev pub answer_for : TpmChange → Refusal → Option Answer
answer_for (tpm.Define public) refusal.TableFull = Some (said.Limit (codes "indices") 17)
answer_for (tpm.Write index pin value) (refusal.CounterEnd counter) = Some (said.CounterEnd true)
answer_for (tpm.Evict object) (refusal.Handle handle) = None
answer_for change other = Some said.Memory

abbrev pub refusal_in : TpmChange → Response → Option Answer
refusal_in change (answer.Refused why) = answer_for change why
refusal_in change other = None

-- what some changes came to: the answer for which they ended, if any; the machine afterwards; and the
-- machine after each number of them, from none on
pub record Made : Type 0 where
  pub refusal : Option Answer
  pub after : Live
  pub stops : List Machine

-- one change, why it was refused, and the machine after it; and then what else is to be done
abbrev pub made_next : Option Answer → Live → Live → (Live → Made) → Made
made_next None m n rest = let made = rest n in record { refusal = made.refusal; after = made.after; stops = machine m ∷ made.stops }
made_next (Some why) m n rest = record { refusal = Some why; after = n; stops = machine m ∷ machine n ∷ [] }

-- what a change of the TPM, or of the file at the path, answers and leaves
abbrev pub change_made : List ℕ → Change → Live → Option Answer × Live
change_made path (change.Tpm c) m = let r = respond (command_of c) m.state in (refusal_in c r.0, record m { state = r.1 })
change_made path (change.File bytes) m = (None, record m { files = insert m.files path bytes })

-- the changes in order, up to the first that is refused
abbrev pub changes_made : List ℕ → List Change → Live → Made
changes_made path [] m = record { refusal = None; after = m; stops = machine m ∷ [] }
changes_made path (c ∷ changes) m = made_next (change_made path c m).0 m (change_made path c m).1 (changes_made path changes)

-- some changes, and then what else is to be done where none of them was refused
abbrev pub made_after : Option Answer → Made → (Live → Made) → Made
made_after None made rest = let more = rest made.after in record { refusal = more.refusal; after = more.after; stops = made.stops ++ more.stops }
made_after (Some why) made rest = made

abbrev pub made_then : Made → (Live → Made) → Made
made_then made rest = made_after made.refusal made rest

-- the files are these; the state is live and stored
pub record Works (held : Option FileMap) (now : Option Parts) (kept : Option Stored) (m : Live) : Type 0 where
  pub files : held ≡ Some m.files
  pub live : now ≡ Some m.state
  pub stored : kept ≡ Some (Holds m.state)

-- changes came to this; after a stop some of them were made
abbrev pub CameTo : Result (Option Answer) Stop → Option FileMap → Option Parts → Option Stored → Made → Type 0
CameTo (Ok why) held now kept made = (why ≡ made.refusal) × Works held now kept made.after
CameTo (Err stop) held now kept made = StandsAmong held kept made.stops
