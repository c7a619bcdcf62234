-- `tpm-exec` as an act.
use Rattle.std.specs.Prelude.{ℕ, List, [], ◌∷◌, Result, Ok, Err}
use Rattle.tpm_model.specs.declared.command.Command.{Command}
use Rattle.tpm_model.specs.Events.{Other}
use Rattle.tpm_model.specs.World.{World}
use Rattle.pcrlock_answer.specs.declared.answer.Answer.{Answer}
use Rattle.pcrlock_line.specs.Machine.{Live, Machine}
use Rattle.pcrlock_line.specs.Outcome.{Ending, Fine, Refused}
use Rattle.pcrlock_deeds.specs.Acts.{Act, says, works}
use Rattle.pcrlock_deeds.specs.Deed.{Deed, ends, sees, sends}
use Rattle.pcrlock_exec.specs.Exec.{exec_text}
use Rattle.pcrlock_exec.specs.Input.{commands_at}

-- these commands go to the TPM as those of anyone, whatever it answers
abbrev pub sending : List Command → Ending → Deed
sending [] last = ends last
sending (command ∷ commands) last = sends (Other command) (λ response. sending commands last)

-- the commands of a file, and the lines of all answers
abbrev pub executing : List Command → Deed
executing commands = sees (λ (m : Live). sending commands (Fine (exec_text commands m.state)))

-- by what reading the file of commands gave
abbrev pub exec_by : Result (List Command) Answer → Act
exec_by (Err why) = says (Refused why)
exec_by (Ok commands) = works (executing commands)

-- `tpm-exec`
unfoldable pub exec_act : List ℕ → Machine → World → Act
exec_act commands m w = exec_by (commands_at m.files commands)
