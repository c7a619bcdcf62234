-- What `tpm-exec` does.
use Rattle.std.specs.Prelude.{ℕ, List, [], ◌∷◌, ◌++◌, map, flat_map, Result, Ok, Err}
use Rattle.hash_bank.specs.HashedString.{HashedString}
use Rattle.tpm_model.specs.declared.command.Command.{Command}
use Rattle.tpm_model.specs.declared.parts.Parts.{Parts}
use Rattle.tpm_model.specs.Events.{Event, Other}
use Rattle.tpm_model.specs.Respond.{respond}
use Rattle.tpm_model.specs.Strings.{command_strings}
use Rattle.tpm_model.specs.World.{World}
use Rattle.tpm_worlds.specs.CommandLists.{responses_to, state_after}
use Rattle.tpm_worlds.specs.EventLists.{world_after_all}
use Rattle.tpm_commands.specs.Responses.{response_text}
use Rattle.pcrlock_answer.specs.declared.answer.Answer.{Answer}
use Rattle.pcrlock_line.specs.Begun.{by_device}
use Rattle.pcrlock_line.specs.Machine.{Machine, Live, machine}
use Rattle.pcrlock_line.specs.Outcome.{Outcome, Fine, refused_line}
use Rattle.pcrlock_exec.specs.Input.{commands_at}

-- the lines of all answers, refusals among them
abbrev pub exec_text : List Command → Parts → List ℕ
exec_text commands s = flat_map response_text (responses_to commands s)

-- the strings of each command, as it comes
abbrev pub exec_strings : List Command → Parts → List HashedString
exec_strings [] s = []
exec_strings (command ∷ commands) s = command_strings command s ++ exec_strings commands (respond command s).1

-- the state before the first command, and after each
abbrev pub exec_states : List Command → Parts → List Parts
exec_states [] s = s ∷ []
exec_states (command ∷ commands) s = s ∷ exec_states commands (respond command s).1

-- the machine with another state
abbrev pub at_state : Live → Parts → Machine
at_state m s = machine (record m { state = s })

-- every command goes to the TPM; a refusal is an answer like any other
abbrev pub executed_line : List Command → Live → Outcome
executed_line commands m = record {
  ending = Fine (exec_text commands m.state);
  after = at_state m (state_after commands m.state);
  hashed = exec_strings commands m.state;
  stops = map (at_state m) (exec_states commands m.state);
}

-- by what reading the file of commands gave
abbrev pub exec_outcome : List ℕ → Result (List Command) Answer → Machine → Outcome
exec_outcome path (Err answer) m = refused_line answer m
exec_outcome path (Ok commands) m = by_device m.device path m (executed_line commands)

-- `tpm-exec` over what is stored at the path, with the file of commands
abbrev pub tpm_exec_line : List ℕ → List ℕ → Machine → Outcome
tpm_exec_line path commands m = exec_outcome path (commands_at m.files commands) m

-- the commands as events: they are those of anyone
abbrev pub events_of : List Command → List Event
events_of commands = map Other commands

-- the world after the commands
abbrev pub exec_world : List Command → Parts → World → World
exec_world commands s w = world_after_all (events_of commands) s w
