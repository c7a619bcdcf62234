-- The file of client commands that `broker` reads.
use Rattle.std.specs.Prelude.{ℕ, ◌<◌, All, List, Result, Ok, Err}
use Rattle.pl_base.specs.FileMap.{FileMap}
use Rattle.tpm_model.specs.declared.command.Command.{Command}
use Rattle.tpm_commands.specs.Clients.{client_commands_in}
use Rattle.pcrlock_answer.specs.declared.answer.Answer.{Answer}
use Rattle.pcrlock_line.specs.Content.{content_of}
use Rattle.pcrlock_exec.specs.Input.{commands_in, commands_limit}
use Rattle.pcrlock_broker.specs.declared.input.Asked.{Asked}
use Rattle.pcrlock_broker.specs.declared.input.Asked.TheVariants as asked

-- the commands of so many clients in the file at the path, or why there are none
unfoldable pub asked_at : FileMap → List ℕ → ℕ → Result (List (ℕ × Command)) Answer
asked_at files path clients = commands_in (client_commands_in clients) path (content_of files path commands_limit)

-- what was found, as a result
abbrev pub asked_found : Asked → Result (List (ℕ × Command)) Answer
asked_found (asked.Commands list) = Ok list
asked_found (asked.Refused answer) = Err answer

-- each command is of one of so many clients
abbrev pub AreOfClients : ℕ → Asked → Type 0
AreOfClients clients (asked.Commands list) = All (λ (one : ℕ × Command). one.0 < clients) list
AreOfClients clients (asked.Refused answer) = Unit {0}
