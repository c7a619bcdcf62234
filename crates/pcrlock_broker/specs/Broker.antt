-- What `broker` does.
use Rattle.std.specs.Prelude.{ℕ, List, [], ◌∷◌, ◌++◌, codes, flat_map, map, replicate, Result, Ok, Err}
use Rattle.std.specs.Fmt.{decimal}
use Rattle.tpm_model.specs.declared.command.Command.{Command}
use Rattle.tpm_model.specs.declared.command.Command.TheVariants as command
use Rattle.tpm_model.specs.declared.parts.Parts.{Parts}
use Rattle.tpm_model.specs.declared.response.Response.{Response}
use Rattle.tpm_commands.specs.Responses.{response_text}
use Rattle.tpm_broker.specs.declared.plan.Plan.{Plan}
use Rattle.tpm_broker.specs.declared.plan.Plan.TheVariants as plan
use Rattle.tpm_broker.specs.declared.rows.Handles.{Handles}
use Rattle.tpm_broker.specs.Clients.{Client, client_at, new_client}
use Rattle.tpm_broker.specs.Lists.{clients_left}
use Rattle.tpm_broker.specs.Served.{on_session, plan_of, served}
use Rattle.pcrlock_answer.specs.declared.answer.Answer.{Answer}
use Rattle.pcrlock_line.specs.Begun.{by_device}
use Rattle.pcrlock_line.specs.Machine.{Live, Machine}
use Rattle.pcrlock_line.specs.Outcome.{Fine, Outcome, refused_line}
use Rattle.pcrlock_exec.specs.Exec.{executed_line}
use Rattle.pcrlock_broker.specs.Input.{asked_at}

-- the clients of a new broker
abbrev pub new_clients : ℕ → List Client
new_clients count = replicate count new_client

-- ---- what is printed

-- the number of the client, a space, and the line of the answer
abbrev pub answer_line : ℕ → Response → List ℕ
answer_line client response = decimal client ++ codes " " ++ response_text response

-- the lines of all answers, each by the broker's rules for the clients and the state as they come
abbrev pub answers_text : List (ℕ × Command) → List Client → Parts → List ℕ
answers_text [] clients s = []
answers_text (asked ∷ rest) clients s =
    let out = served asked.0 asked.1 clients s in answer_line asked.0 out.answer ++ answers_text rest out.clients out.state

-- ---- what the TPM gets

-- the command, the same with the TPM's handle of the session, or nothing where the broker refuses by itself
abbrev pub passed_by : Plan → Command → List Command
passed_by plan.Pass c = c ∷ []
passed_by (plan.PassOn tpm) c = on_session tpm c ∷ []
passed_by (plan.NoSession own) c = []
passed_by plan.WrongHash c = []
passed_by plan.Full c = []
passed_by plan.End c = []

-- the same for each command as it comes
abbrev pub passed : List (ℕ × Command) → List Client → Parts → List Command
passed [] clients s = []
passed (asked ∷ rest) clients s =
    let out = served asked.0 asked.1 clients s in passed_by (plan_of asked.1 (client_at asked.0 clients)) asked.1 ++ passed rest out.clients out.state

-- a client leaves: its sessions are flushed, in order
abbrev pub flushes_of : Client → List Command
flushes_of client = map (λ (handles : Handles). command.FlushSession handles.tpm) client.sessions

-- all clients leave, in order
abbrev pub flushes : List Client → List Command
flushes clients = flat_map flushes_of clients

-- all that the TPM gets from the clients of a new broker, who leave behind their last command
abbrev pub brokered : ℕ → List (ℕ × Command) → Parts → List Command
brokered count list s = passed list (new_clients count) s ++ flushes (clients_left list (new_clients count) s)

-- ---- the line

-- the TPM executes what it gets, and the clients' answers are printed
abbrev pub brokered_line : ℕ → List (ℕ × Command) → Live → Outcome
brokered_line count list m = record (executed_line (brokered count list m.state) m) { ending = Fine (answers_text list (new_clients count) m.state) }

-- by what reading the file of commands gave
abbrev pub asked_line : List ℕ → ℕ → Result (List (ℕ × Command)) Answer → Machine → Outcome
asked_line path count (Err answer) m = refused_line answer m
asked_line path count (Ok list) m = by_device m.device path m (brokered_line count list)

-- `broker` over what is stored at the path, with the file of commands of so many clients
abbrev pub broker_line : List ℕ → List ℕ → ℕ → Machine → Outcome
broker_line path commands count m = asked_line path count (asked_at m.files commands count) m
