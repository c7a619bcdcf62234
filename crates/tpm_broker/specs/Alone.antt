-- What a client would be answered if it were alone on the TPM.
use Rattle.std.specs.Prelude.{ℕ, ◌+◌, nat_le, ◌==◌, Bool, true, false, ◌&&◌, if◌then◌else◌, List, [], ◌∷◌, length}
use Rattle.hash_bank.specs.declared.bank.Bank.{Bank}
use Rattle.tpm_model.specs.declared.command.Command.{Command}
use Rattle.tpm_model.specs.declared.command.Command.TheVariants as command
use Rattle.tpm_model.specs.declared.response.Response.{Response}
use Rattle.tpm_model.specs.declared.response.Refusal.TheVariants as refusal
use Rattle.tpm_model.specs.declared.parts.Parts.{Parts}
use Rattle.tpm_model.specs.Refusing.{refused}
use Rattle.tpm_model.specs.Respond.{respond}
use Rattle.tpm_model.specs.SessionCommands.{start_session}
use Rattle.tpm_model.specs.Sessions.{is_session_hash}
use Rattle.tpm_broker.specs.declared.plan.Plan.{Plan}
use Rattle.tpm_broker.specs.declared.plan.Plan.TheVariants as plan
use Rattle.tpm_broker.specs.Clients.{Client, client_at}
use Rattle.tpm_broker.specs.Served.{served, start_plan}

-- whether a command is one on sessions
abbrev pub is_session_command : Command → Bool
is_session_command (command.StartSession hash) = true
is_session_command (command.PolicyPcr session bank pcrs) = true
is_session_command (command.PolicyOr session list) = true
is_session_command (command.PolicyAuthorizeNv session index) = true
is_session_command (command.PolicyGetDigest session) = true
is_session_command (command.FlushSession session) = true
is_session_command (command.Unseal session handle) = true
is_session_command _ = false

-- a start as on a TPM that has room for four sessions
abbrev pub start_of_four : Bank → Parts → Response × Parts
start_of_four hash s =
    if is_session_hash hash && nat_le 4 (length s.sessions) then refused refusal.SessionsFull s
    else start_session hash s

-- the answer and the next state of a TPM that has room for four sessions
abbrev pub respond_of_four : Command → Parts → Response × Parts
respond_of_four (command.StartSession hash) s = start_of_four hash s
respond_of_four other s = respond other s

-- a state without its sessions, in which no session was started
abbrev pub without_sessions : Parts → Parts
without_sessions s = record s { next_session = 0; sessions = [] }

-- the answers to client k's commands where the other clients' commands on sessions are left out
abbrev pub alone : ℕ → List (ℕ × Command) → Parts → List Response
alone k [] s = []
alone k (asked ∷ rest) s =
    if asked.0 == k then (let out = respond_of_four asked.1 s in out.0 ∷ alone k rest out.1)
    else if is_session_command asked.1 then alone k rest s
    else alone k rest (respond asked.1 s).1

-- the responses at the places of client k's commands
abbrev pub at_places : ℕ → List (ℕ × Command) → List Response → List Response
at_places k [] responses = []
at_places k (asked ∷ rest) [] = []
at_places k (asked ∷ rest) (response ∷ responses) =
    if asked.0 == k then response ∷ at_places k rest responses else at_places k rest responses

-- 1 for a command that the TPM gets as it is, else 0
abbrev pub one_if_passed : Plan → ℕ
one_if_passed plan.Pass = 1
one_if_passed (plan.PassOn tpm) = 0
one_if_passed (plan.NoSession own) = 0
one_if_passed plan.WrongHash = 0
one_if_passed plan.Full = 0
one_if_passed plan.End = 0

-- how many sessions the TPM starts at a command: one where it gets a start
abbrev pub starts : Command → Client → ℕ
starts (command.StartSession hash) client = one_if_passed (start_plan hash client)
starts other client = 0

-- how many sessions are started through the broker
abbrev pub sessions_started : List (ℕ × Command) → List Client → Parts → ℕ
sessions_started [] clients s = 0
sessions_started (asked ∷ rest) clients s =
    let out = served asked.0 asked.1 clients s in
    starts asked.1 (client_at asked.0 clients) + sessions_started rest out.clients out.state
