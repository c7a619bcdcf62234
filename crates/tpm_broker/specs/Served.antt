-- What the broker answers to a command of a client, and leaves.
use Rattle.std.specs.Prelude.{◌≡◌, ◌⊎◌, ℕ, nat_le, ◌==◌, Bool, true, false, not, if◌then◌else◌, List, map, length, Option, None, Some, Result, Ok, Err}
use Rattle.hash_bank.specs.declared.bank.Bank.{Bank}
use Rattle.tpm_model.specs.declared.command.Command.{Command}
use Rattle.tpm_model.specs.declared.command.Command.TheVariants as command
use Rattle.tpm_model.specs.declared.response.Response.{Response}
use Rattle.tpm_model.specs.declared.response.Response.TheVariants as answer
use Rattle.tpm_model.specs.declared.response.Refusal.{Refusal}
use Rattle.tpm_model.specs.declared.response.Refusal.TheVariants as refusal
use Rattle.tpm_model.specs.declared.parts.Parts.{Parts}
use Rattle.tpm_model.specs.Respond.{respond}
use Rattle.tpm_model.specs.SessionCommands.{session_handle}
use Rattle.tpm_model.specs.Sessions.{is_session_hash}
use Rattle.tpm_device.specs.Stored.{Stored, Holds}
use Rattle.tpm_device.specs.declared.device.ExecError.{ExecError}
use Rattle.tpm_device.specs.declared.device.ExecError.TheVariants as exec
use Rattle.tpm_broker.specs.declared.plan.Plan.{Plan}
use Rattle.tpm_broker.specs.declared.plan.Plan.TheVariants as plan
use Rattle.tpm_broker.specs.Clients.{Client, tpm_handle, with_started, without, without_all, client_at, changed}

-- the session that a command names
abbrev pub session_named : Command → Option ℕ
session_named (command.PolicyPcr session bank pcrs) = Some session
session_named (command.PolicyOr session list) = Some session
session_named (command.PolicyAuthorizeNv session index) = Some session
session_named (command.PolicyGetDigest session) = Some session
session_named (command.FlushSession session) = Some session
session_named (command.Unseal session handle) = Some session
session_named _ = None

-- the command with this session in place of the one that it names
abbrev pub on_session : ℕ → Command → Command
on_session tpm (command.PolicyPcr session bank pcrs) = command.PolicyPcr tpm bank pcrs
on_session tpm (command.PolicyOr session list) = command.PolicyOr tpm list
on_session tpm (command.PolicyAuthorizeNv session index) = command.PolicyAuthorizeNv tpm index
on_session tpm (command.PolicyGetDigest session) = command.PolicyGetDigest tpm
on_session tpm (command.FlushSession session) = command.FlushSession tpm
on_session tpm (command.Unseal session handle) = command.Unseal tpm handle
on_session tpm other = other

-- a start goes to the TPM where its hash is allowed and the client has room
abbrev pub start_plan : Bank → Client → Plan
start_plan hash client =
    if not (is_session_hash hash) then plan.WrongHash
    else if nat_le 4 (length client.sessions) then plan.Full
    else if nat_le 0x01000000 client.had then plan.End
    else plan.Pass

-- a session that is the client's is called by the TPM's handle
abbrev pub session_plan : ℕ → Option ℕ → Plan
session_plan own None = plan.NoSession own
session_plan own (Some tpm) = plan.PassOn tpm

-- a command that names a session goes to the TPM where the client has that session
abbrev pub named_plan : Option ℕ → Client → Plan
named_plan None client = plan.Pass
named_plan (Some own) client = session_plan own (tpm_handle own client)

-- what the broker does with a client's command
abbrev pub plan_of : Command → Client → Plan
plan_of (command.StartSession hash) client = start_plan hash client
plan_of other client = named_plan (session_named other) client

-- the broker's own refusal, where the TPM gets nothing
abbrev pub own_refusal : Plan → Option Refusal
own_refusal plan.Pass = None
own_refusal (plan.PassOn tpm) = None
own_refusal (plan.NoSession own) = Some (refusal.Handle own)
own_refusal plan.WrongHash = Some refusal.Value
own_refusal plan.Full = Some refusal.SessionsFull
own_refusal plan.End = Some refusal.HandlesEnd

-- a handle that the TPM refused, as the client calls it: the session's own handle, but the object's of an
-- Unseal stays as it is
abbrev pub handle_told : Command → ℕ → ℕ
handle_told (command.PolicyPcr session bank pcrs) handle = session
handle_told (command.PolicyOr session list) handle = session
handle_told (command.PolicyAuthorizeNv session index) handle = session
handle_told (command.PolicyGetDigest session) handle = session
handle_told (command.FlushSession session) handle = session
handle_told (command.Unseal session object) handle = if handle == object then handle else session
handle_told other handle = handle

-- a refusal, as the client is told it
abbrev pub refusal_told : Command → Refusal → Refusal
refusal_told c (refusal.Handle handle) = refusal.Handle (handle_told c handle)
refusal_told c why = why

-- the TPM's answer, as the client is told it: a new session by the client's own handle
abbrev pub told : Command → Client → Response → Response
told c client (answer.Session handle) = answer.Session (session_handle client.had)
told c client (answer.Refused why) = answer.Refused (refusal_told c why)
told c client response = response

-- the clients after a command of client k that is done: a flush ends that session, a restart all sessions
abbrev pub clients_done : ℕ → Command → List Client → List Client
clients_done k (command.Restart locality banks) clients = map without_all clients
clients_done k (command.FlushSession session) clients = changed k (without session) clients
clients_done k other clients = clients

-- the clients after the TPM's answer to a command of client k
abbrev pub clients_after : ℕ → Command → Response → List Client → List Client
clients_after k c answer.Done clients = clients_done k c clients
clients_after k c (answer.Session handle) clients = changed k (with_started handle) clients
clients_after k c response clients = clients

-- an answer, and the clients and the TPM's state that are left
pub record Served : Type 0 where
  pub answer : Response
  pub clients : List Client
  pub state : Parts

-- where the TPM answers, by this answer and this state
abbrev pub settled : ℕ → Command → Response × Parts → List Client → Served
settled k c out clients = record {
  answer = told c (client_at k clients) out.0;
  clients = clients_after k c out.0 clients;
  state = out.1;
}

-- where the broker refuses by itself
abbrev pub unasked : Refusal → List Client → Parts → Served
unasked why clients s = record { answer = answer.Refused why; clients = clients; state = s }

-- a command of client k by the broker's plan
abbrev pub served_by : Plan → ℕ → Command → List Client → Parts → Served
served_by plan.Pass k c clients s = settled k c (respond c s) clients
served_by (plan.PassOn tpm) k c clients s = settled k c (respond (on_session tpm c) s) clients
served_by (plan.NoSession own) k c clients s = unasked (refusal.Handle own) clients s
served_by plan.WrongHash k c clients s = unasked refusal.Value clients s
served_by plan.Full k c clients s = unasked refusal.SessionsFull clients s
served_by plan.End k c clients s = unasked refusal.HandlesEnd clients s

-- a command of client k
abbrev pub served : ℕ → Command → List Client → Parts → Served
served k c clients s = served_by (plan_of c (client_at k clients)) k c clients s

-- an answer is this one, with these clients and this state left; want of memory leaves the state
abbrev pub ServeGives : Served → Parts → Result Response ExecError → List Client → Option Parts → Type 0
ServeGives out s (Ok response) clients live = (response ≡ out.answer) × (clients ≡ out.clients) × (live ≡ Some out.state)
ServeGives out s (Err exec.Failed) clients live = Unit {0}
ServeGives out s (Err exec.Memory) clients live = live ≡ Some s

-- what is stored afterwards: the state that is left; after a failure that or the one before
abbrev pub ServeStores : Served → Parts → Result Response ExecError → Option Stored → Type 0
ServeStores out s (Ok response) stored = stored ≡ Some (Holds out.state)
ServeStores out s (Err exec.Failed) stored = (stored ≡ Some (Holds s)) ⊎ (stored ≡ Some (Holds out.state))
ServeStores out s (Err exec.Memory) stored = stored ≡ Some (Holds s)

-- where the broker refuses by itself, that is the result, and neither the clients nor the device changed
abbrev pub RefusesItself : Option Refusal → Result Response ExecError → Type 0 → Type 0 → Type 0
RefusesItself None result same untouched = Unit {0}
RefusesItself (Some why) result same untouched = (result ≡ Ok (answer.Refused why)) × same × untouched

-- whether the device is ready afterwards: after a failure it isn't
abbrev pub still_ready : {A : Type 0} → Result A ExecError → Bool
still_ready (Ok value) = true
still_ready (Err exec.Failed) = false
still_ready (Err exec.Memory) = true
