-- A race of clients for one object: the published tables, and where each client stands. One event is one command of
-- the TPM.
use Rattle.std.specs.Prelude.{◌≡◌, ◌<◌, ◌≤◌, ℕ, Bool, true, false, List, [], ◌∷◌, length, slice_get, slice_set, Option, Some, None}
use Rattle.std.specs.List.{AllByRecursion}
use Rattle.policy_digest.specs.declared.table.Table.{Table}
use Rattle.policy_digest.specs.Plain.{plain_table}
use Rattle.policy_digest.specs.PlainTable.{PlainTable, root_of}
use Rattle.policy_digest.specs.Table.{valid_table}
use Rattle.policy_walk.specs.Choosing.{content_of}
use Rattle.tpm_model.specs.declared.command.Command.{Command}
use Rattle.tpm_model.specs.declared.command.Command.TheVariants as command
use Rattle.tpm_model.specs.declared.response.Response.{Response}
use Rattle.tpm_model.specs.declared.response.Response.TheVariants as answer
use Rattle.tpm_model.specs.Fits.{fits}
use Rattle.race_core.specs.declared.client.Client.{Client}
use Rattle.race_core.specs.declared.event.Event.{Event}
use Rattle.race_core.specs.declared.event.Event.TheVariants as event
use Rattle.race_core.specs.declared.outcome.Outcome.{Outcome}
use Rattle.race_core.specs.declared.outcome.Outcome.TheVariants as outcome
use Rattle.race_core.specs.Clients.{chooses, client_after, client_command, outcome_of}

-- a race: the index, the object, the published tables, the newest last, and the clients
pub record Racing : Type 0 where
  pub index : ℕ
  pub object : ℕ
  pub tables : List PlainTable
  pub clients : List Client

-- one or two valid tables
pub record ArePublished (tables : List Table) : Type 0 where
  pub some : 1 ≤ length tables
  pub few : length tables ≤ 2
  pub valid : AllByRecursion (λ (t : Table). valid_table t ≡ true) tables

-- an event of a race of so many clients: a client's step, anyone's command, or an update to a valid table whose root
-- is given with it
abbrev pub IsEvent : ℕ → Event → Type 0
IsEvent clients (event.Step client) = client < clients
IsEvent clients (event.Stranger command) = Unit {0}
IsEvent clients (event.Update pin table root) = (valid_table table ≡ true) × (root ≡ root_of (plain_table table))

-- ---- an event's command

abbrev pub command_in : ℕ → ℕ → Option Client → Option Command
command_in index object None = None
command_in index object (Some client) = client_command index object client

-- a client's next, anyone's own, or the write of the table's root
abbrev pub race_command : Racing → Event → Option Command
race_command race (event.Step client) = command_in race.index race.object (slice_get race.clients client)
race_command race (event.Stranger command) = Some command
race_command race (event.Update pin table root) = Some (command.NvWrite race.index pin (content_of (root_of (plain_table table))))

-- the command is there, and the answer fits it
abbrev pub IsAnswer : Option Command → Response → Type 0
IsAnswer None response = ⊥
IsAnswer (Some command) response = fits command response ≡ true

-- ---- what an answer leads to

abbrev pub clients_in : Racing → ℕ → Option Client → Response → List Client
clients_in race place None response = race.clients
clients_in race place (Some client) response =
    slice_set race.clients place (client_after race.index race.object race.tables client response)

-- the clients, of which this one took a step
abbrev pub clients_after : Racing → ℕ → Response → List Client
clients_after race place response = clients_in race place (slice_get race.clients place) response

-- an update that was done publishes its table alone
abbrev pub tables_after : List PlainTable → PlainTable → Response → List PlainTable
tables_after tables table answer.Done = table ∷ []
tables_after tables table other = tables

abbrev pub race_after : Racing → Event → Response → Racing
race_after race (event.Step client) response =
    record { index = race.index; object = race.object; tables = race.tables; clients = clients_after race client response }
race_after race (event.Stranger command) response = race
race_after race (event.Update pin table root) response =
    record { index = race.index; object = race.object; tables = tables_after race.tables (plain_table table) response; clients = race.clients }

-- whether the race takes memory for an answer: a client chooses its table, or a table is published
abbrev pub chooses_in : Option Client → Response → Bool
chooses_in None response = false
chooses_in (Some client) response = chooses client response

abbrev pub publishes : Response → Bool
publishes answer.Done = true
publishes other = false

abbrev pub takes_memory : Racing → Event → Response → Bool
takes_memory race (event.Step client) response = chooses_in (slice_get race.clients client) response
takes_memory race (event.Stranger command) response = false
takes_memory race (event.Update pin table root) response = publishes response

-- ---- outcomes

abbrev pub outcome_in : Option Client → Outcome
outcome_in None = outcome.Unfinished
outcome_in (Some client) = outcome_of client

abbrev pub race_outcome : Racing → ℕ → Outcome
race_outcome race client = outcome_in (slice_get race.clients client)
