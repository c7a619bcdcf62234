-- The steps of one client of a race, one command of the TPM each: it reads the index, chooses the table that the
-- index holds, walks by it on a session of its own, unseals the object, and ends the session.
use Rattle.std.specs.Prelude.{ℕ, Bool, true, false, List, Option, Some, None, Result, Ok, Err}
use Rattle.hash_bank.specs.declared.bank.Bank.TheVariants.{Sha256}
use Rattle.policy_digest.specs.PlainTable.{PlainTable}
use Rattle.policy_walk.specs.Choosing.{prepared_of}
use Rattle.policy_walk.specs.declared.prepared.PrepareError.{PrepareError}
use Rattle.policy_walk.specs.declared.stopped.Stopped.{Stopped}
use Rattle.policy_walk.specs.declared.walk.Walk.{Walk}
use Rattle.policy_walk.specs.declared.walk.Walk.TheVariants as walk
use Rattle.policy_walk.specs.declared.why.StartRefusal.{StartRefusal}
use Rattle.policy_walk.specs.declared.why.StartRefusal.TheVariants as start
use Rattle.policy_walk.specs.declared.why.Why.{Why}
use Rattle.policy_walk.specs.declared.why.Why.TheVariants as why
use Rattle.policy_walk.specs.Places.{Ready, Place, Past}
use Rattle.policy_walk.specs.Walking.{authorised_by, secret_in, started_by, walk_command, walked_by, why_in}
use Rattle.tpm_model.specs.declared.command.Command.{Command}
use Rattle.tpm_model.specs.declared.command.Command.TheVariants as command
use Rattle.tpm_model.specs.declared.response.Response.{Response}
use Rattle.tpm_model.specs.declared.response.Response.TheVariants as answer
use Rattle.tpm_model.specs.declared.response.Refusal.TheVariants as refusal
use Rattle.race_core.specs.declared.client.Client.{Client}
use Rattle.race_core.specs.declared.client.Client.TheVariants as client
use Rattle.race_core.specs.declared.outcome.Outcome.{Outcome}
use Rattle.race_core.specs.declared.outcome.Outcome.TheVariants as outcome

-- a client's next command; one that has finished has none
abbrev pub client_command : ℕ → ℕ → Client → Option Command
client_command index object client.Fresh = Some (command.NvRead index)
client_command index object (client.Prepared ready) = Some (command.StartSession Sha256)
client_command index object (client.Started place) = Some (walk_command place)
client_command index object (client.Branched past) = Some (command.PolicyAuthorizeNv past.session past.index)
client_command index object (client.Authorised past) = Some (command.Unseal past.session object)
client_command index object (client.Closing session end) = Some (command.FlushSession session)
client_command index object (client.Ended end) = None

-- what a client came to: its key, or the reason
abbrev pub came_to : Option (List ℕ) → Option Why → Outcome
came_to (Some secret) reason = outcome.Key secret
came_to None (Some reason) = outcome.Stopped reason
came_to None None = outcome.Unfinished

-- a session that is at its end is to be flushed
abbrev pub closing_of : Stopped → Client
closing_of stopped = client.Closing stopped.session (came_to None stopped.why)

-- behind the index's content: by the last published table whose root it holds
abbrev pub behind_choice : Result Ready PrepareError → Client
behind_choice (Ok ready) = client.Prepared ready
behind_choice (Err error) = client.Ended outcome.Outdated

abbrev pub behind_read : ℕ → List PlainTable → Response → Client
behind_read index tables (answer.Content content) = behind_choice (prepared_of index content tables)
behind_read index tables (answer.Refused refusal.Uninitialized) = client.Ended (outcome.Stopped why.Unwritten)
behind_read index tables other = client.Ended (outcome.Stopped why.NoIndex)

-- behind the start of a session: no session, and nothing to be flushed
abbrev pub behind_start : Result Place StartRefusal → Client
behind_start (Ok place) = client.Started place
behind_start (Err start.SessionsFull) = client.Ended outcome.SessionsFull
behind_start (Err start.HandlesEnd) = client.Ended outcome.HandlesEnd

-- behind a command on the table's rows
abbrev pub behind_rows : Result Walk Stopped → Client
behind_rows (Ok (walk.Started place)) = client.Started place
behind_rows (Ok (walk.Branched past)) = client.Branched past
behind_rows (Err stopped) = closing_of stopped

-- behind the index's authorisation
abbrev pub behind_authorisation : Result Past Stopped → Client
behind_authorisation (Ok past) = client.Authorised past
behind_authorisation (Err stopped) = closing_of stopped

-- what the answer to its command leads a client to
abbrev pub client_after : ℕ → ℕ → List PlainTable → Client → Response → Client
client_after index object tables client.Fresh response = behind_read index tables response
client_after index object tables (client.Prepared ready) response = behind_start (started_by ready response)
client_after index object tables (client.Started place) response = behind_rows (walked_by place response)
client_after index object tables (client.Branched past) response = behind_authorisation (authorised_by past response)
client_after index object tables (client.Authorised past) response =
    client.Closing past.session (came_to (secret_in response) (why_in past.session object response))
client_after index object tables (client.Closing session end) response = client.Ended end
client_after index object tables (client.Ended end) response = client.Ended end

-- whether an answer is an index's content
abbrev pub is_content : Response → Bool
is_content (answer.Content content) = true
is_content other = false

-- whether a client takes memory for an answer: it chooses a table
abbrev pub chooses : Client → Response → Bool
chooses client.Fresh response = is_content response
chooses other response = false

-- a client's outcome, once it has finished
abbrev pub outcome_of : Client → Outcome
outcome_of client.Fresh = outcome.Unfinished
outcome_of (client.Prepared ready) = outcome.Unfinished
outcome_of (client.Started place) = outcome.Unfinished
outcome_of (client.Branched past) = outcome.Unfinished
outcome_of (client.Authorised past) = outcome.Unfinished
outcome_of (client.Closing session end) = outcome.Unfinished
outcome_of (client.Ended end) = end
