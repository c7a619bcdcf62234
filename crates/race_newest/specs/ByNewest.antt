-- Who opens an object that is bound to the newest policy of an index: a session whose PolicyAuthorizeNV was accepted at
-- an event that is named, by the table that was the newest at that event, and that is open now.
use Rattle.std.specs.Prelude.{◌≡◌, ◌⊎◌, ℕ, List, ◌∷◌, ◌++◌, Contains, Some}
use Rattle.std.specs.FinMap.{get}
use Rattle.policy_digest.specs.PlainTable.{PlainTable}
use Rattle.tpm_model.specs.declared.command.Command.TheVariants as command
use Rattle.tpm_model.specs.declared.parts.Parts.{Parts}
use Rattle.tpm_model.specs.declared.response.Response.TheVariants as answer
use Rattle.tpm_model.specs.declared.sessions.Session.{Session}
use Rattle.tpm_model.specs.declared.trail.TrailEntry.TheVariants.{AuthorizeNv}
use Rattle.tpm_model.specs.Binding.{Index}
use Rattle.tpm_model.specs.Events.{Event, command_of}
use Rattle.tpm_model.specs.Opening.{Open}
use Rattle.tpm_model.specs.Respond.{respond}
use Rattle.tpm_model.specs.World.{World}
use Rattle.race_newest.specs.Moments.{state_behind, world_behind}

-- at one of these events a PolicyAuthorizeNV of the session by the index was accepted, and the table was the index's
-- newest then, under the pin: the events before it, it, and those behind it
pub record IsAuthorisedByNewest (events : List Event) (s : Parts) (w : World) (session index : ℕ) (pin : List ℕ) (table : PlainTable) : Type 0 where
  pub before : List Event
  pub at : Event
  pub behind : List Event
  pub order : events ≡ before ++ at ∷ behind
  pub asks : command_of at ≡ command.PolicyAuthorizeNv session index
  pub accepted : (respond (command_of at) (state_behind before s)).0 ≡ answer.Done
  pub newest : get (world_behind before s w).live index ≡ Some (record { pin = pin; table = table })

-- a session of this handle went through PolicyAuthorizeNV already
pub record WasAuthorised (s : Parts) (session : ℕ) : Type 0 where
  pub asked : Session
  pub there : Contains s.sessions asked
  pub same : asked.handle ≡ session
  pub name : List ℕ
  pub digest : List ℕ
  pub number : ℕ
  pub stands : Contains asked.trail (AuthorizeNv name digest number)

-- an object's own bytes were answered behind these events, to a session that was authorised among them by a table that
-- was the newest then, or before them, and the table is open now
pub record IsOpenedByNewest (events : List Event) (s : Parts) (w : World) (session index : ℕ) (pin secret answered : List ℕ) : Type 0 where
  pub bytes : answered ≡ secret
  pub table : PlainTable
  pub opens : Open table (state_behind events s).banks (state_behind events s).pcrs
  pub by : IsAuthorisedByNewest events s w session index pin table ⊎ WasAuthorised s session

-- so does each Unseal, whoever gives it, of an object that the world binds then to the newest policy of an index: the
-- events before it, it, and those behind it
abbrev pub EachOpensByNewest : List Event → Parts → World → Type 0
EachOpensByNewest events s w =
    (before : List Event) (event : Event) (behind : List Event) (session handle index : ℕ) (answered secret pin : List ℕ)
    → events ≡ before ++ event ∷ behind
    → command_of event ≡ command.Unseal session handle
    → (respond (command_of event) (state_behind before s)).0 ≡ answer.Secret answered
    → get (world_behind before s w).objects handle ≡ Some (record { secret = secret; binding = Index index pin })
    → IsOpenedByNewest before s w session index pin secret answered
