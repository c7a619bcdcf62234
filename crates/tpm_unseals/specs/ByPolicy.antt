-- How an object that is bound to the newest policy of an index gives its bytes: by a session that walked one of the
-- program's tables and then read the write of its root, while the table is open.
use Rattle.std.specs.Prelude.{◌≡◌, ℕ, List, [], ◌∷◌, ◌++◌, Contains, Some}
use Rattle.std.specs.FinMap.{get}
use Rattle.nv_index.specs.IndexName.{index_name_of, written_public}
use Rattle.policy_digest.specs.Pin.{pin_policy_of}
use Rattle.policy_digest.specs.PlainTable.{root_of}
use Rattle.tpm_model.specs.declared.command.Command.TheVariants as command
use Rattle.tpm_model.specs.declared.response.Response.TheVariants as answer
use Rattle.tpm_model.specs.declared.parts.Parts.{Parts}
use Rattle.tpm_model.specs.declared.sessions.Session.{Session}
use Rattle.tpm_model.specs.declared.trail.TrailEntry.{TrailEntry}
use Rattle.tpm_model.specs.declared.trail.TrailEntry.TheVariants.{AuthorizeNv}
use Rattle.tpm_model.specs.Binding.{Index}
use Rattle.tpm_model.specs.Events.{Event, command_of, world_after}
use Rattle.tpm_model.specs.Opening.{Open}
use Rattle.tpm_model.specs.Respond.{respond}
use Rattle.tpm_model.specs.Sessions.{session_at}
use Rattle.tpm_model.specs.World.{PolicyUpdate, World}
use Rattle.tpm_walks.specs.Walks.{Walks}
use Rattle.tpm_worlds.specs.EventLists.{EachOpensByValue}

-- the Name of an index with this handle that is written with a pin
abbrev pub written_name : ℕ → List ℕ → List ℕ
written_name handle pin = index_name_of (written_public handle (pin_policy_of pin))

-- the trail is a walk of the table of one of the program's updates of the index with the pin, and then one
-- PolicyAuthorizeNV, by the index's Name, that read the root and the number of this very update
pub record IsAuthorized (w : World) (trail : List TrailEntry) (index : ℕ) (pin : List ℕ) : Type 0 where
  pub update : PolicyUpdate
  pub wrote : Contains w.writes update
  pub same_handle : update.handle ≡ index
  pub same_pin : update.pin ≡ pin
  pub walk : List TrailEntry
  pub walks : Walks walk update.table
  pub authorized : trail ≡ walk ++ AuthorizeNv (written_name index pin) (root_of update.table) update.number ∷ []

-- an object's own bytes were answered to a session that was authorized by one of the index's tables, which is
-- open now. It may be older than the newest: a session that was authorized stays so
pub record IsOpenedByPolicy (s : Parts) (w : World) (session index : ℕ) (pin secret answered : List ℕ) : Type 0 where
  pub bytes : answered ≡ secret
  pub asked : Session
  pub found : session_at session s.sessions ≡ Some asked
  pub by : IsAuthorized w asked.trail index pin
  pub opens : Open by.update.table s.banks s.pcrs

-- an Unseal of an object that the world binds to the newest policy of an index answers its bytes, and only so
abbrev pub OpensByPolicy : Event → Parts → World → Type 0
OpensByPolicy event s w =
    (session handle index : ℕ) (answered secret pin : List ℕ)
    → command_of event ≡ command.Unseal session handle
    → (respond (command_of event) s).0 ≡ answer.Secret answered
    → get w.objects handle ≡ Some (record { secret = secret; binding = Index index pin })
    → IsOpenedByPolicy s w session index pin secret answered

-- so does each Unseal of a list of events, at its very step
abbrev pub EachOpensByPolicy : List Event → Parts → World → Type 0
EachOpensByPolicy [] s w = Unit {0}
EachOpensByPolicy (event ∷ events) s w =
    OpensByPolicy event s w × EachOpensByPolicy events (respond (command_of event) s).1 (world_after event s w)

-- each Unseal of an object of the program opens by what the object is bound to: the value of a PCR, or the
-- policy of an index
pub record EachOpens (events : List Event) (s : Parts) (w : World) : Type 0 where
  pub values : EachOpensByValue events s w
  pub policies : EachOpensByPolicy events s w
