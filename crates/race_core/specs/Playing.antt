-- A race that is played on a TPM, event by event.
use Rattle.std.specs.Prelude.{◌≡◌, ◌⊎◌, ℕ, Bool, true, false, List, [], ◌∷◌, slice_get, take, Option, Some, None, Result, Ok, Err}
use Rattle.tpm_model.specs.declared.command.Command.{Command}
use Rattle.tpm_model.specs.declared.parts.Parts.{Parts}
use Rattle.tpm_model.specs.declared.response.Response.{Response}
use Rattle.tpm_model.specs.Respond.{respond}
use Rattle.tpm_device.specs.Running.{IsLive}
use Rattle.tpm_device.specs.Stored.{Stored, Holds}
use Rattle.race_core.specs.declared.event.Event.{Event}
use Rattle.race_core.specs.declared.playing.PlayError.{PlayError}
use Rattle.race_core.specs.declared.playing.PlayError.TheVariants as error
use Rattle.race_core.specs.Racing.{Racing, race_after, race_command, takes_memory}

-- the race, and the TPM's state
pub record Playing : Type 0 where
  pub race : Racing
  pub state : Parts

-- behind an event with this command; one without a command is passed over
abbrev pub played_by : Event → Option Command → Playing → Playing
played_by event None p = p
played_by event (Some command) p =
    record { race = race_after p.race event (respond command p.state).0; state = (respond command p.state).1 }

-- behind one event
abbrev pub played_one : Event → Playing → Playing
played_one event p = played_by event (race_command p.race event) p

-- behind all events, in order
abbrev pub played : List Event → Playing → Playing
played [] p = p
played (event ∷ events) p = played events (played_one event p)

-- ---- what the device tells

-- where it stops at an event's command: the state before it or behind it is live, but for a fault, after which nothing
-- is told; and it is stored. It is the one behind only where the race takes memory for the answer
abbrev pub IsLiveAround : PlayError → Event → Playing → Response × Parts → Option Parts → Type 0
IsLiveAround error.Failed event p answered live = Unit {0}
IsLiveAround error.Memory event p answered live =
    (live ≡ Some p.state) ⊎ ((live ≡ Some answered.1) × (takes_memory p.race event answered.0 ≡ true))

pub record StopsAround (keeps : Bool) (error : PlayError) (event : Event) (p : Playing) (live : Option Parts) (stored : Option Stored) : Type 0 where
  pub command : Command
  pub is : race_command p.race event ≡ Some command
  pub live_is : IsLiveAround error event p (respond command p.state) live
  pub stored_is : keeps ≡ true → (stored ≡ Some (Holds p.state)) ⊎ (stored ≡ Some (Holds (respond command p.state).1))

-- ---- what an event leaves, and all events

-- the race behind it; or it stops at its command, and the race is as before
abbrev pub GivesOne : Bool → Event → Playing → Result Unit PlayError → Racing → Option Parts → Option Stored → Type 0
GivesOne keeps event p (Ok _) race live stored =
    (race ≡ (played_one event p).race) × IsLive keeps (played_one event p).state live stored
GivesOne keeps event p (Err error) race live stored = (race ≡ p.race) × StopsAround keeps error event p live stored

-- it stops at the command of an event: the race is behind those before it
pub record StopsAt (keeps : Bool) (events : List Event) (p : Playing) (error : PlayError) (race : Racing) (live : Option Parts) (stored : Option Stored) : Type 0 where
  pub count : ℕ
  pub event : Event
  pub next : slice_get events count ≡ Some event
  pub race_is : race ≡ (played (take count events) p).race
  pub around : StopsAround keeps error event (played (take count events) p) live stored

abbrev pub GivesAll : Bool → List Event → Playing → Result Unit PlayError → Racing → Option Parts → Option Stored → Type 0
GivesAll keeps events p (Ok _) race live stored =
    (race ≡ (played events p).race) × IsLive keeps (played events p).state live stored
GivesAll keeps events p (Err error) race live stored = StopsAt keeps events p error race live stored

-- whether the device is ready then: not after a fault
abbrev pub stays_ready : Result Unit PlayError → Bool
stays_ready (Ok _) = true
stays_ready (Err error.Failed) = false
stays_ready (Err error.Memory) = true
