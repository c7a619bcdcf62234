-- Events that are played one after the other.
use Rattle.std.proofs.Common.{◌≡◌, ℕ, zero, suc, ◌+◌, ◌<◌, ◌≤◌, Bool, true, List, [], ◌∷◌, ◌++◌, length, get_or, take, inl, refl, sym, ap, ◌∙◌, subst, arith}
use Rattle.std.specs.Prelude.{Option, Some, Ok, Err, slice_get}
use Rattle.std.specs.List.{AllByRecursion}
use Rattle.std.proofs.lemmas.List.{take_all, take_more}
use Rattle.tpm_model.specs.declared.command.Command.{Command}
use Rattle.tpm_model.specs.declared.parts.Parts.{Parts}
use Rattle.tpm_device.specs.declared.device.ExecError.{ExecError}
use Rattle.tpm_device.specs.declared.device.ExecError.TheVariants as exec
use Rattle.tpm_device.specs.Stored.{Stored, ExecuteGives, ExecuteStores}
use Rattle.race_core.specs.declared.event.Event.{Event}
use Rattle.race_core.specs.declared.playing.PlayError.{PlayError}
use Rattle.race_core.specs.declared.playing.PlayError.TheVariants as error
use Rattle.tpm_device.specs.Running.{IsLive}
use Rattle.race_core.specs.Playing.{GivesAll, GivesOne, Playing, StopsAround, StopsAt, played, played_one}
use Rattle.race_core.specs.Racing.{IsEvent, Racing, race_command}

-- ---- one event that stops

-- a fault at the command
pub failed : (keeps : Bool) (event : Event) (command : Command) (p : Playing) (live : Option Parts) (stored : Option Stored) (e : ExecError) → e ≡ exec.Failed → race_command p.race event ≡ Some command
    → (keeps ≡ true → ExecuteStores command p.state (Err e) stored)
    → GivesOne keeps event p (Err error.Failed) p.race live stored
failed keeps event command p live stored e fault is kept = (
  refl,
  record {
    command = command;
    is = is;
    live_is = tt;
    stored_is = λ k. subst (λ x. ExecuteStores command p.state (Err x) stored) fault (kept k);
  },
)

-- want of memory for the command
pub wanting : (keeps : Bool) (event : Event) (command : Command) (p : Playing) (ready : Bool) (live : Option Parts) (stored : Option Stored) (e : ExecError) → e ≡ exec.Memory → race_command p.race event ≡ Some command
    → ExecuteGives command p.state (Err e) ready live → (keeps ≡ true → ExecuteStores command p.state (Err e) stored)
    → GivesOne keeps event p (Err error.Memory) p.race live stored
wanting keeps event command p ready live stored e want is now kept =
    let same = subst (λ x. ExecuteGives command p.state (Err x) ready live) want now in
    (refl, record { command = command; is = is; live_is = inl same.0; stored_is = λ k. inl (subst (λ x. ExecuteStores command p.state (Err x) stored) want (kept k)) })

-- ---- one after the other

pub played_push : (events : List Event) (event : Event) (p : Playing) → played (events ++ event ∷ []) p ≡ played_one event (played events p)
played_push [] event p = refl
played_push (first ∷ events) event p = played_push events event (played_one first p)

played_next : (events : List Event) (i : ℕ) (item : Event) (p : Playing) → i < length events → item ≡ get_or events i item → played_one item (played (take i events) p) ≡ played (take (i + 1) events) p
played_next events i item p within is =
    sym (ap (λ list. played list p) (take_more events i item within ∙ ap (λ e. take i events ++ e ∷ []) (sym is)) ∙ played_push (take i events) item p)

-- the race and the state, as they are behind some events
same_place : (race : Racing) (q : Playing) → race ≡ q.race → record { race = race; state = q.state } ≡ q
same_place race q is = ap (λ (r : Racing). record { race = r; state = q.state }) is

-- one more
pub onward : (keeps : Bool) (events : List Event) (i : ℕ) (item : Event) (p : Playing) (race after : Racing) (live live_after : Option Parts) (stored stored_after : Option Stored)
    → i < length events → item ≡ get_or events i item
    → GivesAll keeps (take i events) p (Ok tt) race live stored
    → ((s : Parts) (k : Bool) → IsLive k s live stored → GivesOne k item (record { race = race; state = s }) (Ok tt) after live_after stored_after)
    → GivesAll keeps (take (i + 1) events) p (Ok tt) after live_after stored_after
onward keeps events i item p race after live live_after stored stored_after within is so_far one =
    let q : Playing = played (take i events) p in
    let given = one q.state keeps so_far.1 in
    let next : played_one item (record { race = race; state = q.state }) ≡ played (take (i + 1) events) p = ap (played_one item) (same_place race q so_far.0) ∙ played_next events i item p within is in
    (given.0 ∙ ap (λ (r : Playing). r.race) next, subst (λ (r : Playing). IsLive keeps r.state live_after stored_after) next given.1)

-- the item is there
got : (events : List Event) (i : ℕ) (item : Event) → i < length events → item ≡ get_or events i item → slice_get events i ≡ Some item
got [] i item within is = absurd (omega arith)
got (event ∷ events) zero item within is = ap Some (sym is)
got (event ∷ events) (suc i) item within is = got events i item (omega (arith, within)) is

-- it stops at one
pub stops : (keeps : Bool) (events : List Event) (i : ℕ) (item : Event) (p : Playing) (error : PlayError) (race after : Racing) (live live_after : Option Parts) (stored stored_after : Option Stored)
    → i < length events → item ≡ get_or events i item
    → GivesAll keeps (take i events) p (Ok tt) race live stored
    → ((s : Parts) (k : Bool) → IsLive k s live stored → GivesOne k item (record { race = race; state = s }) (Err error) after live_after stored_after)
    → StopsAt keeps events p error after live_after stored_after
stops keeps events i item p error race after live live_after stored stored_after within is so_far one =
    let q : Playing = played (take i events) p in
    let given = one q.state keeps so_far.1 in
    record {
      count = i;
      event = item;
      next = got events i item within is;
      race_is = given.0 ∙ so_far.0;
      around = subst (λ (r : Playing). StopsAround keeps error item r live_after stored_after) (same_place race q so_far.0) given.1;
    }

-- all were played
pub to_the_end : (keeps : Bool) (events : List Event) (i : ℕ) (p : Playing) (race : Racing) (live : Option Parts) (stored : Option Stored) → length events ≤ i
    → GivesAll keeps (take i events) p (Ok tt) race live stored → GivesAll keeps events p (Ok tt) race live stored
to_the_end keeps events i p race live stored past so_far = subst (λ list. GivesAll keeps list p (Ok tt) race live stored) (take_all i events past) so_far

-- an event of the race
pub event_at : (clients : ℕ) (events : List Event) (i : ℕ) (item : Event) → AllByRecursion (IsEvent clients) events → i < length events → item ≡ get_or events i item → IsEvent clients item
event_at clients [] i item all within is = absurd (omega arith)
event_at clients (event ∷ events) zero item all within is = subst (IsEvent clients) (sym is) all.0
event_at clients (event ∷ events) (suc i) item all within is = event_at clients events i item all.1 (omega (arith, within)) is
