-- What hangs together at each moment of a list of events.
use Rattle.std.proofs.Common.{◌≡◌, List, [], ◌∷◌, ◌++◌, refl}
use Rattle.tpm_model.specs.declared.parts.Parts.{Parts}
use Rattle.tpm_model.specs.Events.{Clean, Event, command_of, world_after}
use Rattle.tpm_model.specs.Orderly.{Orderly}
use Rattle.tpm_model.specs.Respond.{respond}
use Rattle.tpm_model.specs.World.{World}
use Rattle.tpm_worlds.specs.EventLists.{Safe}
use Rattle.tpm_worlds.specs.Growth.{GrowsAll}
use Rattle.tpm_worlds.specs.SteadySessions.{SteadySessions}
use Rattle.tpm_worlds.specs.WholeEvents.{AreSoundEvents, OwnTie}
use Rattle.tpm_worlds.proofs.EachUnseal.{safe_before}
use Rattle.tpm_worlds.proofs.OrderlyAfter.{orderly_after}
use Rattle.tpm_worlds.proofs.WholeAfter.{sessions_after}
use Rattle.tpm_worlds.proofs.WholeLists.{clean_before, grows_events, own_next}
use Rattle.race_newest.specs.Moments.{state_behind, world_behind}

-- before an event, in a world from which nothing is lost up to the last one
pub record Moment (event : Event) (s : Parts) (w last : World) : Type 0 where
  pub orderly : Orderly s
  pub own : OwnTie s w
  pub sessions : SteadySessions s w
  pub clean : Clean w
  pub safe : Safe w
  pub grows : GrowsAll w last
  pub onward : GrowsAll (world_after event s w) last

pub moment : (before : List Event) (event : Event) (behind : List Event) (s : Parts) (w : World) → Orderly s → OwnTie s w → SteadySessions s w
    → AreSoundEvents (before ++ event ∷ behind) s w → Clean (world_behind (before ++ event ∷ behind) s w) → Safe (world_behind (before ++ event ∷ behind) s w)
    → Moment event (state_behind before s) (world_behind before s w) (world_behind (before ++ event ∷ behind) s w)
moment [] event behind s w orderly own sessions sound clean safe =
    let last = world_behind (event ∷ behind) s w in
    let grows = grows_events (event ∷ behind) s w in
    record {
      orderly = orderly;
      own = own;
      sessions = sessions;
      clean = clean_before w last grows clean;
      safe = safe_before w last grows.strings safe;
      grows = grows;
      onward = grows_events behind (respond (command_of event) s).1 (world_after event s w);
    }
moment (e ∷ before) event behind s w orderly own sessions sound clean safe =
    moment before event behind (respond (command_of e) s).1 (world_after e s w) (orderly_after (command_of e) s orderly)
    (own_next e (before ++ event ∷ behind) s w orderly sound.0 own clean safe) (sessions_after e s w orderly own.known own.indices sessions) sound.1 clean safe

-- ---- a list of events, and then another

pub state_append : (before behind : List Event) (s : Parts) → state_behind (before ++ behind) s ≡ state_behind behind (state_behind before s)
state_append [] behind s = refl
state_append (e ∷ before) behind s = state_append before behind (respond (command_of e) s).1

pub world_append : (before behind : List Event) (s : Parts) (w : World) → world_behind (before ++ behind) s w ≡ world_behind behind (state_behind before s) (world_behind before s w)
world_append [] behind s w = refl
world_append (e ∷ before) behind s w = world_append before behind (respond (command_of e) s).1 (world_after e s w)
