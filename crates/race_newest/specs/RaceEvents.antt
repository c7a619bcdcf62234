-- The events of a race as events of the world: an update is the program's own, a client's step and a stranger's
-- command are anyone's. A step of a client that has finished is none.
use Rattle.std.specs.Prelude.{List, [], ◌∷◌, ◌++◌, Option, None, Some}
use Rattle.policy_digest.specs.Plain.{plain_table}
use Rattle.race_core.specs.declared.event.Event.{Event as Played}
use Rattle.race_core.specs.declared.event.Event.TheVariants as played_event
use Rattle.race_core.specs.Playing.{Playing, played_one}
use Rattle.race_core.specs.Racing.{Racing, race_command}
use Rattle.tpm_model.specs.declared.command.Command.{Command}
use Rattle.tpm_model.specs.Events.{Event, Other, Update}
use Rattle.tpm_model.specs.World.{World}
use Rattle.race_newest.specs.Moments.{world_behind}

abbrev pub event_by : Racing → Played → Command → Event
event_by race (played_event.Step number) given = Other given
event_by race (played_event.Stranger own) given = Other given
event_by race (played_event.Update pin table root) given = Update race.index pin (plain_table table)

abbrev pub events_by : Racing → Played → Option Command → List Event
events_by race event None = []
events_by race event (Some given) = event_by race event given ∷ []

-- those of a play, in order
abbrev pub world_events : List Played → Playing → List Event
world_events [] p = []
world_events (event ∷ events) p = events_by p.race event (race_command p.race event) ++ world_events events (played_one event p)

-- the world behind a play
abbrev pub world_at : List Played → Playing → World → World
world_at events p w = world_behind (world_events events p) p.state w
