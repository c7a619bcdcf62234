-- A moment in a list of events: the state and the world behind the first of them.
use Rattle.std.specs.Prelude.{List, map}
use Rattle.tpm_model.specs.declared.parts.Parts.{Parts}
use Rattle.tpm_model.specs.Events.{Event, command_of}
use Rattle.tpm_model.specs.World.{World}
use Rattle.tpm_worlds.specs.CommandLists.{state_after}
use Rattle.tpm_worlds.specs.EventLists.{world_after_all}

abbrev pub state_behind : List Event → Parts → Parts
state_behind events s = state_after (map command_of events) s

abbrev pub world_behind : List Event → Parts → World → World
world_behind events s w = world_after_all events s w
