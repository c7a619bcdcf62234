use Rattle.race_newest.proofs.Everyone.{each_by_newest}
use Rattle.race_newest.proofs.RaceEvents.{sound_events}
use Rattle.race_newest.specs.RaceEvents.{world_events}
use Rattle.race_newest.proofs.laws.each_unseal_names_its_event.Goals as goal

pub returns-clause-each : goal.returns-clause-each
returns-clause-each c = λ events s w rules tie sound clean safe. each_by_newest events s w rules tie sound clean safe

pub returns-clause-race : goal.returns-clause-race
returns-clause-race c = λ events p w clients all rules tie clean safe.
    each_by_newest (world_events events p) p.state w rules tie (sound_events events p w clients all) clean safe
