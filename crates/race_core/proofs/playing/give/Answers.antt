use Rattle.race_core.proofs.Plays.{failed, wanting}
use Rattle.race_core.proofs.playing.give.Goals as goal

pub returns-in-Err-Failed-clause-told : goal.returns-in-Err-Failed-clause-told
returns-in-Err-Failed-clause-told g c = λ s keeps tells.
    failed keeps c.args.event.now c.args.command.now (record { race = c.args.race.now; state = s }) _ _ _ c.in-Err-Failed.field-0-is c.requires.command
    (λ k. c.in-Err-Failed.ensures.stored s tells.now (tells.same k))

pub returns-in-Err-Memory-clause-told : goal.returns-in-Err-Memory-clause-told
returns-in-Err-Memory-clause-told g c = λ s keeps tells.
    wanting keeps c.args.event.now c.args.command.now (record { race = c.args.race.now; state = s }) _ _ _ _ c.in-Err-Memory.field-0-is c.requires.command (c.in-Err-Memory.ensures.told s tells.now)
    (λ k. c.in-Err-Memory.ensures.stored s tells.now (tells.same k))
