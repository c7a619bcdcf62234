use Rattle.std.proofs.Common.{◌∙◌, length, sym, subst, arith}
use Rattle.race_core.specs.Racing.{IsEvent}
use Rattle.race_core.proofs.Plays.{event_at, onward, stops, to_the_end}
use Rattle.race_core.proofs.playing.play.Goals as goal

pub play_one-requires-clause-readiness : goal.play_one-requires-clause-readiness
play_one-requires-clause-readiness g c = c.loop-event.invariant.readiness

pub play_one-requires-clause-event : goal.play_one-requires-clause-event
play_one-requires-clause-event g c =
    subst (λ n. IsEvent n c.event-item.result) (sym c.loop-event.invariant.clients)
    (event_at (length c.args.race.now.clients) c.args.events.now c.loop-event.event-index c.event-item.result c.requires.events c.loop-event-test.true c.event-item.is)

pub loop-event-preserved : goal.loop-event-preserved
loop-event-preserved g c = record {
  readiness = c.in-Ok.ensures.readiness;
  later = omega (arith, c.loop-event.invariant.later, c.in-Ok.ensures.cause.later);
  clients = c.in-Ok.ensures.clients ∙ c.loop-event.invariant.clients;
  told = λ s keeps tells.
      onward keeps c.args.events.now c.loop-event.event-index c.event-item.result (record { race = c.args.race.now; state = s }) c.loop-event.race c.play_one.new.race _ _ _ _
      c.loop-event-test.true c.event-item.is (c.loop-event.invariant.told s keeps tells) c.in-Ok.ensures.told;
}

pub returns-in-Err-clause-told : goal.returns-in-Err-clause-told
returns-in-Err-clause-told g c = λ s keeps tells.
    stops keeps c.args.events.now c.loop-event.event-index c.event-item.result (record { race = c.args.race.now; state = s }) c.in-Err.error c.loop-event.race c.play_one.new.race _ _ _ _
    c.loop-event-test.true c.event-item.is (c.loop-event.invariant.told s keeps tells) c.in-Err.ensures.told

pub returns-clause-told : goal.returns-clause-told
returns-clause-told g c = λ s keeps tells.
    to_the_end keeps c.args.events.now c.loop-event.event-index (record { race = c.args.race.now; state = s }) _ _ _ c.loop-event-test.false (c.loop-event.invariant.told s keeps tells)
