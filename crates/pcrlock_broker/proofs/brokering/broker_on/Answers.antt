use Rattle.std.proofs.Common.{sym, ap, ◌∙◌}
use Rattle.std.specs.Prelude.{Some, IfOk, IfErr}
use Rattle.pcrlock_line.specs.declared.reply.Reply.{Reply}
use Rattle.pcrlock_line.specs.Outcome.{Outcome, Gives}
use Rattle.pcrlock_line.specs.Stopped.{StandsAmong}
use Rattle.pcrlock_line.proofs.Devices.{begun_by, tells_begun, kept_tells, gives_refused, stands}
use Rattle.pcrlock_broker.specs.Broker.{brokered_line}
use Rattle.pcrlock_broker.proofs.Stands.{stands_before}
use Rattle.pcrlock_broker.proofs.brokering.broker_on.Goals as goal

pub returns-in-Ok-None-clause-told : goal.returns-in-Ok-None-clause-told
returns-in-Ok-None-clause-told g c = λ held words m tells.
    begun_by m.device c.args.path.now m (brokered_line c.args.clients c.args.asked.now)
    (λ (o : Outcome). IfOk c.broker_ready.result (λ (r : Reply). Gives held (g.T.Tpm.stored c.broker_ready.new.tpm) words r o))
    (sym c.in-Ok-None.field-0-is ∙ c.in-Ok-None.ensures.told m.device tells.state)
    (λ s e. c.broker_ready.ensures.told held words (record { files = m.files; state = s; draws = m.draws })
    (tells_begun held _ _ words m s c.ready.ensures.same e tells) (c.in-Ok-None.ensures.live s (tells.state ∙ ap Some e)).live_is)

pub returns-in-Ok-None-clause-stops : goal.returns-in-Ok-None-clause-stops
returns-in-Ok-None-clause-stops g c = λ held words m tells.
    begun_by m.device c.args.path.now m (brokered_line c.args.clients c.args.asked.now)
    (λ (o : Outcome). IfErr c.broker_ready.result (λ _. StandsAmong held (g.T.Tpm.stored c.broker_ready.new.tpm) o.stops))
    (sym c.in-Ok-None.field-0-is ∙ c.in-Ok-None.ensures.told m.device tells.state)
    (λ s e. c.broker_ready.ensures.stops held words (record { files = m.files; state = s; draws = m.draws })
    (tells_begun held _ _ words m s c.ready.ensures.same e tells) (c.in-Ok-None.ensures.live s (tells.state ∙ ap Some e)).live_is)

pub returns-in-Ok-Some-clause-told : goal.returns-in-Ok-Some-clause-told
returns-in-Ok-Some-clause-told g c = λ held words m tells.
    gives_refused held _ words c.args.path.now m (brokered_line c.args.clients c.args.asked.now) c.in-Ok-Some.answer
    (sym c.in-Ok-Some.field-0-is ∙ c.in-Ok-Some.ensures.told m.device tells.state) (kept_tells held _ _ words m c.ready.ensures.same tells)

pub returns-in-Err-clause-stops : goal.returns-in-Err-clause-stops
returns-in-Err-clause-stops g c = λ held words m tells.
    stands_before held _ c.args.path.now m c.args.clients c.args.asked.now (stands held _ words m (kept_tells held _ _ words m c.ready.ensures.same tells))
