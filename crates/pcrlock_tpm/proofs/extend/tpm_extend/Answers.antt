use Rattle.std.proofs.Common.{sym, ap, ◌∙◌}
use Rattle.std.specs.Prelude.{Some, IfOk, IfErr}
use Rattle.pcrlock_line.specs.declared.reply.Reply.{Reply}
use Rattle.pcrlock_line.specs.Outcome.{Outcome, Gives}
use Rattle.pcrlock_line.specs.Stopped.{StandsAmong}
use Rattle.pcrlock_line.proofs.Devices.{begun_by, tells_begun, kept_tells, gives_refused, stops_first, stands}
use Rattle.pcrlock_tpm.specs.Extend.{extended_line}
use Rattle.pcrlock_tpm.proofs.Extends.{extend_tied, first_stop}
use Rattle.pcrlock_tpm.proofs.extend.tpm_extend.Goals as goal

pub returns-in-Ok-None-clause-told : goal.returns-in-Ok-None-clause-told
returns-in-Ok-None-clause-told g c = λ held words m tells.
    begun_by m.device c.args.path.now m (extended_line c.args.pcr c.args.bytes.now)
    (λ (o : Outcome). IfOk c.extend.result (λ (r : Reply). Gives held (g.T.Tpm.stored c.extend.new.tpm) words r o))
    (sym c.in-Ok-None.field-0-is ∙ c.in-Ok-None.ensures.told m.device tells.state)
    (λ s e. c.extend.ensures.told held words (record { files = m.files; state = s; draws = m.draws })
    (tells_begun held _ _ words m s c.ready.ensures.same e tells) (c.in-Ok-None.ensures.live s (tells.state ∙ ap Some e)).live_is)

pub returns-in-Ok-None-clause-stops : goal.returns-in-Ok-None-clause-stops
returns-in-Ok-None-clause-stops g c = λ held words m tells.
    begun_by m.device c.args.path.now m (extended_line c.args.pcr c.args.bytes.now)
    (λ (o : Outcome). IfErr c.extend.result (λ _. StandsAmong held (g.T.Tpm.stored c.extend.new.tpm) o.stops))
    (sym c.in-Ok-None.field-0-is ∙ c.in-Ok-None.ensures.told m.device tells.state)
    (λ s e. c.extend.ensures.stops held words (record { files = m.files; state = s; draws = m.draws })
    (tells_begun held _ _ words m s c.ready.ensures.same e tells) (c.in-Ok-None.ensures.live s (tells.state ∙ ap Some e)).live_is)

pub returns-in-Ok-None-clause-tied : goal.returns-in-Ok-None-clause-tied
returns-in-Ok-None-clause-tied g c = λ s w tie. extend_tied s w c.args.pcr c.args.bytes.now tie

pub returns-in-Ok-Some-clause-told : goal.returns-in-Ok-Some-clause-told
returns-in-Ok-Some-clause-told g c = λ held words m tells.
    gives_refused held _ words c.args.path.now m (extended_line c.args.pcr c.args.bytes.now) c.in-Ok-Some.answer
    (sym c.in-Ok-Some.field-0-is ∙ c.in-Ok-Some.ensures.told m.device tells.state) (kept_tells held _ _ words m c.ready.ensures.same tells)

pub returns-in-Ok-Some-clause-tied : goal.returns-in-Ok-Some-clause-tied
returns-in-Ok-Some-clause-tied g c = λ s w tie. extend_tied s w c.args.pcr c.args.bytes.now tie

pub returns-in-Err-clause-stops : goal.returns-in-Err-clause-stops
returns-in-Err-clause-stops g c = λ held words m tells.
    let at = stands held _ words m (kept_tells held _ _ words m c.ready.ensures.same tells) in
    stops_first held _ c.args.path.now m (extended_line c.args.pcr c.args.bytes.now) at
    (λ s e. first_stop held _ m s c.args.pcr c.args.bytes.now e at)

pub returns-in-Err-clause-tied : goal.returns-in-Err-clause-tied
returns-in-Err-clause-tied g c = λ s w tie. extend_tied s w c.args.pcr c.args.bytes.now tie
