use Rattle.std.proofs.Common.{sym, ap, ◌∙◌, Contains}
use Rattle.std.specs.Prelude.{Some, IfOk, IfErr}
use Rattle.hash_bank.specs.HashedString.{NoClash}
use Rattle.pcrlock_line.specs.declared.reply.Reply.{Reply}
use Rattle.pcrlock_line.specs.Outcome.{Outcome, Gives}
use Rattle.pcrlock_line.specs.Stopped.{StandsAmong}
use Rattle.pcrlock_line.proofs.Devices.{begun_by, tells_begun, kept_tells, gives_refused, stops_first, stands}
use Rattle.pcrlock_open.specs.Unseal.{unsealed_line}
use Rattle.pcrlock_open.proofs.Gives.{gives_opened}
use Rattle.pcrlock_open.proofs.Stops.{stopped, first_stop}
use Rattle.pcrlock_open.proofs.opening.open.Goals as goal

pub returns-in-Ok-None-clause-told : goal.returns-in-Ok-None-clause-told
returns-in-Ok-None-clause-told g c = λ held words m tells.
    begun_by m.device c.args.state.now m (unsealed_line c.args.literal.now c.args.object)
    (λ (o : Outcome). NoClash (Contains o.hashed) → IfOk c.open_on.result (λ (r : Reply). Gives held (g.T.Tpm.stored c.open_on.new.tpm) words r o))
    (sym c.in-Ok-None.field-0-is ∙ c.in-Ok-None.ensures.told m.device tells.state)
    (λ s e. let begun = tells_begun held _ _ words m s c.ready.ensures.same e tells in
    gives_opened held _ _ words (record { files = m.files; state = s; draws = m.draws }) c.args.object c.args.literal.now c.open_on.result begun
    (c.open_on.ensures.told s (c.in-Ok-None.ensures.live s (tells.state ∙ ap Some e)).live_is begun.state))

pub returns-in-Ok-None-clause-stops : goal.returns-in-Ok-None-clause-stops
returns-in-Ok-None-clause-stops g c = λ held words m tells.
    begun_by m.device c.args.state.now m (unsealed_line c.args.literal.now c.args.object)
    (λ (o : Outcome). IfErr c.open_on.result (λ _. StandsAmong held (g.T.Tpm.stored c.open_on.new.tpm) o.stops))
    (sym c.in-Ok-None.field-0-is ∙ c.in-Ok-None.ensures.told m.device tells.state)
    (λ s e. let begun = tells_begun held _ _ words m s c.ready.ensures.same e tells in
    stopped held _ _ words (record { files = m.files; state = s; draws = m.draws }) c.args.literal.now c.args.object c.open_on.result begun
    (c.open_on.ensures.stops s (c.in-Ok-None.ensures.live s (tells.state ∙ ap Some e)).live_is begun.state))

pub returns-in-Ok-Some-clause-told : goal.returns-in-Ok-Some-clause-told
returns-in-Ok-Some-clause-told g c = λ held words m tells safe.
    gives_refused held _ words c.args.state.now m (unsealed_line c.args.literal.now c.args.object) c.in-Ok-Some.answer
    (sym c.in-Ok-Some.field-0-is ∙ c.in-Ok-Some.ensures.told m.device tells.state) (kept_tells held _ _ words m c.ready.ensures.same tells)

pub returns-in-Err-clause-stops : goal.returns-in-Err-clause-stops
returns-in-Err-clause-stops g c = λ held words m tells.
    let at = stands held _ words m (kept_tells held _ _ words m c.ready.ensures.same tells) in
    stops_first held _ c.args.state.now m (unsealed_line c.args.literal.now c.args.object) at
    (λ s e. first_stop held _ m s c.args.literal.now c.args.object e at)
