use Rattle.std.proofs.Common.{◌≡◌, sym, ap, ◌∙◌}
use Rattle.std.specs.Prelude.{Some, IfOk}
use Rattle.pcrlock_predict.proofs.BegunValues.{runs_begun, values_begun, values_refused}
use Rattle.pcrlock_predict.proofs.present.read_values.Goals as goal

pub returns-in-Ok-None-clause-told : goal.returns-in-Ok-None-clause-told
returns-in-Ok-None-clause-told g c = λ kept is.
    values_begun kept c.args.path.now c.args.bank c.args.asked (λ given. IfOk c.values_ready.result (λ found. found ≡ given))
    (sym c.in-Ok-None.field-0-is ∙ c.in-Ok-None.ensures.told kept is)
    (λ s holds. c.values_ready.ensures.told s
    (runs_begun _ _ _ kept s (c.in-Ok-None.ensures.live s (is ∙ ap Some holds)).live_is c.ready.ensures.same is holds))

pub returns-in-Ok-None-clause-same : goal.returns-in-Ok-None-clause-same
returns-in-Ok-None-clause-same g c = λ kept is.
    values_begun kept c.args.path.now c.args.bank c.args.asked (λ given. g.T.Tpm.stored c.values_ready.new.tpm ≡ Some kept)
    (sym c.in-Ok-None.field-0-is ∙ c.in-Ok-None.ensures.told kept is)
    (λ s holds. c.values_ready.ensures.same s
    (runs_begun _ _ _ kept s (c.in-Ok-None.ensures.live s (is ∙ ap Some holds)).live_is c.ready.ensures.same is holds)
    ∙ ap Some (sym holds))

pub returns-in-Ok-Some-clause-told : goal.returns-in-Ok-Some-clause-told
returns-in-Ok-Some-clause-told g c = λ kept is.
    values_refused kept c.args.path.now c.args.bank c.args.asked c.in-Ok-Some.answer (sym c.in-Ok-Some.field-0-is ∙ c.in-Ok-Some.ensures.told kept is)
