use Rattle.std.proofs.Common.{ap, ◌∙◌}
use Rattle.std.specs.Prelude.{Some}
use Rattle.tpm_device.specs.Stored.{Holds}
use Rattle.pcrlock_update.proofs.Removed.{read_keeps, read_stopped}
use Rattle.pcrlock_update.proofs.removing.holds_policy.Goals as goal

pub returns-in-Ok-clause-runs : goal.returns-in-Ok-clause-runs
returns-in-Ok-clause-runs g c = λ s runs.
    let told = c.in-Ok.ensures.told s runs.live runs.stored in
    let keeps = read_keeps c.args.policy.now.handle s in
    record { live = told.live ∙ ap Some keeps; stored = told.stored ∙ ap (λ x. Some (Holds x)) keeps }

pub returns-in-Err-clause-stops : goal.returns-in-Err-clause-stops
returns-in-Err-clause-stops g c = λ s runs.
    read_stopped _ c.args.policy.now.handle s (c.in-Err.ensures.stops s runs.live runs.stored)
