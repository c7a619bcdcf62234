use Rattle.std.proofs.Common.{sym, ◌∙◌}
use Rattle.pcrlock_line.proofs.Composed.{stops, on_tpm}
use Rattle.pcrlock_update.specs.Changes.{changes_made}
use Rattle.pcrlock_update.specs.Sealed.{pin_sealed}
use Rattle.pcrlock_update.specs.Update.{put_changes}
use Rattle.pcrlock_update.proofs.Lists.{sealed_came, pin_stopped}
use Rattle.pcrlock_update.proofs.putting.seal_and_put.Goals as goal

pub returns-in-Ok-Ok-clause-made : goal.returns-in-Ok-Ok-clause-made
returns-in-Ok-Ok-clause-made g c = λ m works.
    let sealed = c.in-Ok-Ok.ensures.sealed m.state (record { live = works.live; stored = works.stored }) in
    sealed_came c.put.result _ _ _ c.args.given.now.index c.args.pin.now c.in-Ok-Ok.object m
    (λ object. changes_made c.args.given.now.path.now (put_changes c.args.before c.args.old c.args.given.now.index c.args.pin.now object c.args.given.now.table.now))
    (sym sealed.0 ∙ c.in-Ok-Ok.field-0-is)
    (c.put.ensures.made (record m { state = (pin_sealed c.args.given.now.index c.args.pin.now m.state).1 })
    (record { files = works.files; live = sealed.1.live; stored = sealed.1.stored }))

pub returns-in-Err-clause-causes : goal.returns-in-Err-clause-causes
returns-in-Err-clause-causes g c =
    let F = g.F.Files.faults in let T = g.T.Tpm.faults in
    stops (F c.args.files.now, 0, T c.args.tpm.now, 0) (F c.args.files.now, 0, T c.seal_pin.new.tpm, 0) c.seal_pin.result c.in-Err.stop
    (on_tpm (F c.args.files.now) 0 0 (T c.args.tpm.now) (T c.seal_pin.new.tpm) c.seal_pin.result c.seal_pin.ensures.causes) c.in-Err.is

pub returns-in-Err-clause-made : goal.returns-in-Err-clause-made
returns-in-Err-clause-made g c = λ m works.
    pin_stopped _ _ c.args.given.now.path.now c.args.given.now.index c.args.pin.now (λ object. put_changes c.args.before c.args.old c.args.given.now.index c.args.pin.now object c.args.given.now.table.now) m works.files
    (c.in-Err.ensures.sealed m.state (record { live = works.live; stored = works.stored }))
