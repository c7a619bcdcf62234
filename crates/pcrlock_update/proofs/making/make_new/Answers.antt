use Rattle.std.proofs.Common.{sym, ◌∙◌}
use Rattle.pcrlock_line.proofs.Composed.{then}
use Rattle.pcrlock_update.specs.Changes.{changes_made}
use Rattle.pcrlock_update.specs.NewPolicy.{define_changes, force_changes}
use Rattle.pcrlock_update.specs.Sealed.{pin_made}
use Rattle.pcrlock_update.proofs.Lists.{then_came, then_stopped}
use Rattle.pcrlock_update.proofs.making.make_new.Goals as goal

pub returns-in-Ok-None-clause-causes : goal.returns-in-Ok-None-clause-causes
returns-in-Ok-None-clause-causes g c =
    let F = g.F.Files.faults in let T = g.T.Tpm.faults in
    then (F c.args.files.now, 0, T c.args.tpm.now, 0) (F c.define_index.new.files, 0, T c.define_index.new.tpm, 0) (F c.seal_and_put.new.files, 0, T c.seal_and_put.new.tpm, 0)
    c.define_index.result c.seal_and_put.result c.define_index.ensures.causes c.seal_and_put.ensures.causes

pub returns-in-Ok-None-clause-made : goal.returns-in-Ok-None-clause-made
returns-in-Ok-None-clause-made g c = λ m works.
    let first = changes_made c.args.given.now.path.now (define_changes c.args.stands c.args.given.now.index c.args.pin.now) m in
    let made = c.in-Ok-None.ensures.made m works in
    then_came c.seal_and_put.result _ _ _ first
    (pin_made c.args.given.now.index c.args.pin.now (λ object. changes_made c.args.given.now.path.now (force_changes c.args.old c.args.given.now.index c.args.pin.now c.args.given.now.table.now object)))
    (sym c.in-Ok-None.field-0-is ∙ made.0) (c.seal_and_put.ensures.made first.after made.1)

pub returns-in-Err-clause-made : goal.returns-in-Err-clause-made
returns-in-Err-clause-made g c = λ m works.
    then_stopped _ _ (changes_made c.args.given.now.path.now (define_changes c.args.stands c.args.given.now.index c.args.pin.now) m)
    (pin_made c.args.given.now.index c.args.pin.now (λ object. changes_made c.args.given.now.path.now (force_changes c.args.old c.args.given.now.index c.args.pin.now c.args.given.now.table.now object)))
    (c.in-Err.ensures.made m works)
