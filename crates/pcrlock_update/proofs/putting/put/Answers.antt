use Rattle.std.proofs.Common.{List, subst, ◌∙◌}
use Rattle.pcrlock_update.specs.Changes.{CameTo, changes_made}
use Rattle.pcrlock_update.specs.declared.change.Change.{Change}
use Rattle.pcrlock_update.proofs.putting.put.Goals as goal

pub returns-in-Ok-clause-made : goal.returns-in-Ok-clause-made
returns-in-Ok-clause-made g c = λ m works.
    subst (λ (x : List Change). CameTo c.perform_all.result (g.F.Files.held c.perform_all.new.files) (g.T.Tpm.live c.perform_all.new.tpm) (g.T.Tpm.stored c.perform_all.new.tpm) (changes_made c.args.given.now.path.now x m))
    (c.as_slice.ensures ∙ c.in-Ok.ensures) (c.perform_all.ensures.made m works)
