use Rattle.std.proofs.Common.{ap, ◌∙◌}
use Rattle.std.specs.Option.{unwrap_or}
use Rattle.pl_base.specs.MemoryFiles.{MemoryFiles}
use Rattle.pl_base.proofs.HeldFiles.{unchanged}
use Rattle.pl_base.proofs.mem_files.MemFilesFiles.remove.Goals as goal

pub returns-else-take-clause-told : goal.returns-else-take-clause-told
returns-else-take-clause-told c = λ files told.
    let held = λ (s : MemoryFiles). s.held in
    unchanged _ c.take.new.self.held c.args.path.now c.if-take.ensures.was (ap held c.take.ensures.gone) files (ap held c.self.view_is ∙ ap (λ o. unwrap_or o files) told)
