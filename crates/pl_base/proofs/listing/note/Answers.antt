use Rattle.std.proofs.Common.{ap, ◌∙◌}
use Rattle.std.specs.Prelude.{Some}
use Rattle.pl_base.specs.Listing.{joined}
use Rattle.pl_base.proofs.Parts.{noted}
use Rattle.pl_base.proofs.listing.note.Goals as goal

pub returns : goal.returns
returns c = noted c.args.names.now c.insert.new.self c.in_ok-from_str.field-0 c.args.name.now c.is_folder-folder.result c.args.folder c.in_ok-from_str.ensures.ok c.in_ok-insert.ensures.updates
    (c.is_folder-folder.ensures ∙ ap (λ known. joined known (Some c.args.folder)) (c.copied.ensures ∙ c.get.ensures.value))
