use Rattle.std.proofs.Common.{◌∷◌, ◌++◌, ap, ◌∙◌, rules}
use Rattle.pl_base.specs.FileMap.{slash}
use Rattle.pl_base.proofs.Parts.{told_other, told_empty, told_named}
use Rattle.pl_base.proofs.listing.name_below.Goals as goal

pub returns-in-None : goal.returns-in-None
returns-in-None c = λ name. told_other c.args.path.now name c.args.held.now c.in-None.ensures

pub returns-then-is_empty : goal.returns-then-is_empty
returns-then-is_empty c = λ name. told_empty c.args.path.now name c.first_part-folder.result.0.now c.first_part-folder.ensures.whole.0 c.args.held.now c.first_part-folder.result.1 c.first_part-folder.ensures.plain
    (c.in-Some.ensures ∙ ap (λ t. c.args.path.now ++ slash ∷ t) c.first_part-folder.ensures.whole.1)
    (search rules)

pub returns-else-is_empty : goal.returns-else-is_empty
returns-else-is_empty c = λ name. told_named c.args.path.now name c.first_part-folder.result.0.now c.first_part-folder.ensures.whole.0 c.args.held.now c.first_part-folder.result.1 c.first_part-folder.ensures.plain
    (c.in-Some.ensures ∙ ap (λ t. c.args.path.now ++ slash ∷ t) c.first_part-folder.ensures.whole.1)
    (search rules)
