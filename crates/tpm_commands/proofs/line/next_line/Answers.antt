use Rattle.std.proofs.Common.{◌∷◌, ap, ◌∙◌}
use Rattle.pl_text.specs.Parts.{parts_behind}
use Rattle.tpm_commands.proofs.Walks.{line_alone, lines_with}
use Rattle.tpm_commands.proofs.line.next_line.Goals as goal

pub returns-in-Some-clause-lines : goal.returns-in-Some-clause-lines
returns-in-Some-clause-lines c =
    lines_with c.cut.result.0.now c.args.text.now c.in-Some.behind.now
    (c.cut.ensures.parts ∙ ap (λ rest. c.cut.result.0.now ∷ parts_behind 10 rest) c.in-Some.is)

pub returns-in-None-clause-lines : goal.returns-in-None-clause-lines
returns-in-None-clause-lines c =
    line_alone c.cut.result.0.now c.args.text.now c.requires
    (c.cut.ensures.parts ∙ ap (λ rest. c.cut.result.0.now ∷ parts_behind 10 rest) c.in-None.is)
