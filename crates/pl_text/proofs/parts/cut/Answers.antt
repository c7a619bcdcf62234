use Rattle.std.proofs.Common.{◌+◌, ◌-◌, ◌≤◌, ◌∷◌, length, take, drop, take_all, sym, ap, ◌∙◌, arith}
use Rattle.std.proofs.lemmas.List.{length-drop}
use Rattle.pl_text.specs.Parts.{parts_of}
use Rattle.pl_text.proofs.Splits.{parts_alone, parts_at}
use Rattle.pl_text.proofs.parts.cut.Goals as goal

pub returns-in-Some-clause-parts : goal.returns-in-Some-clause-parts
returns-in-Some-clause-parts c =
    let text = c.args.text.now in
    let next = c.in-Some.end + 1 in
    let short : length (drop next text) ≤ length text - next = omega (arith, length-drop next text) in
    parts_at c.args.byte c.in-Some.end text (sym c.in-Some.ensures)
    ∙ ap (λ rest. take c.in-Some.end text ∷ parts_of c.args.byte rest) (sym (take_all (length text - next) (drop next text) short))

pub returns-in-None-clause-parts : goal.returns-in-None-clause-parts
returns-in-None-clause-parts c = parts_alone c.args.byte c.args.text.now (sym c.in-None.ensures)
