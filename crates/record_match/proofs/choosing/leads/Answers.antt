use Rattle.std.proofs.Common.{◌&&◌, Bool, sym, ap, ◌∙◌}
use Rattle.std.proofs.Math.Bool.{and-true, and-false}
use Rattle.record_match.specs.Walk.{begins}
use Rattle.record_match.proofs.choosing.leads.Goals as goal

pub returns-then-is_noted : goal.returns-then-is_noted
returns-then-is_noted c =
    let first = begins c.args.digests.now c.args.list.now in
    c.begins_with.ensures ∙ sym (ap (λ (b : Bool). first && b) (sym c.is_noted.ensures ∙ c.if-is_noted.true) ∙ and-true first)

pub returns-else-is_noted : goal.returns-else-is_noted
returns-else-is_noted c =
    let first = begins c.args.digests.now c.args.list.now in
    c.if-is_noted.false ∙ sym (ap (λ (b : Bool). first && b) (sym c.is_noted.ensures ∙ c.if-is_noted.false) ∙ and-false first)
