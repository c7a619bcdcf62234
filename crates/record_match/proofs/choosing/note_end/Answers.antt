use Rattle.std.proofs.Common.{◌≡◌, length, ap, ◌∙◌, true, ◌++◌, ◌∷◌, [], arith}
use Rattle.record_match.proofs.FirstChoice.{end_noted}
use Rattle.record_match.proofs.choosing.note_end.Goals as goal

pub returns : goal.returns
returns c =
    let n : c.loop.index ≡ length c.args.list.now = omega arith in
    end_noted c.args.list.now c.push-2.new.self (rw n at (c.in_ok-push-2.ensures ∙ ap (λ bs. bs ++ true ∷ []) c.loop.invariant))
