use Rattle.std.proofs.Common.{[], ◌∷◌, sym, ap, ◌∙◌}
use Rattle.tpm_commands.specs.File.{line_of, lines_of}
use Rattle.tpm_commands.specs.Walk.{behind_line, items_from, lines_by}
use Rattle.tpm_commands.proofs.Walks.{first_by, none_by, walk_done, walk_ends, walk_on, walk_too_many, some_line}
use Rattle.tpm_commands.proofs.lines.read_some.Goals as goal

pub returns-then-is_empty : goal.returns-then-is_empty
returns-then-is_empty g c =
    let S = g.G.Grammar.spells in
    let B = g.G.Grammar.behind in
    walk_done c.loop-place.place _ c.loop-place.items (lines_by S B c.loop-place.grammar (lines_of c.loop-place.rest.now)) (items_from 0 c.args.limit [] (lines_by S B c.args.grammar.now (lines_of c.args.text.now)))
    (none_by S B c.loop-place.grammar c.loop-place.rest.now (sym c.is_empty.ensures ∙ c.if-is_empty.true)) c.loop-place.invariant

pub returns-in-Err : goal.returns-in-Err
returns-in-Err g c =
    let S = g.G.Grammar.spells in
    let B = g.G.Grammar.behind in
    walk_ends c.in-Err.error c.loop-place.place c.args.limit c.loop-place.items (lines_by S B c.loop-place.grammar (lines_of c.loop-place.rest.now))
    (line_of (S c.loop-place.grammar) c.next_line.result.0.now) (lines_by S B (behind_line B c.loop-place.grammar c.next_line.result.0.now) (lines_of c.next_line.result.1.now))
    (items_from 0 c.args.limit [] (lines_by S B c.args.grammar.now (lines_of c.args.text.now))) c.loop-place-test.true
    (first_by S B c.loop-place.grammar (lines_of c.loop-place.rest.now) c.next_line.result.0.now (lines_of c.next_line.result.1.now) c.next_line.ensures.lines)
    c.loop-place.invariant c.in-Err.ensures.items

pub loop-place-preserved : goal.loop-place-preserved
loop-place-preserved g c =
    let S = g.G.Grammar.spells in
    let B = g.G.Grammar.behind in
    walk_on c.loop-place.place c.args.limit c.loop-place.items c.take_line.new.items (lines_by S B c.loop-place.grammar (lines_of c.loop-place.rest.now))
    (line_of (S c.loop-place.grammar) c.next_line.result.0.now) (lines_by S B c.take_line.new.grammar (lines_of c.next_line.result.1.now))
    (items_from 0 c.args.limit [] (lines_by S B c.args.grammar.now (lines_of c.args.text.now))) c.loop-place-test.true
    (first_by S B c.loop-place.grammar (lines_of c.loop-place.rest.now) c.next_line.result.0.now (lines_of c.next_line.result.1.now) c.next_line.ensures.lines
    ∙ ap (λ grammar. line_of (S c.loop-place.grammar) c.next_line.result.0.now ∷ lines_by S B grammar (lines_of c.next_line.result.1.now)) (sym c.in-Ok.ensures.behind))
    c.loop-place.invariant c.in-Ok.ensures.items

pub returns-then-is_empty-2 : goal.returns-then-is_empty-2
returns-then-is_empty-2 g c =
    let S = g.G.Grammar.spells in
    let B = g.G.Grammar.behind in
    walk_done c.loop-place.place _ c.loop-place.items (lines_by S B c.loop-place.grammar (lines_of c.loop-place.rest.now)) (items_from 0 c.args.limit [] (lines_by S B c.args.grammar.now (lines_of c.args.text.now)))
    (none_by S B c.loop-place.grammar c.loop-place.rest.now (sym c.is_empty-2.ensures ∙ c.if-is_empty-2.true)) c.loop-place.invariant

pub returns-else-is_empty-2 : goal.returns-else-is_empty-2
returns-else-is_empty-2 g c =
    let S = g.G.Grammar.spells in
    let B = g.G.Grammar.behind in
    let some = some_line c.loop-place.rest.now (sym c.is_empty-2.ensures ∙ c.if-is_empty-2.false) in
    walk_too_many c.loop-place.place c.args.limit c.loop-place.items (lines_by S B c.loop-place.grammar (lines_of c.loop-place.rest.now))
    (line_of (S c.loop-place.grammar) some.first) (lines_by S B (behind_line B c.loop-place.grammar some.first) some.rest)
    (items_from 0 c.args.limit [] (lines_by S B c.args.grammar.now (lines_of c.args.text.now))) c.loop-place-test.false
    (first_by S B c.loop-place.grammar (lines_of c.loop-place.rest.now) some.first some.rest some.is) c.loop-place.invariant
