use Rattle.std.proofs.Common.{◌≡◌, ◌-◌, []}
use Rattle.tpm_commands.specs.File.{lines_of}
use Rattle.tpm_commands.specs.Walk.{items_from, lines_by}
use Rattle.tpm_commands.proofs.lines.read_some.Given as goal

abbrev pub invariant-loop-place : goal.invariant-loop-place
invariant-loop-place g l =
    items_from l.place (l.limit - l.place) l.items (lines_by g.G.Grammar.spells g.G.Grammar.behind l.grammar (lines_of l.rest))
    ≡ items_from 0 l.limit [] (lines_by g.G.Grammar.spells g.G.Grammar.behind l.fn.grammar (lines_of l.text))
