use Rattle.std.proofs.Common.{ℕ, ◌<◌, length, get_or}
use Rattle.component_tree.specs.declared.tree.Component.{Component}
use Rattle.component_tree.specs.PlainTree.{plain_component}
use Rattle.record_match.specs.Noted.{NotesComponent}
use Rattle.record_match.proofs.noting.note_all.Given as goal

abbrev pub invariant-loop-number : goal.invariant-loop-number
invariant-loop-number l = (k : ℕ) (d : Component) → k < l.number → NotesComponent l.numbers k (plain_component (get_or l.components k d))
