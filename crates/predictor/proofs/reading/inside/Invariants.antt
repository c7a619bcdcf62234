use Rattle.std.proofs.Common.{◌≡◌, ◌≤◌, length, take}
use Rattle.component_tree.specs.PlainTree.{plain}
use Rattle.predictor.specs.Cuts.{inside_of}
use Rattle.predictor.proofs.reading.inside.Given as goal

abbrev pub invariant-loop-component : goal.invariant-loop-component
invariant-loop-component l = record {
  small : l.count ≤ l.component-index;
  so_far : l.count ≡ length (inside_of l.end (plain (take l.component-index l.tree.components)));
}
