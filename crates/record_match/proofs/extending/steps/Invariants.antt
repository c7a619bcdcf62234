use Rattle.std.proofs.Common.{◌≡◌, ◌≤◌, take, length}
use Rattle.std.specs.List.{All}
use Rattle.component_tree.specs.PlainTree.{plain}
use Rattle.record_match.specs.Steps.{steps_of}
use Rattle.record_match.proofs.extending.steps.Given as goal

abbrev pub invariant-loop-component : goal.invariant-loop-component
invariant-loop-component l = record {
  value : l.found ≡ steps_of l.bank l.pcr (plain (take l.component-index l.components));
  few : All (λ alternatives. length alternatives ≤ 64) l.found;
}
