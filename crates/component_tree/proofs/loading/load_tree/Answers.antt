use Rattle.std.proofs.Common.{sym, ◌∙◌}
use Rattle.component_tree.proofs.Selecting.{tree_of}
use Rattle.component_tree.proofs.There.{all_there}
use Rattle.component_tree.proofs.loading.load_tree.Goals as goal

pub load-requires : goal.load-requires
load-requires g c = record {
  there = λ map held. all_there map c.args.folders.now c.in_ok-taken.taken.first.entries c.in_ok-taken.ensures.in_order
      (c.in_ok-taken.ensures.told map (sym c.walk.ensures.same ∙ held));
}

pub returns-clause-selected : goal.returns-clause-selected
returns-clause-selected g c = λ map held.
    tree_of map c.args.folders.now c.in_ok-taken.taken.first.entries c.in_ok-taken.ensures.in_order (c.in_ok-taken.ensures.told map held) c.load.result
    (c.load.ensures.told map (c.walk.ensures.same ∙ held))
