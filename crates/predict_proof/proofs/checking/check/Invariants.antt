use Rattle.std.proofs.Common.{◌≡◌, take, drop}
use Rattle.std.specs.List.{All}
use Rattle.component_tree.specs.PlainTree.{plain}
use Rattle.predictor.specs.Cuts.{inside_of}
use Rattle.predictor.specs.Foreseen.{first_cut}
use Rattle.predict_proof.specs.Fault.{first_fault, first_fault_from}
use Rattle.predict_proof.specs.Proved.{Proved}
use Rattle.predict_proof.proofs.checking.check.Given as goal

abbrev pub invariant-loop-number : goal.invariant-loop-number
invariant-loop-number l = record {
  proved : All (Proved l.bank l.locality l.window (plain l.tree.components)) (take l.number l.list);
  rest : first_fault_from l.bank l.locality (first_cut l.window (plain l.tree.components)) (inside_of l.window.end (plain l.tree.components)) l.number (drop l.number l.list)
      ≡ first_fault l.bank l.locality l.window (plain l.tree.components) l.list;
}
