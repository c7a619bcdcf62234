use Rattle.std.proofs.Common.{◌≡◌, ◌≤◌, ◌*◌, length}
use Rattle.component_tree.specs.PlainTree.{plain}
use Rattle.pcrlock_proofs.specs.Passes.{AreOf}
use Rattle.pcrlock_proofs.proofs.Each.{behind, from_pcr, whole}
use Rattle.pcrlock_proofs.proofs.proving.proofs_each.Given as goal

abbrev pub invariant-loop-pcr : goal.invariant-loop-pcr
invariant-loop-pcr l = record {
  rest : whole l.asked l.location (plain l.tree.components) ≡ behind l.list.items (from_pcr l.asked l.location (plain l.tree.components) l.pcr);
  few : length l.list.items ≤ 512 * l.pcr;
  passing : AreOf 1 l.asked l.location (plain l.tree.components) l.list.items;
}
