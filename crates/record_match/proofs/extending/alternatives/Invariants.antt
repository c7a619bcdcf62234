use Rattle.std.proofs.Common.{◌≡◌, map, take, length}
use Rattle.component_tree.specs.PlainTree.{plain_variant}
use Rattle.record_match.specs.Steps.{alternatives_of}
use Rattle.record_match.proofs.extending.alternatives.Given as goal

abbrev pub invariant-loop-variant : goal.invariant-loop-variant
invariant-loop-variant l = record {
  value : l.found ≡ alternatives_of l.bank l.pcr (map plain_variant (take l.variant-index l.variants));
  count : length l.found ≡ l.variant-index;
}
