use Rattle.std.proofs.Common.{◌≡◌, map, drop}
use Rattle.component_tree.specs.PlainTree.{plain_variant}
use Rattle.record_match.specs.Lacking.{first_giving, lacking_in}
use Rattle.record_match.proofs.lacking.lacking_variant.Given as goal

abbrev pub invariant-loop-number : goal.invariant-loop-number
invariant-loop-number l = first_giving (lacking_in l.bank l.pcr) l.number (map plain_variant (drop l.number l.component.variants)) ≡ first_giving (lacking_in l.bank l.pcr) 0 (map plain_variant l.component.variants)
