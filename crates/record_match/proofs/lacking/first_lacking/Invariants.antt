use Rattle.std.proofs.Common.{◌≡◌, map, drop}
use Rattle.component_tree.specs.PlainTree.{plain_component}
use Rattle.record_match.specs.Lacking.{first_giving, lacking_among}
use Rattle.record_match.proofs.lacking.first_lacking.Given as goal

abbrev pub invariant-loop-number : goal.invariant-loop-number
invariant-loop-number l = first_giving (lacking_among l.bank l.pcr) l.number (map plain_component (drop l.number l.components)) ≡ first_giving (lacking_among l.bank l.pcr) 0 (map plain_component l.components)
