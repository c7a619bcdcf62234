use Rattle.std.proofs.Common.{◌≡◌, take}
use Rattle.policy_digest.proofs.table.Row.copy.Given as goal

abbrev pub invariant-loop-values : goal.invariant-loop-values
invariant-loop-values l = l.choices ≡ take l.values-index l.self.choices
