use Rattle.std.proofs.Common.{List, ◌≤◌, length, sym, subst, arith}
use Rattle.std.proofs.lemmas.List.{length-replicate}
use Rattle.tpm_broker.specs.Clients.{Client}
use Rattle.tpm_broker.proofs.broker.Broker.new.Goals as goal

pub invariant_of-result : goal.invariant_of-result
invariant_of-result c = subst (λ (xs : List Client). length xs ≤ 16) (sym c.loop.invariant) (rw length-replicate (omega arith))
