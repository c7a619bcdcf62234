use Rattle.std.proofs.Common.{◌≡◌, ◌++◌, drop, map, take}
use Rattle.tpm_broker.specs.Clients.{without_all}
use Rattle.tpm_broker.proofs.broker.end_all.Given as goal

abbrev pub invariant-loop-client : goal.invariant-loop-client
invariant-loop-client l = l.rows ≡ map without_all (take l.client-index l.fn.rows) ++ drop l.client-index l.fn.rows
