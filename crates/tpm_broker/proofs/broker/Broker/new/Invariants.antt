use Rattle.std.proofs.Common.{◌≡◌, replicate}
use Rattle.tpm_broker.specs.Clients.{new_client}
use Rattle.tpm_broker.proofs.broker.Broker.new.Given as goal

abbrev pub invariant-loop : goal.invariant-loop
invariant-loop l = l.rows.items ≡ replicate l.counter new_client
