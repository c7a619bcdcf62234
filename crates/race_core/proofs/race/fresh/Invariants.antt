use Rattle.std.proofs.Common.{◌≡◌}
use Rattle.std.specs.Prelude.{replicate}
use Rattle.race_core.specs.declared.client.Client.TheVariants as client
use Rattle.race_core.proofs.race.fresh.Given as goal

abbrev pub invariant-loop-place : goal.invariant-loop-place
invariant-loop-place l = l.clients.items ≡ replicate l._place client.Fresh
