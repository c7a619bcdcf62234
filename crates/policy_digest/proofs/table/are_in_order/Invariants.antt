use Rattle.std.proofs.Common.{◌≡◌, drop}
use Rattle.policy_digest.specs.Table.{each_pair, precedes}
use Rattle.policy_digest.proofs.table.are_in_order.Given as goal

abbrev pub invariant-loop-place : goal.invariant-loop-place
invariant-loop-place l = each_pair precedes (drop l.place l.rows) ≡ each_pair precedes l.rows
