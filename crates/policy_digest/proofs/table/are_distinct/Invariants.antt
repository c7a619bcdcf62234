use Rattle.std.proofs.Common.{◌≡◌, drop}
use Rattle.policy_digest.specs.Table.{each_pair, differ}
use Rattle.policy_digest.proofs.table.are_distinct.Given as goal

abbrev pub invariant-loop-place : goal.invariant-loop-place
invariant-loop-place l = each_pair differ (drop l.place l.choices) ≡ each_pair differ l.choices
