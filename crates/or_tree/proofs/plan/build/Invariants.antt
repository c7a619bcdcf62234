-- the rows so far, and the policy on which the next one stands
use Rattle.std.proofs.Common.{◌≡◌, ◌++◌, length, map, drop}
use Rattle.hash_bank.specs.declared.bank.Bank.TheVariants.{Sha256}
use Rattle.hash_bank.specs.Hash.{zeros_in}
use Rattle.policy_digest.specs.Plain.{plain_row}
use Rattle.policy_digest.specs.PlainTable.{root_after}
use Rattle.or_tree.specs.Plan.{rows_after}
use Rattle.or_tree.proofs.plan.build.Given as goal

abbrev pub invariant-loop-row : goal.invariant-loop-row
invariant-loop-row l =
    (rows_after l.table.bank (zeros_in Sha256) (map plain_row l.table.rows) ≡ l.rows ++ rows_after l.table.bank l.root (map plain_row (drop l.row-index l.table.rows)))
    × (root_after l.table.bank (zeros_in Sha256) (map plain_row l.table.rows) ≡ root_after l.table.bank l.root (map plain_row (drop l.row-index l.table.rows)))
    × (length l.root ≡ 32)
    × (length l.rows ≡ l.row-index)
