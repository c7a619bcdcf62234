-- Which plain tables are policies.
use Rattle.std.specs.Prelude.{◌≡◌, true}
use Rattle.policy_digest.specs.Plain.{plain_table}
use Rattle.policy_digest.specs.PlainTable.{PlainTable}
use Rattle.policy_digest.specs.Table.{valid_table}
use Rattle.policy_digest.specs.declared.table.Table.{Table}

-- the plain form of a valid table, whose lists still have their values one by one
pub record IsValidTable (plain : PlainTable) : Type 0 where
  pub table : Table
  pub valid : valid_table table ≡ true
  pub same : plain ≡ plain_table table
