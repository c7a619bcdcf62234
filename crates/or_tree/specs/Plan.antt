-- The branches of a table.
use Rattle.std.specs.Prelude.{ℕ, List, [], ◌∷◌, Option, None, Some, slice_get}
use Rattle.hash_bank.specs.declared.bank.Bank.{Bank}
use Rattle.hash_bank.specs.declared.bank.Bank.TheVariants.{Sha256}
use Rattle.hash_bank.specs.Hash.{zeros_in}
use Rattle.policy_digest.specs.PlainTable.{PlainRow, PlainTable, leaves_of, root_of, top_of_row}

-- a row: its mask of PCRs, and its leaves, one for each of its lists
pub record RowPlan : Type 0 where
  pub pcrs : ℕ
  pub leaves : List (List ℕ)

-- a table: its bank, its rows, and its root
pub record Plan : Type 0 where
  pub bank : Bank
  pub rows : List RowPlan
  pub root : List ℕ

-- a row behind the policy of the rows before it
abbrev pub row_plan : Bank → List ℕ → PlainRow → RowPlan
row_plan bank before row = record { pcrs = row.pcrs; leaves = leaves_of bank before row }

-- the rows, where the policy before them is given
unfoldable pub rows_after : Bank → List ℕ → List PlainRow → List RowPlan
rows_after bank before [] = []
rows_after bank before (row ∷ rows) =
    row_plan bank before row ∷ rows_after bank (top_of_row bank before row) rows

-- the branches of a table: the first row's leaves stand on zeros
abbrev pub plan_of : PlainTable → Plan
plan_of table = record { bank = table.bank; rows = rows_after table.bank (zeros_in Sha256) table.rows; root = root_of table }

-- the leaves of a row, where it is there
abbrev pub leaves_in : Option RowPlan → List (List ℕ)
leaves_in None = []
leaves_in (Some row) = row.leaves

-- the leaves of the row of this number
abbrev pub leaves_at : Plan → ℕ → List (List ℕ)
leaves_at plan row = leaves_in (slice_get plan.rows row)

-- the mask of a row, where it is there
abbrev pub pcrs_in : Option RowPlan → ℕ
pcrs_in None = 0
pcrs_in (Some row) = row.pcrs

-- the mask of the row of this number
abbrev pub pcrs_at : Plan → ℕ → ℕ
pcrs_at plan row = pcrs_in (slice_get plan.rows row)
