-- When a table is open, in the words of single values.
use Rattle.std.specs.Prelude.{◌≡◌, ℕ, true, List, map, Contains, Some}
use Rattle.std.specs.List.{AllByRecursion}
use Rattle.hash_bank.specs.declared.bank.Bank.{Bank}
use Rattle.hash_bank.specs.declared.banks.Banks.{Banks}
use Rattle.hash_bank.specs.Banks.{has_bank}
use Rattle.policy_digest.specs.Mask.{pcrs_of}
use Rattle.policy_digest.specs.declared.table.Row.{Row}
use Rattle.policy_digest.specs.declared.table.Table.{Table}
use Rattle.tpm_model.specs.Pcrs.{pcr_of}

-- one of the row's lists has, PCR by PCR, the values that the row's PCRs hold
pub record IsMet (bank : Bank) (banks : Banks) (pcrs : List (List ℕ)) (row : Row) : Type 0 where
  pub choice : List (List ℕ)
  pub listed : Contains row.choices choice
  pub holds : map (pcr_of banks pcrs bank) (pcrs_of row.pcrs) ≡ map Some choice

-- the table's bank is present, and each row is met
pub record IsOpenByValues (table : Table) (banks : Banks) (pcrs : List (List ℕ)) : Type 0 where
  pub present : has_bank banks table.bank ≡ true
  pub met : AllByRecursion (IsMet table.bank banks pcrs) table.rows
