-- When the present values open what is bound to them.
use Rattle.std.specs.Prelude.{◌≡◌, ℕ, true, List, Contains, Some}
use Rattle.std.specs.FinMap.{get}
use Rattle.std.specs.List.{AllByRecursion}
use Rattle.hash_bank.specs.declared.banks.Banks.{Banks}
use Rattle.hash_bank.specs.Banks.{has_bank}
use Rattle.policy_digest.specs.PlainTable.{PlainRow, PlainTable}
use Rattle.policy_digest.specs.Strings.{values_string}
use Rattle.tpm_model.specs.Binding.{Binding, Index, Literal}
use Rattle.tpm_model.specs.Pcrs.{chosen, pcr_of, values_of}
use Rattle.tpm_model.specs.World.{LiveIndex, World}

-- the present values of a table's PCRs stand in every row, where its bank is present
pub record Open (table : PlainTable) (banks : Banks) (pcrs : List (List ℕ)) : Type 0 where
  pub present : has_bank banks table.bank ≡ true
  pub listed : AllByRecursion (λ (row : PlainRow). Contains row.lists (values_string (chosen row.pcrs (values_of banks pcrs table.bank)))) table.rows

-- the newest table of the index with this pin is open
pub record UnlocksIndex (w : World) (handle : ℕ) (pin : List ℕ) : Type 0 where
  pub live : LiveIndex
  pub found : get w.live handle ≡ Some live
  pub same : live.pin ≡ pin
  pub opens : Open live.table w.banks w.pcrs

-- the present values unlock what is bound so
abbrev pub Unlocks : World → Binding → Type 0
Unlocks w (Index handle pin) = UnlocksIndex w handle pin
Unlocks w (Literal hash bank pcr value) = pcr_of w.banks w.pcrs bank pcr ≡ Some value
