-- What a PolicyPCR tells.
use Rattle.std.specs.Prelude.{◌≡◌, ℕ, List}
use Rattle.hash_bank.specs.declared.bank.Bank.{Bank}

-- two of them have the same digest before, the same bank and mask of PCRs, and the same digest of
-- values
pub record IsSameLook (before after : List ℕ) (bank other : Bank) (pcrs others : ℕ) (seen values : List ℕ) : Type 0 where
  pub old : before ≡ after
  pub banks : bank ≡ other
  pub masks : pcrs ≡ others
  pub digests : seen ≡ values
