-- The smallest of tables.
use Rattle.std.specs.Prelude.{ℕ, List, [], ◌∷◌}
use Rattle.hash_bank.specs.declared.bank.Bank.{Bank}
use Rattle.policy_digest.specs.PlainTable.{PlainTable}

-- one row with one list
abbrev pub one_list : Bank → ℕ → List ℕ → PlainTable
one_list bank pcrs list = record { bank = bank; rows = record { pcrs = pcrs; lists = list ∷ [] } ∷ [] }
