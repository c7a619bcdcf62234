-- A table of lists of PCR values, as plain data, and the tree of policies that it makes. SHA-256
-- throughout.
use Rattle.std.specs.Prelude.{ℕ, List, [], ◌∷◌, map}
use Rattle.hash_bank.specs.declared.bank.Bank.{Bank}
use Rattle.hash_bank.specs.declared.bank.Bank.TheVariants.{Sha256}
use Rattle.hash_bank.specs.Hash.{digest_in, zeros_in}
use Rattle.policy_digest.specs.Policies.{policy_pcr_of}
use Rattle.policy_digest.specs.Levels.{top_of_leaves}

-- a row: a mask of PCRs, bit i of it standing for PCR i, and the lists of their values that it
-- allows, each with its values joined
pub record PlainRow : Type 0 where
  pub pcrs : ℕ
  pub lists : List (List ℕ)

-- a table: the bank of its values, and its rows
pub record PlainTable : Type 0 where
  pub bank : Bank
  pub rows : List PlainRow

-- the policy by which a row allows one list, after the policy of the rows before it
abbrev pub leaf_of : Bank → List ℕ → ℕ → List ℕ → List ℕ
leaf_of bank before pcrs list = policy_pcr_of Sha256 before bank pcrs (digest_in Sha256 list)

-- the leaves of a row, one for each of its lists
abbrev pub leaves_of : Bank → List ℕ → PlainRow → List (List ℕ)
leaves_of bank before row = map (leaf_of bank before row.pcrs) row.lists

-- the policy of the rows up to this one: the top of its leaves
abbrev pub top_of_row : Bank → List ℕ → PlainRow → List ℕ
top_of_row bank before row = top_of_leaves (leaves_of bank before row)

-- the policy of the last of the rows, where the one before them is given
unfoldable pub root_after : Bank → List ℕ → List PlainRow → List ℕ
root_after bank before [] = before
root_after bank before (row ∷ rows) = root_after bank (top_of_row bank before row) rows

-- the table's policy: the first row's leaves stand on zeros
abbrev pub root_of : PlainTable → List ℕ
root_of table = root_after table.bank (zeros_in Sha256) table.rows
