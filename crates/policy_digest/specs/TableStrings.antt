-- The strings that are hashed on the way to a table's policy.
use Rattle.std.specs.Prelude.{ℕ, List, [], ◌∷◌, ◌++◌, map}
use Rattle.std.specs.List.{flat_map}
use Rattle.hash_bank.specs.declared.bank.Bank.{Bank}
use Rattle.hash_bank.specs.declared.bank.Bank.TheVariants.{Sha256}
use Rattle.hash_bank.specs.Hash.{digest_in, zeros_in}
use Rattle.hash_bank.specs.HashedString.{HashedString}
use Rattle.policy_digest.specs.Levels.{groups, listed, next_level}
use Rattle.policy_digest.specs.PlainTable.{PlainRow, PlainTable, leaves_of, top_of_row}
use Rattle.policy_digest.specs.Strings.{or_string_in, pcr_string_in}

-- some bytes under SHA-256
abbrev pub under_sha256 : List ℕ → HashedString
under_sha256 bytes = record { hash = Sha256; bytes = bytes }

-- the string of the leaf for one list
abbrev pub leaf_string : Bank → List ℕ → ℕ → List ℕ → HashedString
leaf_string bank before pcrs list = under_sha256 (pcr_string_in Sha256 before bank pcrs (digest_in Sha256 list))

-- the string of a list that PolicyOR joins
abbrev pub or_string : List (List ℕ) → HashedString
or_string list = under_sha256 (or_string_in Sha256 list)

-- the strings of a level's groups of two or more
unfoldable pub level_strings : List (List ℕ) → List HashedString
level_strings level = map or_string (flat_map listed (groups level))

-- the strings of the three levels above some leaves
abbrev pub levels_strings : List (List ℕ) → List HashedString
levels_strings leaves =
    level_strings leaves ++ level_strings (next_level leaves) ++ level_strings (next_level (next_level leaves))

-- the strings of a row: its lists, its leaves and its groups
unfoldable pub row_strings : Bank → List ℕ → PlainRow → List HashedString
row_strings bank before row =
    map under_sha256 row.lists
    ++ map (leaf_string bank before row.pcrs) row.lists
    ++ levels_strings (leaves_of bank before row)

-- the strings of the rows, where the policy before them is given
unfoldable pub rows_strings : Bank → List ℕ → List PlainRow → List HashedString
rows_strings bank before [] = []
rows_strings bank before (row ∷ rows) =
    row_strings bank before row ++ rows_strings bank (top_of_row bank before row) rows

-- the strings of a table
abbrev pub table_strings : PlainTable → List HashedString
table_strings table = rows_strings table.bank (zeros_in Sha256) table.rows
