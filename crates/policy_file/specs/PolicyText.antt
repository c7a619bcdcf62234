-- What a policy file says, and its one text.
use Rattle.std.specs.Prelude.{◌≡◌, ◌==◌, ℕ, ◌≤◌, Bool, true, if◌then◌else◌, List, [], ◌∷◌, ◌++◌, length}
use Rattle.std.specs.Int.{w16, w32, to_be_bytes}
use Rattle.std.specs.List.{AllByRecursion, flat_map, list_all}
use Rattle.hash_bank.specs.Hash.{algorithm_in}
use Rattle.policy_digest.specs.declared.table.Row.{Row}
use Rattle.policy_digest.specs.declared.table.Table.{Table}
use Rattle.policy_digest.specs.Mask.{has_pcr, pcrs_of}
use Rattle.policy_digest.specs.Strings.{values_string}
use Rattle.policy_digest.specs.Table.{valid_table}
use Rattle.policy_file.specs.declared.policy.Policy.{Policy}
use Rattle.policy_file.specs.declared.version.Version.{Version}
use Rattle.policy_file.specs.declared.version.Version.TheVariants.{One, Two}
use Rattle.policy_file.specs.TokenText.{IsObject}

-- the handles of NV indices, 0x01000000 to 0x01ffffff (TPM 2.0 Library Part 2, TPM_HT_NV_INDEX)
abbrev pub IsIndex : ℕ → Type 0
IsIndex handle = (0x01000000 ≤ handle) × (handle ≤ 0x01FFFFFF)

-- a policy that has a text
pub record IsPolicy (p : Policy) : Type 0 where
  pub handle : IsIndex p.handle
  pub index_policy : length p.index_policy ≡ 32
  pub pin_object : IsObject p.pin_object
  pub some : 1 ≤ length p.tables
  pub few : length p.tables ≤ 2
  pub tables : AllByRecursion (λ (t : Table). valid_table t ≡ true) p.tables

-- a row of one PCR
abbrev pub is_single : Row → Bool
is_single row = length (pcrs_of row.pcrs) == 1

-- tables of which each row is of one PCR
abbrev pub all_single : List Table → Bool
all_single tables = list_all (λ (t : Table). list_all is_single t.rows) tables

-- the version that says them
abbrev pub version_of : List Table → Version
version_of tables = if all_single tables then One else Two

-- `PLPOL`, and the version in three bytes
abbrev pub policy_magic : Version → List ℕ
policy_magic One = 80 ∷ 76 ∷ 80 ∷ 79 ∷ 76 ∷ 0 ∷ 0 ∷ 1 ∷ []
policy_magic Two = 80 ∷ 76 ∷ 80 ∷ 79 ∷ 76 ∷ 0 ∷ 0 ∷ 2 ∷ []

-- the number of a PCR, where it is in the mask
abbrev pub alone_in : ℕ → ℕ → List ℕ
alone_in mask pcr = if has_pcr mask pcr then pcr ∷ [] else []

-- which PCRs a row is of: in version 1 the number of the one, in version 2 the mask
abbrev pub mask_text : Version → ℕ → List ℕ
mask_text One mask = pcrs_of mask
mask_text Two mask = to_be_bytes w32 mask

-- the PCRs, the number of lists, and the values of each list in order
abbrev pub row_text : Version → Row → List ℕ
row_text version row =
    mask_text version row.pcrs ++ (to_be_bytes w16 (length row.choices) ++ flat_map values_string row.choices)

-- the bank's algorithm, the number of rows, and the rows
abbrev pub table_text : Version → Table → List ℕ
table_text version table =
    to_be_bytes w16 (algorithm_in table.bank) ++ (length table.rows ∷ flat_map (row_text version) table.rows)

-- the index, the policy that writes it, the object that holds the pin, the number of tables, and the
-- tables
abbrev pub body_text : Version → Policy → List ℕ
body_text version p =
    to_be_bytes w32 p.handle
    ++ (p.index_policy
    ++ (to_be_bytes w32 p.pin_object ++ (length p.tables ∷ flat_map (table_text version) p.tables)))

abbrev pub policy_text : Policy → List ℕ
policy_text p = policy_magic (version_of p.tables) ++ body_text (version_of p.tables) p
