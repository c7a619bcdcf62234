-- When a trail walks a table of lists of PCR values: row by row, and nothing else. Trails stand in the order of time here.
use Rattle.std.specs.Prelude.{◌≡◌, ℕ, ◌<◌, List, [], ◌∷◌, ◌++◌, map, length, get_or, Contains}
use Rattle.hash_bank.specs.declared.bank.Bank.{Bank}
use Rattle.hash_bank.specs.declared.bank.Bank.TheVariants.{Sha256}
use Rattle.hash_bank.specs.Hash.{digest_in, zeros_in}
use Rattle.policy_digest.specs.Levels.{path_of}
use Rattle.policy_digest.specs.PlainTable.{PlainRow, PlainTable, leaves_of, top_of_row}
use Rattle.tpm_model.specs.declared.trail.TrailEntry.{TrailEntry}
use Rattle.tpm_model.specs.declared.trail.TrailEntry.TheVariants.{Pcr, Or, AuthorizeNv}
use Rattle.tpm_model.specs.Trails.{trail_digest}

-- a walk of one row by the list at this place: PolicyPCR with the list's values, then PolicyOR with each list on the
-- way from its leaf to the top
abbrev pub row_entries : Bank → List ℕ → PlainRow → ℕ → List TrailEntry
row_entries bank before row place =
    Pcr bank row.pcrs (digest_in Sha256 (get_or row.lists place [])) ∷ map Or (path_of (leaves_of bank before row) place)

-- the trail walks each row in order, by one of its lists, and nothing else stands in it
abbrev pub WalksRows : Bank → List ℕ → List PlainRow → List TrailEntry → Type 0
WalksRows bank before [] trail = trail ≡ []
WalksRows bank before (row ∷ rows) trail =
    (place : ℕ) × (place < length row.lists) × (rest : List TrailEntry)
    × (trail ≡ row_entries bank before row place ++ rest) × WalksRows bank (top_of_row bank before row) rows rest

-- the trail walks the table, whose first row stands on zeros
abbrev pub Walks : List TrailEntry → PlainTable → Type 0
Walks trail table = WalksRows table.bank (zeros_in Sha256) table.rows trail

-- the trail ends with a walk of the row, and what stands before that leads to the policy before the row
pub record EndsWithRow (bank : Bank) (before : List ℕ) (row : PlainRow) (trail : List TrailEntry) : Type 0 where
  pub place : ℕ
  pub inside : place < length row.lists
  pub earlier : List TrailEntry
  pub walked : trail ≡ earlier ++ row_entries bank before row place
  pub led : trail_digest Sha256 earlier ≡ before

-- the trail has a look at the row's PCRs, which saw one of its lists
pub record LooksAt (bank : Bank) (row : PlainRow) (trail : List TrailEntry) : Type 0 where
  pub list : List ℕ
  pub listed : Contains row.lists list
  pub stands : Contains trail (Pcr bank row.pcrs (digest_in Sha256 list))

-- an entry is none of PolicyAuthorizeNV
abbrev pub ReadsNot : TrailEntry → Type 0
ReadsNot (Pcr bank pcrs values) = Unit {0}
ReadsNot (Or list) = Unit {0}
ReadsNot (AuthorizeNv name digest written) = ⊥
