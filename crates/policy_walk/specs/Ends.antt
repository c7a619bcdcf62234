-- Where a walk over the rows of a table ends, while nobody else uses the session and no PCR is extended: as a client
-- goes, by the session's digest, and by what the PCRs hold. SHA-256 throughout.
use Rattle.std.specs.Prelude.{ℕ, ◌+◌, List, [], ◌∷◌, length, position, Option, None, Some, Bool, if◌then◌else◌}
use Rattle.std.specs.List.{list_any}
use Rattle.std.specs.Str.{bytes_eq}
use Rattle.hash_bank.specs.declared.bank.Bank.{Bank}
use Rattle.hash_bank.specs.declared.bank.Bank.TheVariants.{Sha256}
use Rattle.hash_bank.specs.HashedString.{HashedString}
use Rattle.or_tree.specs.Plan.{RowPlan}
use Rattle.policy_digest.specs.Levels.{path_of}
use Rattle.policy_digest.specs.PlainTable.{PlainRow, leaf_of, top_of_row}
use Rattle.policy_digest.specs.Policies.{policy_or_of}
use Rattle.policy_digest.specs.TableStrings.{leaf_string, under_sha256}

-- past all rows with this digest of the session, or at a row with this mask, of which the digest is no leaf
pub data End : Type 0 where
  past_rows : List ℕ → End
  at_row : ℕ → End

-- the session's digest after PolicyORs of these lists in turn
abbrev pub after_lists : List ℕ → List (List (List ℕ)) → List ℕ
after_lists digest [] = digest
after_lists digest (list ∷ lists) = after_lists (policy_or_of Sha256 list) lists

-- a row, from the leaf that is the session's digest on, and then the rest
abbrev pub end_from : RowPlan → List ℕ → Option ℕ → (List ℕ → End) → End
end_from row digest None rest = at_row row.pcrs
end_from row digest (Some leaf) rest = rest (after_lists digest (path_of row.leaves leaf))

-- the first leaf of a row that the digest is
abbrev pub leaf_at : RowPlan → List ℕ → Option ℕ
leaf_at row digest = position (λ leaf. bytes_eq leaf digest) row.leaves

-- as a client goes: PolicyPCR over the values, the leaf that the digest is then, and its PolicyORs; the values are
-- those of each mask's PCRs, joined
unfoldable pub client_end : Bank → (ℕ → List ℕ) → List ℕ → List RowPlan → End
client_end bank values digest [] = past_rows digest
client_end bank values digest (row ∷ rows) =
    let now = leaf_of bank digest row.pcrs (values row.pcrs) in
    end_from row now (leaf_at row now) (λ after. client_end bank values after rows)

-- whether a row allows what its PCRs hold
abbrev pub is_met : (ℕ → List ℕ) → PlainRow → Bool
is_met values row = list_any (bytes_eq (values row.pcrs)) row.lists

-- by what the PCRs hold: past all rows where each is met, else at the first that isn't
unfoldable pub values_end : Bank → (ℕ → List ℕ) → List ℕ → List PlainRow → End
values_end bank values digest [] = past_rows digest
values_end bank values digest (row ∷ rows) =
    if is_met values row then values_end bank values (top_of_row bank digest row) rows else at_row row.pcrs

-- the strings that are hashed on the way: at each row up to the first that isn't met, the values, and the string of
-- PolicyPCR over them
unfoldable pub walk_strings : Bank → (ℕ → List ℕ) → List ℕ → List PlainRow → List HashedString
walk_strings bank values digest [] = []
walk_strings bank values digest (row ∷ rows) =
    under_sha256 (values row.pcrs)
    ∷ leaf_string bank digest row.pcrs (values row.pcrs)
    ∷ (if is_met values row then walk_strings bank values (top_of_row bank digest row) rows else [])

-- the number of entries that a row's PolicyPCR and PolicyORs make in the session's trail, and those of the rest
abbrev pub entries_from : RowPlan → List ℕ → Option ℕ → (List ℕ → ℕ) → ℕ
entries_from row digest None rest = 1
entries_from row digest (Some leaf) rest =
    let lists = path_of row.leaves leaf in
    1 + length lists + rest (after_lists digest lists)

-- and those of all rows
unfoldable pub client_entries : Bank → (ℕ → List ℕ) → List ℕ → List RowPlan → ℕ
client_entries bank values digest [] = 0
client_entries bank values digest (row ∷ rows) =
    let now = leaf_of bank digest row.pcrs (values row.pcrs) in
    entries_from row now (leaf_at row now) (λ after. client_entries bank values after rows)
