-- What stands in a walk, and what doesn't.
use Rattle.std.proofs.Common.{arith, refl, Contains, get_or, ℕ, List, [], ◌∷◌, ◌++◌, map, sym, subst}
use Rattle.std.specs.List.{AllByRecursion}
use Rattle.std.proofs.lemmas.List.Elements.{Contains-append_right, Contains-get_or}
use Rattle.hash_bank.specs.declared.bank.Bank.{Bank}
use Rattle.hash_bank.specs.declared.bank.Bank.TheVariants.{Sha256}
use Rattle.hash_bank.specs.Hash.{digest_in, zeros_in}
use Rattle.policy_digest.specs.Levels.{path_of}
use Rattle.policy_digest.specs.PlainTable.{PlainRow, PlainTable, leaves_of, top_of_row}
use Rattle.tpm_model.specs.declared.trail.TrailEntry.{TrailEntry}
use Rattle.tpm_model.specs.declared.trail.TrailEntry.TheVariants.{Pcr, Or}
use Rattle.tpm_walks.specs.Walks.{LooksAt, ReadsNot, Walks, WalksRows, row_entries}

-- by PolicyORs, and then by others
joined_reads_not : (lists : List (List (List ℕ))) (rest : List TrailEntry) → AllByRecursion ReadsNot rest → AllByRecursion ReadsNot (map Or lists ++ rest)
joined_reads_not [] rest all = all
joined_reads_not (list ∷ lists) rest all = (tt, joined_reads_not lists rest all)

rows_read_not : (bank : Bank) (before : List ℕ) (rows : List PlainRow) (trail : List TrailEntry) → WalksRows bank before rows trail → AllByRecursion ReadsNot trail
rows_read_not bank before [] trail walks = subst (AllByRecursion ReadsNot) (sym walks) tt
rows_read_not bank before (row ∷ rows) trail walks =
    let later = rows_read_not bank (top_of_row bank before row) rows walks.2 walks.4 in
    subst (AllByRecursion ReadsNot) (sym walks.3) (tt, joined_reads_not (path_of (leaves_of bank before row) walks.0) walks.2 later)

pub walk_reads_not : (table : PlainTable) (trail : List TrailEntry) → Walks trail table → AllByRecursion ReadsNot trail
walk_reads_not table trail walks = rows_read_not table.bank (zeros_in Sha256) table.rows trail walks

-- the rows' looks, in a trail that has all entries of the walk
rows_looked : (bank : Bank) (before : List ℕ) (rows : List PlainRow) (walk trail : List TrailEntry) → ((entry : TrailEntry) → Contains walk entry → Contains trail entry)
    → WalksRows bank before rows walk → AllByRecursion (λ (row : PlainRow). LooksAt bank row trail) rows
rows_looked bank before [] walk trail all walks = tt
rows_looked bank before (row ∷ rows) walk trail all walks =
    let list = get_or row.lists walks.0 [] in
    let look = Pcr bank row.pcrs (digest_in Sha256 list) in
    let own = row_entries bank before row walks.0 in
    let here : Contains walk look = subst (λ (w : List TrailEntry). Contains w look) (sym walks.3) (0, omega arith, refl) in
    let later = λ (entry : TrailEntry) (at : Contains walks.2 entry). all entry (subst (λ (w : List TrailEntry). Contains w entry) (sym walks.3) (Contains-append_right own walks.2 entry at)) in (
      record { list = list; listed = Contains-get_or row.lists walks.0 [] walks.1; stands = all look here },
      rows_looked bank (top_of_row bank before row) rows walks.2 trail later walks.4,
    )

pub walk_looks : (table : PlainTable) (trail : List TrailEntry) → Walks trail table → AllByRecursion (λ (row : PlainRow). LooksAt table.bank row trail) table.rows
walk_looks table trail walks = rows_looked table.bank (zeros_in Sha256) table.rows trail trail (λ entry at. at) walks
