-- A walk leads to the top of each of its rows, and to the table's root.
use Rattle.std.proofs.Common.{◌≡◌, ℕ, ◌<◌, List, [], ◌∷◌, ◌++◌, map, length, get_or, sym, ap, subst, ◌∙◌, append-nil, append_assoc, arith}
use Rattle.std.specs.List.{AllByRecursion}
use Rattle.std.proofs.lemmas.List.{get_or-map}
use Rattle.hash_bank.specs.declared.bank.Bank.{Bank}
use Rattle.hash_bank.specs.declared.bank.Bank.TheVariants.{Sha256}
use Rattle.hash_bank.specs.Hash.{digest_in}
use Rattle.policy_digest.specs.Levels.{path_of, top_of_leaves}
use Rattle.policy_digest.specs.PlainTable.{PlainRow, PlainTable, leaf_of, leaves_of, root_after, root_of, top_of_row}
use Rattle.or_tree.specs.Leading.{Leads}
use Rattle.or_tree.proofs.Leading.{leads}
use Rattle.policy_roots.specs.Rows.{HasLists, HasRows}
use Rattle.policy_roots.proofs.Leaves.{leaf_count}
use Rattle.hash_bank.specs.HashedString.{HashedString}
use Rattle.tpm_model.specs.declared.trail.TrailEntry.{TrailEntry}
use Rattle.tpm_model.specs.declared.trail.TrailEntry.TheVariants.{Pcr, Or}
use Rattle.tpm_model.specs.Trails.{trail_digest}
use Rattle.tpm_model.proofs.TrailSteps.{digest_step}
use Rattle.tpm_walks.specs.Walks.{Walks, WalksRows, row_entries}

-- by the lists of PolicyORs
lists_lead : (lists : List (List (List ℕ))) (earlier : List TrailEntry) (top : List ℕ) → Leads (trail_digest Sha256 earlier) lists top
    → trail_digest Sha256 (earlier ++ map Or lists) ≡ top
lists_lead [] earlier top on = ap (trail_digest Sha256) (append-nil earlier) ∙ on
lists_lead (list ∷ lists) earlier top on =
    let step = digest_step Sha256 earlier (Or list) in
    ap (trail_digest Sha256) (sym (append_assoc earlier (Or list ∷ []) (map Or lists)))
    ∙ lists_lead lists (earlier ++ Or list ∷ []) top (subst (λ (d : List ℕ). Leads d lists top) (sym step) on.3)

-- by a row
pub row_leads : (bank : Bank) (row : PlainRow) (earlier : List TrailEntry) (place : ℕ) → place < length row.lists → HasLists row
    → trail_digest Sha256 (earlier ++ row_entries bank (trail_digest Sha256 earlier) row place) ≡ top_of_row bank (trail_digest Sha256 earlier) row
row_leads bank row earlier place inside has =
    let before = trail_digest Sha256 earlier in
    let leaves = leaves_of bank before row in
    let looked = Pcr bank row.pcrs (digest_in Sha256 (get_or row.lists place [])) in
    let count = leaf_count (λ (s : HashedString). Unit {0}) bank before row in
    let leaf : trail_digest Sha256 (earlier ++ looked ∷ []) ≡ get_or leaves place [] =
    digest_step Sha256 earlier looked ∙ sym (get_or-map (leaf_of bank before row.pcrs) row.lists place [] [] inside) in
    ap (trail_digest Sha256) (sym (append_assoc earlier (looked ∷ []) (map Or (path_of leaves place))))
    ∙ lists_lead (path_of leaves place) (earlier ++ looked ∷ []) (top_of_leaves leaves)
    (subst (λ (d : List ℕ). Leads d (path_of leaves place) (top_of_leaves leaves)) (sym leaf) (leads leaves place (omega (arith, count, inside)) (omega (arith, count, has.few))))

rows_lead : (bank : Bank) (rows : List PlainRow) (earlier walk : List TrailEntry) → AllByRecursion HasLists rows → WalksRows bank (trail_digest Sha256 earlier) rows walk
    → trail_digest Sha256 (earlier ++ walk) ≡ root_after bank (trail_digest Sha256 earlier) rows
unfolding root_after
rows_lead bank [] earlier walk has walks = ap (λ (w : List TrailEntry). trail_digest Sha256 (earlier ++ w)) walks ∙ ap (trail_digest Sha256) (append-nil earlier)
rows_lead bank (row ∷ rows) earlier walk has walks =
    let before = trail_digest Sha256 earlier in
    let own = row_entries bank before row walks.0 in
    let top = row_leads bank row earlier walks.0 walks.1 has.0 in
    ap (λ (w : List TrailEntry). trail_digest Sha256 (earlier ++ w)) walks.3
    ∙ ap (trail_digest Sha256) (sym (append_assoc earlier own walks.2))
    ∙ rows_lead bank rows (earlier ++ own) walks.2 has.1 (subst (λ (d : List ℕ). WalksRows bank d rows walks.2) (sym top) walks.4)
    ∙ ap (λ (d : List ℕ). root_after bank d rows) top

pub table_leads : (table : PlainTable) (trail : List TrailEntry) → HasRows table → Walks trail table → trail_digest Sha256 trail ≡ root_of table
table_leads table trail has walks = rows_lead table.bank table.rows [] trail has.rows walks
