-- A table's root tells the table: from the last row to the first.
use Rattle.std.proofs.Common.{◌≡◌, ℕ, ◌<◌, ◌≤◌, List, [], ◌∷◌, length, refl, sym, ap, ap₂, subst, ⊎_elim, eq-or-lt_of_le, arith}
use Rattle.std.proofs.lemmas.Bool.{cases_lt}
use Rattle.std.specs.List.{AllByRecursion}
use Rattle.hash_bank.specs.declared.bank.Bank.{Bank}
use Rattle.hash_bank.specs.declared.bank.Bank.TheVariants.{Sha256}
use Rattle.hash_bank.specs.Hash.{zeros_in}
use Rattle.hash_bank.specs.HashedString.{HashedString, NoClash}
use Rattle.hash_bank.proofs.Sizes.{length-zeros_in}
use Rattle.policy_digest.specs.PlainTable.{PlainRow, PlainTable, root_after, root_of, top_of_row}
use Rattle.policy_digest.specs.TableStrings.{row_strings, rows_strings, table_strings}
use Rattle.policy_roots.specs.Depth.{IsWithin}
use Rattle.policy_roots.specs.Held.{AreHeld}
use Rattle.policy_roots.specs.Rows.{HasLists, HasRows}
use Rattle.policy_roots.proofs.Depths.{within_nonzero, within_size}
use Rattle.policy_roots.proofs.Leaves.{row_within, same_row}
use Rattle.policy_roots.proofs.Levels.{held_left, held_right}

at_most : (m n : ℕ) → (m < n → ⊥) → n ≤ m
at_most m n not_below = ⊎_elim (λ (below : m < n). absurd (not_below below)) (λ (least : n ≤ m). least) (cases_lt m n)

-- the same rows behind the same policy
record AreSameRows (bank other : Bank) (before after : List ℕ) (rows others : List PlainRow) : Type 0 where
  bank_same : bank ≡ other
  old : before ≡ after
  rows_same : rows ≡ others

module _ (S : HashedString → Type 0) where
  -- rows behind a policy: each with its lists, their strings hashed
  pub record AreRows (bank : Bank) (before : List ℕ) (rows : List PlainRow) : Type 0 where
    pub size : length before ≡ 32
    pub lists : AllByRecursion HasLists rows
    pub held : AreHeld S (rows_strings bank before rows)

  pub first_held : (bank : Bank) (before : List ℕ) (row : PlainRow) (rows : List PlainRow) → AreRows bank before (row ∷ rows) → AreHeld S (row_strings bank before row)
  unfolding rows_strings
  first_held bank before row rows are = held_left S (row_strings bank before row) (rows_strings bank (top_of_row bank before row) rows) are.held

  first_within : (bank : Bank) (before : List ℕ) (row : PlainRow) (rows : List PlainRow) → AreRows bank before (row ∷ rows) → IsWithin S (top_of_row bank before row) 3
  first_within bank before row rows are = row_within S bank before row are.size are.lists.0 (first_held bank before row rows are)

  -- the rows behind the first
  pub later_rows : (bank : Bank) (before : List ℕ) (row : PlainRow) (rows : List PlainRow) → AreRows bank before (row ∷ rows) → AreRows bank (top_of_row bank before row) rows
  unfolding rows_strings
  later_rows bank before row rows are = record {
    size = within_size S (top_of_row bank before row) 3 (first_within bank before row rows are);
    lists = are.lists.1;
    held = held_right S (row_strings bank before row) (rows_strings bank (top_of_row bank before row) rows) are.held;
  }

  module _ (safe : NoClash S) where
    -- as many rows
    same_rows : (bank other : Bank) (before after : List ℕ) (row : PlainRow) (rows : List PlainRow) (one : PlainRow) (ones : List PlainRow) → length rows ≡ length ones
        → AreRows bank before (row ∷ rows) → AreRows other after (one ∷ ones)
        → root_after bank (top_of_row bank before row) rows ≡ root_after other (top_of_row other after one) ones
        → AreSameRows bank other before after (row ∷ rows) (one ∷ ones)
    unfolding root_after
    same_rows bank other before after row [] one [] long a b e =
        let here = same_row S safe bank other before after row one a.size b.size a.lists.0 b.lists.0 (first_held bank before row [] a) (first_held other after one [] b) e in
        record { bank_same = here.bank_same; old = here.old; rows_same = ap (λ (r : PlainRow). r ∷ []) here.row_same }
    same_rows bank other before after row [] one (next ∷ ones) long a b e = absurd (omega (arith, long))
    same_rows bank other before after row (second ∷ rows) one [] long a b e = absurd (omega (arith, long))
    same_rows bank other before after row (second ∷ rows) one (next ∷ ones) long a b e =
        let shorter : length rows ≡ length ones = omega (arith, long) in
        let later = same_rows bank other (top_of_row bank before row) (top_of_row other after one) second rows next ones shorter
        (later_rows bank before row (second ∷ rows) a) (later_rows other after one (next ∷ ones) b) e in
        let here = same_row S safe bank other before after row one a.size b.size a.lists.0 b.lists.0
        (first_held bank before row (second ∷ rows) a) (first_held other after one (next ∷ ones) b) later.old in
        record { bank_same = here.bank_same; old = here.old; rows_same = ap₂ (λ (r : PlainRow) (rs : List PlainRow). r ∷ rs) here.row_same later.rows_same }

    -- fewer rows stand on a row's top
    fewer_rows : (bank other : Bank) (before after : List ℕ) (row : PlainRow) (rows : List PlainRow) (one : PlainRow) (ones : List PlainRow) → length rows < length ones
        → AreRows bank before (row ∷ rows) → AreRows other after (one ∷ ones)
        → root_after bank (top_of_row bank before row) rows ≡ root_after other (top_of_row other after one) ones
        → IsWithin S before 3
    unfolding root_after
    fewer_rows bank other before after row rows one [] fewer a b e = absurd (omega (arith, fewer))
    fewer_rows bank other before after row rows one (next ∷ ones) fewer a b e =
        let left = later_rows other after one (next ∷ ones) b in
        ⊎_elim
        (λ (same : length rows ≡ length ones).
        let rest = same_rows bank other before (top_of_row other after one) row rows next ones same a left e in
        subst (λ (d : List ℕ). IsWithin S d 3) (sym rest.old) (first_within other after one (next ∷ ones) b))
        (λ (less : length rows < length ones). fewer_rows bank other before (top_of_row other after one) row rows next ones less a left e)
        (eq-or-lt_of_le {n = length rows} {m = length ones} (omega (arith, fewer)))

    -- ---- whole tables

    -- a table from zeros isn't longer than another of its root
    not_fewer : (bank other : Bank) (row : PlainRow) (rows : List PlainRow) (one : PlainRow) (ones : List PlainRow)
        → AreRows bank (zeros_in Sha256) (row ∷ rows) → AreRows other (zeros_in Sha256) (one ∷ ones)
        → root_after bank (zeros_in Sha256) (row ∷ rows) ≡ root_after other (zeros_in Sha256) (one ∷ ones) → length rows < length ones → ⊥
    unfolding root_after
    not_fewer bank other row rows one ones a b e fewer =
        within_nonzero S safe (zeros_in Sha256) 3 (fewer_rows bank other (zeros_in Sha256) (zeros_in Sha256) row rows one ones fewer a b e) refl

    same_from_zeros : (bank other : Bank) (row : PlainRow) (rows : List PlainRow) (one : PlainRow) (ones : List PlainRow)
        → AreRows bank (zeros_in Sha256) (row ∷ rows) → AreRows other (zeros_in Sha256) (one ∷ ones)
        → root_after bank (zeros_in Sha256) (row ∷ rows) ≡ root_after other (zeros_in Sha256) (one ∷ ones)
        → AreSameRows bank other (zeros_in Sha256) (zeros_in Sha256) (row ∷ rows) (one ∷ ones)
    unfolding root_after
    same_from_zeros bank other row rows one ones a b e =
        let most : length ones ≤ length rows = at_most (length rows) (length ones) (not_fewer bank other row rows one ones a b e) in
        let least : length rows ≤ length ones = at_most (length ones) (length rows) (not_fewer other bank one ones row rows b a (sym e)) in
        same_rows bank other (zeros_in Sha256) (zeros_in Sha256) row rows one ones (omega (arith, most, least)) a b e

    by_rows : (bank other : Bank) (some others : List PlainRow) → HasRows (record { bank = bank; rows = some }) → HasRows (record { bank = other; rows = others })
        → AreHeld S (table_strings (record { bank = bank; rows = some })) → AreHeld S (table_strings (record { bank = other; rows = others }))
        → root_of (record { bank = bank; rows = some }) ≡ root_of (record { bank = other; rows = others })
        → ◌≡◌ {A = PlainTable} (record { bank = bank; rows = some }) (record { bank = other; rows = others })
    by_rows bank other [] others a b held kept e = absurd (omega (arith, a.some))
    by_rows bank other (row ∷ rows) [] a b held kept e = absurd (omega (arith, b.some))
    by_rows bank other (row ∷ rows) (one ∷ ones) a b held kept e =
        let same = same_from_zeros bank other row rows one ones
        (record { size = length-zeros_in Sha256; lists = a.rows; held = held }) (record { size = length-zeros_in Sha256; lists = b.rows; held = kept }) e in
        ap₂ (λ (k : Bank) (all : List PlainRow). record { bank = k; rows = all }) same.bank_same same.rows_same

    -- one root, one table
    pub same_tables : (a b : PlainTable) → AreHeld S (table_strings a) → AreHeld S (table_strings b) → HasRows a → HasRows b → root_of a ≡ root_of b → a ≡ b
    same_tables a b held kept has keeps e = by_rows a.bank b.bank a.rows b.rows has keeps held kept e
