-- The rows of a plan, one after the other.
use Rattle.std.proofs.Common.{◌≡◌, ℕ, ◌+◌, ◌<◌, ◌≤◌, List, [], ◌∷◌, ◌++◌, map, length, drop, get_or, ap, sym, ◌∙◌, append-nil, append_assoc}
use Rattle.std.proofs.lemmas.List.{drop_all, drop_more}
use Rattle.hash_bank.specs.declared.bank.Bank.{Bank}
use Rattle.policy_digest.specs.declared.table.Row.{Row}
use Rattle.policy_digest.specs.Plain.{plain_row}
use Rattle.policy_digest.specs.PlainTable.{root_after, top_of_row}
use Rattle.or_tree.specs.Plan.{RowPlan, row_plan, rows_after}

module _ (bank : Bank) (rows : List Row) (before : List ℕ) where
  -- the rows that are left begin with this one
  left : (i : ℕ) (row : Row) → i < length rows → row ≡ get_or rows i row → map plain_row (drop i rows) ≡ plain_row row ∷ map plain_row (drop (i + 1) rows)
  left i row inside e = ap (map plain_row) (drop_more rows i row inside ∙ ap (λ r. r ∷ drop (i + 1) rows) (sym e))

  -- one row more
  pub more_rows : (so_far now : List RowPlan) (whole : List RowPlan) (i : ℕ) (row : Row) (top : List ℕ) → i < length rows → row ≡ get_or rows i row
      → whole ≡ so_far ++ rows_after bank before (map plain_row (drop i rows)) → now ≡ so_far ++ row_plan bank before (plain_row row) ∷ []
      → top ≡ top_of_row bank before (plain_row row)
      → whole ≡ now ++ rows_after bank top (map plain_row (drop (i + 1) rows))
  unfolding rows_after
  more_rows so_far now whole i row top inside e all pushed same =
      let rest = rows_after bank top (map plain_row (drop (i + 1) rows)) in
      all
      ∙ ap (λ left_rows. so_far ++ rows_after bank before left_rows) (left i row inside e)
      ∙ ap (λ t. so_far ++ row_plan bank before (plain_row row) ∷ rows_after bank t (map plain_row (drop (i + 1) rows))) (sym same)
      ∙ sym (append_assoc so_far (row_plan bank before (plain_row row) ∷ []) rest)
      ∙ ap (λ front. front ++ rest) (sym pushed)

  pub next_root : (whole : List ℕ) (i : ℕ) (row : Row) (top : List ℕ) → i < length rows → row ≡ get_or rows i row
      → whole ≡ root_after bank before (map plain_row (drop i rows)) → top ≡ top_of_row bank before (plain_row row)
      → whole ≡ root_after bank top (map plain_row (drop (i + 1) rows))
  unfolding root_after
  next_root whole i row top inside e all same =
      all ∙ ap (root_after bank before) (left i row inside e) ∙ ap (λ t. root_after bank t (map plain_row (drop (i + 1) rows))) (sym same)

  -- none is left
  pub all_rows : (so_far whole : List RowPlan) (i : ℕ) → length rows ≤ i → whole ≡ so_far ++ rows_after bank before (map plain_row (drop i rows)) → so_far ≡ whole
  unfolding rows_after
  all_rows so_far whole i past all =
      sym (all ∙ ap (λ rest. so_far ++ rows_after bank before (map plain_row rest)) (drop_all i rows past) ∙ append-nil so_far)

  pub last_root : (whole : List ℕ) (i : ℕ) → length rows ≤ i → whole ≡ root_after bank before (map plain_row (drop i rows)) → before ≡ whole
  unfolding root_after
  last_root whole i past all = sym (all ∙ ap (λ rest. root_after bank before (map plain_row rest)) (drop_all i rows past))
