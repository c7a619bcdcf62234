-- A plan has as many rows as its table.
use Rattle.std.proofs.Common.{◌≡◌, ℕ, suc, ◌≤◌, Bool, true, ◌&&◌, leb, List, [], ◌∷◌, length, map, refl, ap, ◌∙◌, arith}
use Rattle.std.specs.List.{list_all}
use Rattle.std.proofs.lemmas.Bool.{and_parts, leb-true}
use Rattle.std.proofs.lemmas.List.{length-map}
use Rattle.hash_bank.specs.declared.bank.Bank.{Bank}
use Rattle.or_tree.specs.Plan.{Plan, plan_of, rows_after}
use Rattle.policy_digest.specs.declared.table.Table.{Table}
use Rattle.policy_digest.specs.Plain.{plain_row, plain_table}
use Rattle.policy_digest.specs.PlainTable.{PlainRow, top_of_row}
use Rattle.policy_digest.specs.Table.{each_pair, precedes, valid_row, valid_table}

rows_length : (bank : Bank) (before : List ℕ) (rows : List PlainRow) → length (rows_after bank before rows) ≡ length rows
unfolding rows_after
rows_length bank before [] = refl
rows_length bank before (row ∷ rows) = ap suc (rows_length bank (top_of_row bank before row) rows)

pub some_rows : (table : Table) (plan : Plan) → valid_table table ≡ true → plan ≡ plan_of (plain_table table) → 1 ≤ length plan.rows
some_rows table plan valid is =
    let a = and_parts _ (each_pair precedes table.rows) valid in
    let b = and_parts _ (list_all (valid_row table.bank) table.rows) a.0 in
    let c = and_parts (leb 1 (length table.rows)) (leb (length table.rows) 24) b.0 in
    let some : 1 ≤ length table.rows = leb-true _ _ c.0 in
    let same : length plan.rows ≡ length table.rows = ap (λ (p : Plan). length p.rows) is ∙ rows_length _ _ _ ∙ length-map table.rows plain_row in
    omega arith
