-- A valid table has its rows and lists.
use Rattle.std.proofs.Common.{◌≡◌, true, leb, List, [], ◌∷◌, length, map, arith}
use Rattle.std.specs.List.{AllByRecursion, list_all}
use Rattle.std.proofs.lemmas.Bool.{and_parts, leb-true}
use Rattle.std.proofs.lemmas.List.{length-map}
use Rattle.hash_bank.specs.declared.bank.Bank.{Bank}
use Rattle.policy_digest.specs.Mask.{pcrs_of}
use Rattle.policy_digest.specs.Plain.{plain_row, plain_table}
use Rattle.policy_digest.specs.Strings.{values_string}
use Rattle.policy_digest.specs.Table.{differ, each_pair, fits, precedes, valid_row, valid_table}
use Rattle.policy_digest.specs.declared.table.Row.{Row}
use Rattle.policy_digest.specs.declared.table.Table.{Table}
use Rattle.policy_roots.specs.Rows.{HasLists, HasRows}

row_has_lists : (bank : Bank) (row : Row) → valid_row bank row ≡ true → HasLists (plain_row row)
row_has_lists bank row h =
    let some = leb 1 (length row.choices) in
    let few = leb (length row.choices) 512 in
    let a = and_parts _ (each_pair differ row.choices) h in
    let b = and_parts _ (list_all (fits bank (length (pcrs_of row.pcrs))) row.choices) a.0 in
    let c = and_parts _ few b.0 in
    let d = and_parts _ some c.0 in
    let count = length-map row.choices values_string in
    let least = leb-true 1 (length row.choices) d.1 in
    let most = leb-true (length row.choices) 512 c.1 in
    record { some = omega (arith, count, least); few = omega (arith, count, most) }

rows_have_lists : (bank : Bank) (rows : List Row) → list_all (valid_row bank) rows ≡ true → AllByRecursion HasLists (map plain_row rows)
rows_have_lists bank [] h = tt
rows_have_lists bank (row ∷ rows) h =
    let a = and_parts (valid_row bank row) (list_all (valid_row bank) rows) h in
    (row_has_lists bank row a.0, rows_have_lists bank rows a.1)

pub valid_has_rows : (table : Table) → valid_table table ≡ true → HasRows (plain_table table)
valid_has_rows table h =
    let a = and_parts _ (each_pair precedes table.rows) h in
    let b = and_parts _ (list_all (valid_row table.bank) table.rows) a.0 in
    let c = and_parts (leb 1 (length table.rows)) (leb (length table.rows) 24) b.0 in
    let some = leb-true 1 (length table.rows) c.0 in
    let count = length-map table.rows plain_row in
    record { some = omega (arith, count, some); rows = rows_have_lists table.bank table.rows b.1 }
