-- The rows of a plan.
use Rattle.std.proofs.Common.{◌≡◌, ℕ, zero, suc, ◌+◌, ◌*◌, ◌/◌, ◌^◌, ◌<◌, ◌≤◌, Bool, true, ◌&&◌, List, [], ◌∷◌, ◌++◌, map, length, drop, get_or, slice_get, Some, refl, ap, subst, ◌∙◌, sym, arith}
use Rattle.std.specs.List.{All, AllByRecursion, list_all, range_with_len}
use Rattle.std.specs.Prelude.{nat_le, nat_lt}
use Rattle.std.proofs.lemmas.Bool.{and_parts, leb-true, ltb-true}
use Rattle.std.proofs.lemmas.List.{length-drop, length-map, length-take}
use Rattle.std.proofs.lemmas.List.Elements.{All-map}
use Rattle.std.proofs.lemmas.List.FromFn.{get_or-range_with_len, length-range_with_len}
use Rattle.hash_bank.specs.declared.bank.Bank.{Bank}
use Rattle.hash_bank.specs.declared.bank.Bank.TheVariants.{Sha256}
use Rattle.hash_bank.specs.Hash.{zeros_in}
use Rattle.hash_bank.proofs.Sizes.{length-digest_in}
use Rattle.or_tree.specs.Plan.{Plan, RowPlan, leaves_in, pcrs_in, plan_of, row_plan, rows_after}
use Rattle.or_tree.proofs.Groups.{group_sizes}
use Rattle.policy_digest.specs.Levels.{group, group_count, listed, next_level, path_of, up}
use Rattle.policy_digest.specs.declared.table.Row.{Row}
use Rattle.policy_digest.specs.declared.table.Table.{Table}
use Rattle.policy_digest.specs.Plain.{plain_row, plain_table}
use Rattle.policy_digest.specs.PlainTable.{PlainRow, leaf_of, leaves_of, top_of_row}
use Rattle.policy_digest.specs.Table.{each_pair, precedes, valid_row, valid_table}
use Rattle.policy_session.specs.Standing.{FitsPlan, FitsRow}

abbrev pub Digests32 : List (List ℕ) → Type 0
Digests32 list = All (λ d. length d ≡ 32) list

-- a row that is there
pub record IsRow (rows : List RowPlan) (place : ℕ) : Type 0 where
  pub row : RowPlan
  pub is : slice_get rows place ≡ Some row
  pub fits : FitsRow row
  pub rest : drop place rows ≡ row ∷ drop (place + 1) rows

pub row_at : (rows : List RowPlan) (place : ℕ) → place < length rows → AllByRecursion FitsRow rows → IsRow rows place
row_at [] place inside fits = absurd (omega arith)
row_at (row ∷ rows) zero inside fits = record { row = row; is = refl; fits = fits.0; rest = refl }
row_at (row ∷ rows) (suc place) inside fits =
    let later = row_at rows place (omega (arith, inside)) fits.1 in
    let further : suc (place + 1) ≡ suc place + 1 = omega arith in
    record { row = later.row; is = later.is; fits = later.fits; rest = later.rest ∙ ap (λ n. later.row ∷ drop n (row ∷ rows)) further }

-- ---- the lists of a path have digests of 32 bytes

up_size : (g : List (List ℕ)) → Digests32 g → 1 ≤ length g → length (up g) ≡ 32
up_size [] sizes some = absurd (omega arith)
up_size (d ∷ []) sizes some = sizes 0 d (omega arith)
up_size (d ∷ e ∷ ds) sizes some = length-digest_in Sha256 _

-- the level above
next_sizes : (level : List (List ℕ)) → Digests32 level → Digests32 (next_level level)
unfolding next_level
next_sizes level sizes =
    let numbers = range_with_len 0 (group_count level) in
    All-map (λ d. length d ≡ 32) up (map (group level) numbers) (All-map (λ g. length (up g) ≡ 32) (group level) numbers (λ k d inside.
    let below : k < group_count level = omega (arith, inside, length-range_with_len 0 (group_count level)) in
    let is : get_or numbers k d ≡ 0 + k = get_or-range_with_len 0 (group_count level) k d below in
    let number : get_or numbers k d ≡ k = omega (arith, is) in
    let some : 1 ≤ length (group level k) = omega (arith, below, length-take 8 (drop (8 * k) level), length-drop (8 * k) level) in
    subst (λ n. length (up (group level n)) ≡ 32) (sym number) (up_size (group level k) (group_sizes level k sizes) some)))

listed_sizes : (g : List (List ℕ)) → Digests32 g → AllByRecursion Digests32 (listed g)
listed_sizes [] sizes = tt
listed_sizes (d ∷ []) sizes = tt
listed_sizes (d ∷ e ∷ ds) sizes = (sizes, tt)

both : (xs ys : List (List (List ℕ))) → AllByRecursion Digests32 xs → AllByRecursion Digests32 ys → AllByRecursion Digests32 (xs ++ ys)
both [] ys all more = more
both (x ∷ xs) ys all more = (all.0, both xs ys all.1 more)

pub path_sizes : (leaves : List (List ℕ)) (leaf : ℕ) → Digests32 leaves → AllByRecursion Digests32 (path_of leaves leaf)
path_sizes leaves leaf sizes =
    let second = next_level leaves in
    let two = next_sizes leaves sizes in
    let three = next_sizes second two in
    both _ _ (both _ _ (listed_sizes _ (group_sizes leaves (leaf / 8) sizes)) (listed_sizes _ (group_sizes second (leaf / 8 / 8) two)))
    (listed_sizes _ (group_sizes (next_level second) (leaf / 8 / 8 / 8) three))

-- ---- the plan of a valid table

row_fits : (bank : Bank) (before : List ℕ) (row : Row) → valid_row bank row ≡ true → FitsRow (row_plan bank before (plain_row row))
row_fits bank before row valid =
    let a = and_parts _ _ valid in
    let b = and_parts _ _ a.0 in
    let c = and_parts _ _ b.0 in
    let d = and_parts _ _ c.0 in
    let e = and_parts _ _ d.0 in
    let few : length row.choices ≤ 512 = leb-true (length row.choices) 512 c.1 in
    let long : length (leaves_of bank before (plain_row row)) ≡ length row.choices = length-map _ (leaf_of bank before row.pcrs) ∙ length-map row.choices _ in
    record {
      mask = ltb-true row.pcrs (2 ^ 24) e.1;
      few = omega (arith, few, long);
      sizes = All-map (λ d. length d ≡ 32) (leaf_of bank before row.pcrs) (plain_row row).lists (λ k d inside. length-digest_in Sha256 _);
    }

rows_fit : (bank : Bank) (before : List ℕ) (rows : List Row) → list_all (valid_row bank) rows ≡ true → AllByRecursion FitsRow (rows_after bank before (map plain_row rows))
unfolding rows_after
rows_fit bank before [] valid = tt
rows_fit bank before (row ∷ rows) valid =
    let parts = and_parts (valid_row bank row) (list_all (valid_row bank) rows) valid in
    (row_fits bank before row parts.0, rows_fit bank (top_of_row bank before (plain_row row)) rows parts.1)

rows_length : (bank : Bank) (before : List ℕ) (rows : List PlainRow) → length (rows_after bank before rows) ≡ length rows
unfolding rows_after
rows_length bank before [] = refl
rows_length bank before (row ∷ rows) = ap suc (rows_length bank (top_of_row bank before row) rows)

pub plan_fits : (table : Table) → valid_table table ≡ true → FitsPlan (plan_of (plain_table table))
plan_fits table valid =
    let a = and_parts _ (each_pair precedes table.rows) valid in
    let b = and_parts _ (list_all (valid_row table.bank) table.rows) a.0 in
    let c = and_parts (nat_le 1 (length table.rows)) (nat_le (length table.rows) 24) b.0 in
    let few : length table.rows ≤ 24 = leb-true _ _ c.1 in
    let long : length (plan_of (plain_table table)).rows ≡ length table.rows =
    rows_length table.bank (zeros_in Sha256) (map plain_row table.rows) ∙ length-map table.rows plain_row in
    record { few = omega (arith, few, long); rows = rows_fit table.bank (zeros_in Sha256) table.rows b.1 }
