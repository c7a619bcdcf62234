-- Two valid tables with one plain form are one, and each table is the same as itself.
use Rattle.std.proofs.Common.{◌≡◌, ℕ, ◌==◌, Bool, true, ◌&&◌, List, [], ◌∷◌, map, length, refl, sym, ap, ap₂, ◌∙◌, subst, Contains}
use Rattle.std.specs.Cmp.Lexicographic.{pointwise}
use Rattle.std.specs.List.{All, list_all, list_any}
use Rattle.std.proofs.lemmas.Bool.{and_parts, eq-eqb, eqb-true}
use Rattle.std.proofs.lemmas.List.Elements.{All-cons, All-nil}
use Rattle.std.proofs.lemmas.List.Folds.{list_any_at}
use Rattle.hash_bank.specs.declared.bank.Bank.{Bank}
use Rattle.hash_bank.specs.Hash.{algorithm_in, size_in}
use Rattle.hash_bank.proofs.Sizes.{one_le-size_in}
use Rattle.policy_digest.specs.Mask.{pcrs_of}
use Rattle.policy_digest.specs.Plain.{plain_row, plain_table}
use Rattle.policy_digest.specs.PlainTable.{PlainRow, PlainTable}
use Rattle.policy_digest.specs.Strings.{values_string}
use Rattle.policy_digest.specs.Table.{differ, each_pair, fits, precedes, valid_row, valid_table, values_eq}
use Rattle.policy_digest.specs.declared.table.Row.{Row}
use Rattle.policy_digest.specs.declared.table.Table.{Table}
use Rattle.policy_roots.proofs.Parsed.{same_digests}
use Rattle.predictor.proofs.Repeats.{values_tell}
use Rattle.pcrlock_update.specs.Standing.{same_row, same_table}

-- ---- one table

sized : (bank : Bank) (values : List (List ℕ)) → list_all (λ d. length d == size_in bank) values ≡ true → All (λ (d : List ℕ). length d ≡ size_in bank) values
sized bank [] h = All-nil _
sized bank (value ∷ values) h =
    let both = and_parts (length value == size_in bank) (list_all (λ d. length d == size_in bank) values) h in
    All-cons (λ (d : List ℕ). length d ≡ size_in bank) value values (eqb-true (length value) (size_in bank) both.0) (sized bank values both.1)

-- heads and tails of equal lists
first_same : {A : Type 0} (x y : A) (xs ys : List A) → x ∷ xs ≡ y ∷ ys → (x ≡ y) × (xs ≡ ys)
first_same x y xs ys e = (cc, cc)

lists_same : (bank : Bank) (count : ℕ) (xs ys : List (List (List ℕ))) → list_all (fits bank count) xs ≡ true → list_all (fits bank count) ys ≡ true
    → map values_string xs ≡ map values_string ys → xs ≡ ys
lists_same bank count [] [] a b e = refl
lists_same bank count [] (y ∷ ys) a b e = absurd (cc e)
lists_same bank count (x ∷ xs) [] a b e = absurd (cc e)
lists_same bank count (x ∷ xs) (y ∷ ys) a b e =
    let p = and_parts (fits bank count x) (list_all (fits bank count) xs) a in
    let q = and_parts (fits bank count y) (list_all (fits bank count) ys) b in
    let parts = first_same (values_string x) (values_string y) (map values_string xs) (map values_string ys) e in
    let head : x ≡ y = same_digests (size_in bank) (one_le-size_in bank) x y (sized bank x (and_parts (length x == count) _ p.0).1) (sized bank y (and_parts (length y == count) _ q.0).1) parts.0 in
    ap₂ (λ (z : List (List ℕ)) (zs : List (List (List ℕ))). z ∷ zs) head (lists_same bank count xs ys p.1 q.1 parts.1)

-- the lists of a valid row fit its PCRs
row_fits : (bank : Bank) (row : Row) → valid_row bank row ≡ true → list_all (fits bank (length (pcrs_of row.pcrs))) row.choices ≡ true
row_fits bank row valid =
    let a = and_parts _ (each_pair differ row.choices) valid in
    (and_parts _ (list_all (fits bank (length (pcrs_of row.pcrs))) row.choices) a.0).1

row_same : (bank : Bank) (x y : Row) → valid_row bank x ≡ true → valid_row bank y ≡ true → plain_row x ≡ plain_row y → x ≡ y
row_same bank x y a b e =
    let pcrs : x.pcrs ≡ y.pcrs = ap (λ (r : PlainRow). r.pcrs) e in
    let fit : list_all (fits bank (length (pcrs_of x.pcrs))) y.choices ≡ true = subst (λ mask. list_all (fits bank (length (pcrs_of mask))) y.choices ≡ true) (sym pcrs) (row_fits bank y b) in
    let choices = lists_same bank (length (pcrs_of x.pcrs)) x.choices y.choices (row_fits bank x a) fit (ap (λ (r : PlainRow). r.lists) e) in
    λ i. record { pcrs = pcrs i; choices = choices i }

rows_same : (bank : Bank) (xs ys : List Row) → list_all (valid_row bank) xs ≡ true → list_all (valid_row bank) ys ≡ true → map plain_row xs ≡ map plain_row ys → xs ≡ ys
rows_same bank [] [] a b e = refl
rows_same bank [] (y ∷ ys) a b e = absurd (cc e)
rows_same bank (x ∷ xs) [] a b e = absurd (cc e)
rows_same bank (x ∷ xs) (y ∷ ys) a b e =
    let p = and_parts (valid_row bank x) (list_all (valid_row bank) xs) a in
    let q = and_parts (valid_row bank y) (list_all (valid_row bank) ys) b in
    let parts = first_same (plain_row x) (plain_row y) (map plain_row xs) (map plain_row ys) e in
    ap₂ (λ (z : Row) (zs : List Row). z ∷ zs) (row_same bank x y p.0 q.0 parts.0) (rows_same bank xs ys p.1 q.1 parts.1)

table_rows : (table : Table) → valid_table table ≡ true → list_all (valid_row table.bank) table.rows ≡ true
table_rows table valid =
    let a = and_parts _ (each_pair precedes table.rows) valid in
    (and_parts _ (list_all (valid_row table.bank) table.rows) a.0).1

pub one_table : (a b : Table) → valid_table a ≡ true → valid_table b ≡ true → plain_table a ≡ plain_table b → a ≡ b
one_table a b va vb e =
    let bank : a.bank ≡ b.bank = ap (λ (t : PlainTable). t.bank) e in
    let theirs : list_all (valid_row a.bank) b.rows ≡ true = subst (λ (k : Bank). list_all (valid_row k) b.rows ≡ true) (sym bank) (table_rows b vb) in
    let rows = rows_same a.bank a.rows b.rows (table_rows a va) theirs (ap (λ (t : PlainTable). t.rows) e) in
    λ i. record { bank = bank i; rows = rows i }

-- ---- a table is the same as itself

both : (a b : Bool) → a ≡ true → b ≡ true → (a && b) ≡ true
both a b h k = rw (h, k) refl

pointwise_itself : {A : Type 0} (test : A → A → Bool) → ((x : A) → test x x ≡ true) → (xs : List A) → pointwise test xs xs ≡ true
pointwise_itself test itself [] = refl
pointwise_itself test itself (x ∷ xs) = both (test x x) (pointwise test xs xs) (itself x) (pointwise_itself test itself xs)

row_itself : (row : Row) → same_row row row ≡ true
row_itself row = both (row.pcrs == row.pcrs) (pointwise values_eq row.choices row.choices) (eq-eqb row.pcrs row.pcrs refl) (pointwise_itself values_eq values_tell.itself row.choices)

pub table_itself : (table : Table) → same_table table table ≡ true
table_itself table =
    both (algorithm_in table.bank == algorithm_in table.bank) (pointwise same_row table.rows table.rows) (eq-eqb (algorithm_in table.bank) (algorithm_in table.bank) refl)
    (pointwise_itself same_row row_itself table.rows)

-- a test that a member passes finds something
pub member_passes : {A : Type 0} (test : A → Bool) (xs : List A) (x : A) → Contains xs x → test x ≡ true → list_any test xs ≡ true
member_passes test xs x at on = list_any_at test xs at.0 x at.1 (ap test at.2 ∙ on)
