-- Tables that are read are spelled so, and what is spelled so is read.
use Rattle.std.proofs.Common.{◌≡◌, ℕ, ◌^◌, ◌<◌, ◌≤◌, true, ◌&&◌, leb, List, [], ◌∷◌, ◌++◌, length, refl, sym, ap, subst, ◌∙◌, arith}
use Rattle.std.specs.Prelude.{Option, Some, None, Ok}
use Rattle.std.specs.Int.{w16, to_be_bytes}
use Rattle.std.specs.List.{AllByRecursion, flat_map, list_all}
use Rattle.std.proofs.lemmas.Bool.{and_parts, leb-true, le-leb}
use Rattle.hash_bank.specs.declared.bank.Bank.{Bank}
use Rattle.hash_bank.specs.declared.bank.Bank.TheVariants.{Sha1, Sha256, Sha384, Sha512}
use Rattle.hash_bank.specs.Hash.{algorithm_in, bank_of_algorithm}
use Rattle.pl_layout.specs.Reading.{repeat_at}
use Rattle.pl_layout.proofs.Steps.{bind_ok, bind_eq, ok_is, tested_ok}
use Rattle.pl_layout.proofs.Fields.{IsBytes, Takes, Takes-then, Taken, Grammar, wide16, number_grammar, byte_text, byte_takes}
use Rattle.pl_layout.proofs.Repeats.{FitBehind, repeat_take, repeat_again}
use Rattle.policy_digest.specs.declared.table.Row.{Row}
use Rattle.policy_digest.specs.declared.table.Table.{Table}
use Rattle.policy_digest.specs.Table.{each_pair, precedes, valid_row, valid_table}
use Rattle.policy_file.specs.declared.error.FileKind.TheVariants.{Cut}
use Rattle.policy_file.specs.declared.error.FileError.{FileError}
use Rattle.policy_file.specs.declared.version.Version.{Version}
use Rattle.policy_file.specs.PolicyText.{row_text, table_text}
use Rattle.policy_file.specs.PolicyReading.{fault, known, bank_at, count_at, row_at, table_at, tables_at}
use Rattle.policy_file.proofs.Pairs.{Behind, all_paired, paired_all}
use Rattle.policy_file.proofs.RowLaws.{MaskFits, RowFits, again, both, row_grammar, row_parts}
use Rattle.policy_file.proofs.Tokens.{bank_is}

-- ---- counts and banks

pub record CountFits (most n : ℕ) : Type 0 where
  pub some : 1 ≤ n
  pub few : n ≤ most

pub count_takes : (all most : ℕ) (bytes : List ℕ) (x : ℕ × List ℕ) → IsBytes bytes → count_at all most bytes ≡ Ok x → Taken byte_text (CountFits most) bytes x
unfolding count_at
count_takes all most bytes x fits e =
    let a = bind_ok e in
    let t = tested_ok (leb 1 a.value.0 && leb a.value.0 most) _ a.value x a.second in
    let p = and_parts (leb 1 a.value.0) (leb a.value.0 most) t.0 in
    let taken = byte_takes (fault Cut all) bytes a.value fits a.first in
    subst (λ (y : ℕ × List ℕ). Taken byte_text (CountFits most) bytes y) t.1 (record { takes = taken; fits = record { some = leb-true _ _ p.0; few = leb-true _ _ p.1 } })

pub count_again : (all most n : ℕ) (rest : List ℕ) → 1 ≤ n → n ≤ most → count_at all most (n ∷ rest) ≡ Ok (n, rest)
unfolding count_at
count_again all most n rest some few = again (leb 1 n && leb n most) _ (n, rest) (both _ _ (le-leb _ _ some) (le-leb _ _ few))

known_ok : (o : Option Bank) (d : FileError) (rest : List ℕ) (x : Bank × List ℕ) → known o d rest ≡ Ok x → (o ≡ Some x.0) × (rest ≡ x.1)
known_ok None d rest x e = absurd cc
known_ok (Some bank) d rest x e = let same : (bank, rest) ≡ x = ok_is (bank, rest) x e in (ap (λ (y : Bank × List ℕ). Some y.0) same, ap (λ (y : Bank × List ℕ). y.1) same)

bank_takes : (all : ℕ) (bytes : List ℕ) (x : Bank × List ℕ) → IsBytes bytes → bank_at all bytes ≡ Ok x → Takes bytes (to_be_bytes w16 (algorithm_in x.0)) x.1
unfolding bank_at
bank_takes all bytes x fits e =
    let a = bind_ok e in
    let k = known_ok (bank_of_algorithm a.value.0) _ a.value.1 x a.second in
    let taken = (number_grammar wide16 (fault Cut all)).takes bytes a.value fits a.first in
    let number = bank_is a.value.0 x.0 k.0 in
    subst (λ (rest : List ℕ). Takes bytes (to_be_bytes w16 (algorithm_in x.0)) rest) k.1 (subst (λ (n : ℕ). Takes bytes (to_be_bytes w16 n) a.value.1) number taken.takes)

known_again : (bank : Bank) (d : FileError) (rest : List ℕ) → known (bank_of_algorithm (algorithm_in bank)) d rest ≡ Ok (bank, rest)
known_again Sha1 d rest = refl
known_again Sha256 d rest = refl
known_again Sha384 d rest = refl
known_again Sha512 d rest = refl

small : (bank : Bank) → algorithm_in bank < 2 ^ 16
small Sha1 = omega arith
small Sha256 = omega arith
small Sha384 = omega arith
small Sha512 = omega arith

bank_again : (all : ℕ) (bank : Bank) (rest : List ℕ) → bank_at all (to_be_bytes w16 (algorithm_in bank) ++ rest) ≡ Ok (bank, rest)
unfolding bank_at
bank_again all bank rest =
    bind_eq _ (algorithm_in bank, rest) ((number_grammar wide16 (fault Cut all)).again (algorithm_in bank) rest (small bank)) (known_again bank _ rest)

-- ---- rows

-- the layout of a version can hold all rows
abbrev pub RowsFit : Version → List Row → Type 0
RowsFit version = AllByRecursion (λ (row : Row). MaskFits version row.pcrs)

module _ (version : Version) (bank : Bank) where
  -- what fits behind others, and what the layout holds
  stand : (before rows : List Row) → FitBehind (RowFits version bank) before rows → FitBehind (Behind (valid_row bank) precedes) before rows
  stand before [] h = tt
  stand before (row ∷ rows) h = (h.0.stands, stand (before ++ row ∷ []) rows h.1)

  laid : (before rows : List Row) → FitBehind (RowFits version bank) before rows → RowsFit version rows
  laid before [] h = tt
  laid before (row ∷ rows) h = (h.0.layout, laid (before ++ row ∷ []) rows h.1)

  fit : (before rows : List Row) → FitBehind (Behind (valid_row bank) precedes) before rows → RowsFit version rows → FitBehind (RowFits version bank) before rows
  fit before [] h k = tt
  fit before (row ∷ rows) h k = (record { stands = h.0; layout = k.0 }, fit (before ++ row ∷ []) rows h.1 k.1)

-- ---- a table

pub record TableFits (version : Version) (table : Table) : Type 0 where
  pub valid : valid_table table ≡ true
  pub layout : RowsFit version table.rows

-- what a valid table is
pub record TableParts (table : Table) : Type 0 where
  pub some : 1 ≤ length table.rows
  pub few : length table.rows ≤ 24
  pub rows : list_all (valid_row table.bank) table.rows ≡ true
  pub ordered : each_pair precedes table.rows ≡ true

pub table_parts : (table : Table) → valid_table table ≡ true → TableParts table
table_parts table h =
    let a = and_parts _ (each_pair precedes table.rows) h in
    let b = and_parts _ (list_all (valid_row table.bank) table.rows) a.0 in
    let c = and_parts (leb 1 (length table.rows)) (leb (length table.rows) 24) b.0 in
    record { some = leb-true _ _ c.0; few = leb-true _ _ c.1; rows = b.1; ordered = a.1 }

table_takes : (all : ℕ) (version : Version) (bytes : List ℕ) (x : Table × List ℕ) → IsBytes bytes → table_at all version bytes ≡ Ok x → Taken (table_text version) (TableFits version) bytes x
unfolding table_at
table_takes all version bytes x fits e =
    let a = bind_ok e in
    let b = bind_ok a.second in
    let c = bind_ok b.second in
    let bank = bank_takes all bytes a.value fits a.first in
    let count = count_takes all 24 a.value.1 b.value bank.rest_fits b.first in
    let rows = repeat_take (row_grammar all version a.value.0) b.value.0 [] b.value.1 c.value count.takes.rest_fits c.first in
    let made : Table × List ℕ = (record { bank = a.value.0; rows = c.value.0 }, c.value.1) in
    let whole : c.value.0 ≡ rows.more = rows.whole in
    let long : length c.value.0 ≡ b.value.0 = ap length whole ∙ rows.count in
    let paired = all_paired (valid_row a.value.0) precedes rows.more (stand version a.value.0 [] rows.more rows.fits) in
    let valid_rows : list_all (valid_row a.value.0) c.value.0 ≡ true = ap (list_all (valid_row a.value.0)) whole ∙ paired.0 in
    let ordered : each_pair precedes c.value.0 ≡ true = ap (each_pair precedes) whole ∙ paired.1 in
    let some : 1 ≤ length c.value.0 = omega (arith, long, count.fits.some) in
    let few : length c.value.0 ≤ 24 = omega (arith, long, count.fits.few) in
    let valid : valid_table made.0 ≡ true = both _ _ (both _ _ (both _ _ (le-leb _ _ some) (le-leb _ _ few)) valid_rows) ordered in
    let count_text : Takes a.value.1 (length c.value.0 ∷ []) b.value.1 = subst (λ (n : ℕ). Takes a.value.1 (n ∷ []) b.value.1) (sym long) count.takes in
    let rows_text : Takes b.value.1 (flat_map (row_text version) c.value.0) c.value.1 = subst (λ (l : List Row). Takes b.value.1 (flat_map (row_text version) l) c.value.1) (sym whole) rows.takes in
    subst (λ (y : Table × List ℕ). Taken (table_text version) (TableFits version) bytes y) (ok_is made x c.second) (record {
      takes = Takes-then bank (Takes-then count_text rows_text);
      fits = record { valid = valid; layout = subst (λ (l : List Row). RowsFit version l) (sym whole) (laid version a.value.0 [] rows.more rows.fits) };
    })

table_again : (all : ℕ) (version : Version) (table : Table) (rest : List ℕ) → TableFits version table → table_at all version (table_text version table ++ rest) ≡ Ok (table, rest)
unfolding table_at
table_again all version table rest is =
    let p = table_parts table is.valid in
    let rows = flat_map (row_text version) table.rows ++ rest in
    let read : repeat_at (row_at all version table.bank) (length table.rows) [] rows ≡ Ok (table.rows, rest) =
    repeat_again (row_grammar all version table.bank) [] table.rows rest (fit version table.bank [] table.rows (paired_all (valid_row table.bank) precedes table.rows p.rows p.ordered) is.layout) in
    bind_eq _ (table.bank, length table.rows ∷ rows) (bank_again all table.bank (length table.rows ∷ rows))
    (bind_eq _ (length table.rows, rows) (count_again all 24 (length table.rows) rows p.some p.few)
    (bind_eq _ (table.rows, rest) read refl))

pub table_grammar : (all : ℕ) (version : Version) (before : List Table) → Grammar (table_at all version) (table_text version) (TableFits version)
table_grammar all version before = record {
  takes = λ bytes x fits e. table_takes all version bytes x fits e;
  again = λ table rest is. table_again all version table rest is;
}

-- ---- the tables of a policy

pub record TablesFit (version : Version) (tables : List Table) : Type 0 where
  pub some : 1 ≤ length tables
  pub few : length tables ≤ 2
  pub each : AllByRecursion (TableFits version) tables

each_of : (version : Version) (before tables : List Table) → FitBehind (λ before. TableFits version) before tables → AllByRecursion (TableFits version) tables
each_of version before [] h = tt
each_of version before (t ∷ tables) h = (h.0, each_of version (before ++ t ∷ []) tables h.1)

of_each : (version : Version) (before tables : List Table) → AllByRecursion (TableFits version) tables → FitBehind (λ before. TableFits version) before tables
of_each version before [] h = tt
of_each version before (t ∷ tables) h = (h.0, of_each version (before ++ t ∷ []) tables h.1)

abbrev pub tables_text : Version → List Table → List ℕ
tables_text version tables = length tables ∷ flat_map (table_text version) tables

pub tables_take : (all : ℕ) (version : Version) (bytes : List ℕ) (x : List Table × List ℕ) → IsBytes bytes → tables_at all version bytes ≡ Ok x → Taken (tables_text version) (TablesFit version) bytes x
unfolding tables_at
tables_take all version bytes x fits e =
    let a = bind_ok e in
    let count = count_takes all 2 bytes a.value fits a.first in
    let tables = repeat_take (table_grammar all version) a.value.0 [] a.value.1 x count.takes.rest_fits a.second in
    let whole : x.0 ≡ tables.more = tables.whole in
    let long : length x.0 ≡ a.value.0 = ap length whole ∙ tables.count in
    let count_text : Takes bytes (length x.0 ∷ []) a.value.1 = subst (λ (n : ℕ). Takes bytes (n ∷ []) a.value.1) (sym long) count.takes in
    let rest_text : Takes a.value.1 (flat_map (table_text version) x.0) x.1 = subst (λ (l : List Table). Takes a.value.1 (flat_map (table_text version) l) x.1) (sym whole) tables.takes in
    record {
      takes = Takes-then count_text rest_text;
      fits = record {
        some = omega (arith, long, count.fits.some);
        few = omega (arith, long, count.fits.few);
        each = subst (λ (l : List Table). AllByRecursion (TableFits version) l) (sym whole) (each_of version [] tables.more tables.fits);
      };
    }

pub tables_again : (all : ℕ) (version : Version) (tables : List Table) (rest : List ℕ) → TablesFit version tables → tables_at all version (tables_text version tables ++ rest) ≡ Ok (tables, rest)
unfolding tables_at
tables_again all version tables rest is =
    bind_eq _ (length tables, flat_map (table_text version) tables ++ rest) (count_again all 2 (length tables) (flat_map (table_text version) tables ++ rest) is.some is.few)
    (repeat_again (table_grammar all version) [] tables rest (of_each version [] tables is.each))

-- ---- what writing asks for

-- a valid row has at most 512 lists
pub few_lists : (bank : Bank) (rows : List Row) → list_all (valid_row bank) rows ≡ true → AllByRecursion (λ (row : Row). length row.choices ≤ 512) rows
few_lists bank [] h = tt
few_lists bank (row ∷ rows) h =
    let p = and_parts (valid_row bank row) (list_all (valid_row bank) rows) h in
    ((row_parts bank row p.0).few, few_lists bank rows p.1)

pub few_in_table : (table : Table) → valid_table table ≡ true → AllByRecursion (λ (row : Row). length row.choices ≤ 512) table.rows
few_in_table table h = few_lists table.bank table.rows (table_parts table h).rows

pub few_rows : (table : Table) → valid_table table ≡ true → length table.rows ≤ 24
few_rows table h = (table_parts table h).few
