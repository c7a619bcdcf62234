-- A policy that is read is spelled so, and what is spelled so is read.
use Rattle.std.proofs.Common.{◌≡◌, ℕ, ◌^◌, ◌<◌, ◌≤◌, Bool, true, false, cond, ◌&&◌, leb, eqb, List, [], ◌∷◌, ◌++◌, length, refl, sym, ap, subst, ◌∙◌, append_assoc, arith, inl, inr}
use Rattle.std.specs.Prelude.{Result, Ok, Err, IfOk, not}
use Rattle.std.specs.Int.{w32, to_be_bytes}
use Rattle.std.specs.List.{AllByRecursion, list_all}
use Rattle.std.specs.Str.{bytes_eq}
use Rattle.std.proofs.lemmas.Bool.{and_parts, leb-true, le-leb, eqb-true}
use Rattle.std.proofs.lemmas.Bool.Decides.{Decides-eqb}
use Rattle.std.proofs.lemmas.List.{append-nil, nil_from_length}
use Rattle.std.proofs.lemmas.Slice.Eq.{bytes_eq-Decides}
use Rattle.std.specs.Global.{Vec}
use Rattle.pl_base.specs.declared.memory.Memory.{Memory}
use Rattle.pl_layout.proofs.Steps.{bind_ok, bind_eq, on_test, ok_is, tested_ok}
use Rattle.pl_layout.proofs.Fields.{IsBytes, Takes, Takes-then, Taken, bytes_take, bytes_again, wide32, number_grammar}
use Rattle.policy_digest.specs.declared.table.Row.{Row}
use Rattle.policy_digest.specs.declared.table.Table.{Table}
use Rattle.policy_digest.specs.Table.{valid_table}
use Rattle.policy_file.specs.declared.error.FileKind.TheVariants.{Cut}
use Rattle.policy_file.specs.declared.error.FileError.{FileError}
use Rattle.policy_file.specs.declared.policy.Policy.{Policy}
use Rattle.policy_file.specs.declared.version.Version.{Version}
use Rattle.policy_file.specs.declared.version.Version.TheVariants.{One, Two}
use Rattle.policy_file.specs.PolicyText.{IsIndex, IsPolicy, all_single, is_single, version_of, policy_magic, body_text, policy_text}
use Rattle.policy_file.specs.PolicyReading.{Reads, fault, version_at, handle_at, body_at, needs, policy_in}
use Rattle.policy_file.proofs.RowLaws.{again, both}
use Rattle.policy_file.proofs.TableLaws.{RowsFit, TableFits, TablesFit, tables_text, tables_take, tables_again}

-- ---- the version

refused : {A : Type 0} (d : FileError) (y : A) → Err d ≡ Ok y → ⊥
refused d y e = cc

version_takes : (all : ℕ) (bytes : List ℕ) (x : Version × List ℕ) → IsBytes bytes → version_at all bytes ≡ Ok x → Takes bytes (policy_magic x.0) x.1
unfolding version_at
version_takes all bytes x fits e =
    let a = bind_ok e in
    let t = bytes_take (fault Cut all) 8 bytes a.value fits a.first in
    elim (on_test (bytes_eq a.value.0 (policy_magic One)) a.second) [
      | inl p ↦ subst (λ (y : Version × List ℕ). Takes bytes (policy_magic y.0) y.1) (ok_is (One, a.value.1) x p.1)
          (subst (λ (text : List ℕ). Takes bytes text a.value.1) ((bytes_eq-Decides a.value.0 (policy_magic One)).0 p.0) t.takes)
      | inr q ↦ elim (on_test (bytes_eq a.value.0 (policy_magic Two)) q.1) [
        | inl p ↦ subst (λ (y : Version × List ℕ). Takes bytes (policy_magic y.0) y.1) (ok_is (Two, a.value.1) x p.1)
            (subst (λ (text : List ℕ). Takes bytes text a.value.1) ((bytes_eq-Decides a.value.0 (policy_magic Two)).0 p.0) t.takes)
        | inr q ↦ absurd (refused _ x q.1)
      ]
    ]

version_again : (all : ℕ) (version : Version) (rest : List ℕ) → version_at all (policy_magic version ++ rest) ≡ Ok (version, rest)
unfolding version_at
version_again all One rest = bind_eq _ (policy_magic One, rest) (bytes_again (fault Cut all) 8 (policy_magic One) rest refl) refl
version_again all Two rest = bind_eq _ (policy_magic Two, rest) (bytes_again (fault Cut all) 8 (policy_magic Two) rest refl) refl

-- ---- handles

handle_takes : (all low high : ℕ) (bytes : List ℕ) (x : ℕ × List ℕ) → IsBytes bytes → handle_at all low high bytes ≡ Ok x → Taken (to_be_bytes w32) (λ n. (low ≤ n) × (n ≤ high)) bytes x
unfolding handle_at
handle_takes all low high bytes x fits e =
    let a = bind_ok e in
    let t = tested_ok (leb low a.value.0 && leb a.value.0 high) _ a.value x a.second in
    let p = and_parts (leb low a.value.0) (leb a.value.0 high) t.0 in
    let taken = (number_grammar wide32 (fault Cut all)).takes bytes a.value fits a.first in
    subst (λ (y : ℕ × List ℕ). Taken (to_be_bytes w32) (λ n. (low ≤ n) × (n ≤ high)) bytes y) t.1 (record { takes = taken.takes; fits = (leb-true _ _ p.0, leb-true _ _ p.1) })

handle_again : (all low high n : ℕ) (rest : List ℕ) → high < 2 ^ 32 → low ≤ n → n ≤ high → handle_at all low high (to_be_bytes w32 n ++ rest) ≡ Ok (n, rest)
unfolding handle_at
handle_again all low high n rest small above below =
    bind_eq _ (n, rest) ((number_grammar wide32 (fault Cut all)).again n rest (omega (arith, small, below)))
    (again (leb low n && leb n high) _ (n, rest) (both _ _ (le-leb _ _ above) (le-leb _ _ below)))

-- ---- the body

record BodyFits (version : Version) (p : Policy) : Type 0 where
  handle : IsIndex p.handle
  index_policy : length p.index_policy ≡ 32
  pin_object : (0x81000000 ≤ p.pin_object) × (p.pin_object ≤ 0x817FFFFF)
  tables : TablesFit version p.tables

body_takes : (all : ℕ) (version : Version) (bytes : List ℕ) (x : Policy × List ℕ) → IsBytes bytes → body_at all version bytes ≡ Ok x → Taken (body_text version) (BodyFits version) bytes x
unfolding body_at
body_takes all version bytes x fits e =
    let a = bind_ok e in
    let b = bind_ok a.second in
    let c = bind_ok b.second in
    let d = bind_ok c.second in
    let handle = handle_takes all 0x01000000 0x01FFFFFF bytes a.value fits a.first in
    let digest = bytes_take (fault Cut all) 32 a.value.1 b.value handle.takes.rest_fits b.first in
    let pin = handle_takes all 0x81000000 0x817FFFFF b.value.1 c.value digest.takes.rest_fits c.first in
    let tables = tables_take all version c.value.1 d.value pin.takes.rest_fits d.first in
    let made : Policy × List ℕ = (record { handle = a.value.0; index_policy = b.value.0; pin_object = c.value.0; tables = d.value.0 }, d.value.1) in
    subst (λ (y : Policy × List ℕ). Taken (body_text version) (BodyFits version) bytes y) (ok_is made x d.second) (record {
      takes = Takes-then handle.takes (Takes-then digest.takes (Takes-then pin.takes tables.takes));
      fits = record { handle = handle.fits; index_policy = digest.count; pin_object = pin.fits; tables = tables.fits };
    })

regroup : (a b c d rest : List ℕ) → (a ++ (b ++ (c ++ d))) ++ rest ≡ a ++ (b ++ (c ++ (d ++ rest)))
regroup a b c d rest = simp append_assoc

body_again : (all : ℕ) (version : Version) (p : Policy) (rest : List ℕ) → BodyFits version p → body_at all version (body_text version p ++ rest) ≡ Ok (p, rest)
unfolding body_at
body_again all version p rest is =
    let tables = tables_text version p.tables ++ rest in
    let pin = to_be_bytes w32 p.pin_object ++ tables in
    let digest = p.index_policy ++ pin in
    ap (body_at all version) (regroup (to_be_bytes w32 p.handle) p.index_policy (to_be_bytes w32 p.pin_object) (tables_text version p.tables) rest)
    ∙ bind_eq _ (p.handle, digest) (handle_again all 0x01000000 0x01FFFFFF p.handle digest (omega arith) is.handle.0 is.handle.1)
    (bind_eq _ (p.index_policy, pin) (bytes_again (fault Cut all) 32 p.index_policy pin is.index_policy)
    (bind_eq _ (p.pin_object, tables) (handle_again all 0x81000000 0x817FFFFF p.pin_object tables (omega arith) is.pin_object.0 is.pin_object.1)
    (bind_eq _ (p.tables, rest) (tables_again all version p.tables rest is.tables) refl)))

-- ---- which version holds which tables

rows_single : (rows : List Row) → RowsFit One rows → list_all is_single rows ≡ true
rows_single [] h = refl
rows_single (row ∷ rows) h = both _ _ ((Decides-eqb _ _).1 h.0) (rows_single rows h.1)

tables_single : (tables : List Table) → AllByRecursion (TableFits One) tables → all_single tables ≡ true
tables_single [] h = refl
tables_single (t ∷ tables) h = both _ _ (rows_single t.rows h.0.layout) (tables_single tables h.1)

needed : (version : Version) (tables : List Table) → AllByRecursion (TableFits version) tables → needs version tables ≡ true → version_of tables ≡ version
needed One tables each e = ap (λ (b : Bool). cond b One Two) (tables_single tables each)
needed Two tables each e = by_test (all_single tables) e
  where
    by_test : (b : Bool) → not b ≡ true → cond b One Two ≡ Two
    by_test true e = absurd cc
    by_test false e = refl

single_rows : (rows : List Row) → list_all is_single rows ≡ true → RowsFit One rows
single_rows [] h = tt
single_rows (row ∷ rows) h = let p = and_parts (is_single row) (list_all is_single rows) h in (eqb-true _ _ p.0, single_rows rows p.1)

any_rows : (rows : List Row) → RowsFit Two rows
any_rows [] = tt
any_rows (row ∷ rows) = (tt, any_rows rows)

single_tables : (tables : List Table) → AllByRecursion (λ (t : Table). valid_table t ≡ true) tables → all_single tables ≡ true → AllByRecursion (TableFits One) tables
single_tables [] valid h = tt
single_tables (t ∷ tables) valid h =
    let p = and_parts (list_all is_single t.rows) (all_single tables) h in
    (record { valid = valid.0; layout = single_rows t.rows p.0 }, single_tables tables valid.1 p.1)

any_tables : (tables : List Table) → AllByRecursion (λ (t : Table). valid_table t ≡ true) tables → AllByRecursion (TableFits Two) tables
any_tables [] valid = tt
any_tables (t ∷ tables) valid = (record { valid = valid.0; layout = any_rows t.rows }, any_tables tables valid.1)

record Held (tables : List Table) : Type 0 where
  each : AllByRecursion (TableFits (version_of tables)) tables
  needed : needs (version_of tables) tables ≡ true

held : (tables : List Table) → AllByRecursion (λ (t : Table). valid_table t ≡ true) tables → Held tables
held tables valid = by_test (all_single tables) refl
  where
    by_test : (b : Bool) → all_single tables ≡ b → Held tables
    by_test true e =
        let one : version_of tables ≡ One = ap (λ (b : Bool). cond b One Two) e in
        record {
          each = subst (λ (v : Version). AllByRecursion (TableFits v) tables) (sym one) (single_tables tables valid e);
          needed = ap (λ (v : Version). needs v tables) one;
        }
    by_test false e =
        let two : version_of tables ≡ Two = ap (λ (b : Bool). cond b One Two) e in
        record {
          each = subst (λ (v : Version). AllByRecursion (TableFits v) tables) (sym two) (any_tables tables valid);
          needed = ap (λ (v : Version). needs v tables) two ∙ ap not e;
        }

valid_tables : (version : Version) (tables : List Table) → AllByRecursion (TableFits version) tables → AllByRecursion (λ (t : Table). valid_table t ≡ true) tables
valid_tables version [] h = tt
valid_tables version (t ∷ tables) h = (h.0.valid, valid_tables version tables h.1)

-- ---- the whole

record PolicyTaken (bytes : List ℕ) (p : Policy) : Type 0 where
  is : IsPolicy p
  text : bytes ≡ policy_text p

policy_takes : (bytes : List ℕ) (p : Policy) → IsBytes bytes → policy_in bytes ≡ Ok p → PolicyTaken bytes p
unfolding policy_in
policy_takes bytes p fits e =
    let a = bind_ok e in
    let b = bind_ok a.second in
    let c = bind_ok b.second in
    let n = tested_ok (needs a.value.0 b.value.0.tables) _ b.value c.value c.first in
    let l = tested_ok (eqb (length c.value.1) 0) _ c.value.0 p c.second in
    let magic = version_takes (length bytes) bytes a.value fits a.first in
    let body = body_takes (length bytes) a.value.0 a.value.1 b.value magic.rest_fits b.first in
    let ended : b.value.1 ≡ [] = ap (λ (y : Policy × List ℕ). y.1) n.1 ∙ nil_from_length c.value.1 (eqb-true _ _ l.0) in
    let same : b.value.0 ≡ p = ap (λ (y : Policy × List ℕ). y.0) n.1 ∙ l.1 in
    let version : version_of b.value.0.tables ≡ a.value.0 = needed a.value.0 b.value.0.tables body.fits.tables.each n.0 in
    let front : Takes bytes (policy_magic a.value.0 ++ body_text a.value.0 b.value.0) b.value.1 = Takes-then magic body.takes in
    let text : bytes ≡ policy_text b.value.0 =
    front.parts
    ∙ ap (λ (rest : List ℕ). (policy_magic a.value.0 ++ body_text a.value.0 b.value.0) ++ rest) ended ∙ append-nil _
    ∙ ap (λ (v : Version). policy_magic v ++ body_text v b.value.0) (sym version) in
    subst (λ (q : Policy). PolicyTaken bytes q) same (record {
      is = record {
        handle = body.fits.handle;
        index_policy = body.fits.index_policy;
        pin_object = body.fits.pin_object;
        some = body.fits.tables.some;
        few = body.fits.tables.few;
        tables = valid_tables a.value.0 b.value.0.tables body.fits.tables.each;
      };
      text = text;
    })

pub policy_again : (p : Policy) → IsPolicy p → policy_in (policy_text p) ≡ Ok p
unfolding policy_in
policy_again p is =
    let version = version_of p.tables in
    let body = body_text version p in
    let all = length (policy_text p) in
    let h = held p.tables is.tables in
    let fits : BodyFits version p = record { handle = is.handle; index_policy = is.index_policy; pin_object = is.pin_object; tables = record { some = is.some; few = is.few; each = h.each } } in
    let read : body_at all version body ≡ Ok (p, []) = ap (body_at all version) (sym (append-nil body)) ∙ body_again all version p [] fits in
    bind_eq _ (version, body) (version_again all version body)
    (bind_eq _ (p, []) read
    (bind_eq _ (p, []) (again (needs version p.tables) _ (p, []) h.needed) refl))

-- ---- what a function that gives the reading tells

pub is_spelled : (bytes : List ℕ) (r : Result Policy FileError) → IsBytes bytes → Reads (λ x. x) r (policy_in bytes) → IfOk r (λ p. IsPolicy p × (bytes ≡ policy_text p))
is_spelled bytes (Ok p) fits given = let t = policy_takes bytes p fits given in (t.is, t.text)
is_spelled bytes (Err e) fits given = tt

pub is_read : (bytes : List ℕ) (r : Result Policy FileError) → Reads (λ x. x) r (policy_in bytes) → (p : Policy) → IsPolicy p → bytes ≡ policy_text p → Reads (λ x. x) r (Ok p)
is_read bytes r given p is text = subst (λ (f : Result Policy FileError). Reads (λ x. x) r f) (ap policy_in text ∙ policy_again p is) given

pub is_read_back : (p : Policy) (r : Result (Vec ℕ) Memory) → IsPolicy p → IfOk r (λ text. text.items ≡ policy_text p) → IfOk r (λ text. policy_in text.items ≡ Ok p)
is_read_back p (Ok text) is spelled = ap policy_in spelled ∙ policy_again p is
is_read_back p (Err e) is spelled = tt
