-- How long the text of a policy may be: the rows of a table share no PCR, so together they have at most 24.
use Rattle.std.proofs.Common.{◌≡◌, ℕ, suc, ◌+◌, ◌*◌, ◌<◌, ◌≤◌, Bool, true, false, cond, ◌&&◌, ◌||◌, eqb, ltb, List, [], ◌∷◌, ◌++◌, length, refl, sym, ap, subst, ◌∙◌, arith, length-append}
use Rattle.std.specs.Prelude.{Ok, Err, Result, IfOk, filter, not, bit_and}
use Rattle.std.specs.Int.{w16, w32, to_be_bytes, bit_at, trailing_zeros}
use Rattle.std.specs.List.{AllByRecursion, flat_map, list_all, range_with_len}
use Rattle.std.specs.Global.{Vec}
use Rattle.std.proofs.Math.Nat.{mul-suc, mul-le-mul_left}
use Rattle.std.proofs.lemmas.Bool.{and_parts, eqb-true}
use Rattle.std.proofs.lemmas.List.Filters.{length-filter_both}
use Rattle.std.proofs.lemmas.Nat.Bits.{bit_at_and, bit_at-zero}
use Rattle.pl_base.specs.declared.memory.Memory.{Memory}
use Rattle.hash_bank.specs.declared.bank.Bank.{Bank}
use Rattle.hash_bank.specs.declared.bank.Bank.TheVariants.{Sha1, Sha256, Sha384, Sha512}
use Rattle.hash_bank.specs.Hash.{size_in}
use Rattle.policy_digest.specs.declared.table.Row.{Row}
use Rattle.policy_digest.specs.declared.table.Table.{Table}
use Rattle.policy_digest.specs.Mask.{has_pcr, pcrs_of}
use Rattle.policy_digest.specs.Strings.{values_string}
use Rattle.policy_digest.specs.Table.{each_pair, fits as fits_row, precedes, valid_row, valid_table}
use Rattle.policy_file.specs.declared.policy.Policy.{Policy}
use Rattle.policy_file.specs.declared.version.Version.{Version}
use Rattle.policy_file.specs.declared.version.Version.TheVariants.{One, Two}
use Rattle.policy_file.specs.PolicyText.{IsPolicy, mask_text, policy_magic, policy_text, row_text, table_text, version_of}
use Rattle.policy_digest.proofs.MaskLists.{few_listed}
use Rattle.policy_file.proofs.RowLaws.{row_parts}
use Rattle.policy_file.proofs.TableLaws.{table_parts}

-- ---- the PCRs of rows that share none

-- the PCRs of all rows, counted
listed : List Row → ℕ
listed [] = 0
listed (row ∷ rows) = length (pcrs_of row.pcrs) + listed rows

abbrev passing : (ℕ → Bool) → ℕ
passing p = length (filter p (range_with_len 0 24))

-- no PCR passes both tests
abbrev Apart : (ℕ → Bool) → (ℕ → Bool) → Type 0
Apart p q = (i : ℕ) → p i ≡ true → q i ≡ true → ⊥

abbrev either : (ℕ → Bool) → (ℕ → Bool) → ℕ → Bool
either p q i = p i || q i

one_counts : (a b : Bool) (x : ℕ) (ps qs both : List ℕ) → (a ≡ true → b ≡ true → ⊥) → length ps + length qs ≤ length both
    → length (cond a (x ∷ ps) ps) + length (cond b (x ∷ qs) qs) ≤ length (cond (a || b) (x ∷ both) both)
one_counts true true x ps qs both apart le = absurd (apart refl refl)
one_counts true false x ps qs both apart le = omega arith
one_counts false true x ps qs both apart le = omega arith
one_counts false false x ps qs both apart le = le

both_count : (p q : ℕ → Bool) (xs : List ℕ) → Apart p q → length (filter p xs) + length (filter q xs) ≤ length (filter (either p q) xs)
both_count p q [] apart = omega arith
both_count p q (x ∷ xs) apart = one_counts (p x) (q x) x (filter p xs) (filter q xs) (filter (either p q) xs) (apart x) (both_count p q xs apart)

either_is : (a b : Bool) → (a || b) ≡ true → (b ≡ false → a ≡ true)
either_is true b e none = refl
either_is false b e none = absurd (cc (sym e ∙ none))

either_apart : (p q r : ℕ → Bool) → Apart p r → Apart q r → Apart (either p q) r
either_apart p q r p_apart q_apart i h k = by_test (q i) refl
  where
    by_test : (b : Bool) → q i ≡ b → ⊥
    by_test true e = q_apart i e k
    by_test false e = p_apart i (either_is (p i) (q i) h e) k

-- masks with no bit in common
masks_apart : (a b : ℕ) → bit_and a b ≡ 0 → Apart (has_pcr a) (has_pcr b)
masks_apart a b none i h k =
    let both : bit_at (bit_and a b) i ≡ 1 = bit_at_and a b i ∙ rw (eqb-true (bit_at a i) 1 h, eqb-true (bit_at b i) 1 k) refl in
    let zero : bit_at (bit_and a b) i ≡ 0 = ap (λ n. bit_at n i) none ∙ bit_at-zero i in
    absurd (omega (arith, both, zero))

rows_apart : (a b : Row) → precedes a b ≡ true → Apart (has_pcr a.pcrs) (has_pcr b.pcrs)
rows_apart a b h =
    let p = and_parts (eqb (bit_and a.pcrs b.pcrs) 0) (ltb (trailing_zeros w32 a.pcrs) (trailing_zeros w32 b.pcrs)) h in
    masks_apart a.pcrs b.pcrs (eqb-true _ _ p.0)

-- what passes is in no row
abbrev ApartFrom : (ℕ → Bool) → List Row → Type 0
ApartFrom p rows = AllByRecursion (λ (row : Row). Apart p (has_pcr row.pcrs)) rows

one_more : (p : ℕ → Bool) (row : Row) (rows : List Row) → list_all (precedes row) rows ≡ true → ApartFrom p rows → ApartFrom (either p (has_pcr row.pcrs)) rows
one_more p row [] h apart = tt
one_more p row (next ∷ rows) h apart =
    let t = and_parts (precedes row next) (list_all (precedes row) rows) h in
    (either_apart p (has_pcr row.pcrs) (has_pcr next.pcrs) apart.0 (rows_apart row next t.0), one_more p row rows t.1 apart.1)

all_of : (p : ℕ → Bool) → passing p ≤ 24
all_of p = omega (arith, length-filter_both p (λ i. not (p i)) (λ i. refl) (range_with_len 0 24))

listed_of : (mask : ℕ) → length (pcrs_of mask) ≡ passing (has_pcr mask)
unfolding pcrs_of
listed_of mask = refl

within_all : (p : ℕ → Bool) (rows : List Row) → each_pair precedes rows ≡ true → ApartFrom p rows → passing p + listed rows ≤ 24
unfolding listed
within_all p [] ordered apart = omega (arith, all_of p)
within_all p (row ∷ rows) ordered apart =
    let t = and_parts (list_all (precedes row) rows) (each_pair precedes rows) ordered in
    let rest = within_all (either p (has_pcr row.pcrs)) rows t.1 (one_more p row rows t.0 apart.1) in
    let here = both_count p (has_pcr row.pcrs) (range_with_len 0 24) apart.0 in
    omega (arith, rest, here, listed_of row.pcrs)

none_apart : (rows : List Row) → ApartFrom (λ i. false) rows
none_apart [] = tt
none_apart (row ∷ rows) = ((λ i h k. absurd (cc h)), none_apart rows)

few_in_all : (rows : List Row) → each_pair precedes rows ≡ true → listed rows ≤ 24
few_in_all rows ordered = omega (arith, within_all (λ i. false) rows ordered (none_apart rows))

-- ---- the lengths of texts

size_most : (bank : Bank) → size_in bank ≤ 64
size_most Sha1 = omega arith
size_most Sha256 = omega arith
size_most Sha384 = omega arith
size_most Sha512 = omega arith

values_size : (size : ℕ) (values : List (List ℕ)) → size ≤ 64 → list_all (λ d. eqb (length d) size) values ≡ true → length (values_string values) ≤ 64 * length values
values_size size [] most h = omega arith
values_size size (v ∷ values) most h =
    let t = and_parts (eqb (length v) size) (list_all (λ d. eqb (length d) size) values) h in
    omega (arith, length-append v (values_string values), values_size size values most t.1, eqb-true (length v) size t.0)

lists_size : (bank : Bank) (count : ℕ) (lists : List (List (List ℕ))) → list_all (fits_row bank count) lists ≡ true → length (flat_map values_string lists) ≤ (64 * count) * length lists
lists_size bank count [] h = omega arith
lists_size bank count (values ∷ lists) h =
    let t = and_parts (fits_row bank count values) (list_all (fits_row bank count) lists) h in
    let u = and_parts (eqb (length values) count) (list_all (λ d. eqb (length d) (size_in bank)) values) t.0 in
    let one = values_size (size_in bank) values (size_most bank) u.1 in
    omega (arith, length-append (values_string values) (flat_map values_string lists), one, eqb-true (length values) count u.0, lists_size bank count lists t.1, mul-suc (64 * count) (length lists))

mask_size : (version : Version) (mask : ℕ) → length (mask_text version mask) ≤ 24
mask_size One mask = few_listed mask
mask_size Two mask = omega arith

row_size : (version : Version) (bank : Bank) (row : Row) → valid_row bank row ≡ true → length (row_text version row) ≤ 26 + 32768 * length (pcrs_of row.pcrs)
row_size version bank row valid =
    let p = row_parts bank row valid in
    let count : ℕ = length (pcrs_of row.pcrs) in
    let lists = lists_size bank count row.choices p.fitting in
    let most : (64 * count) * length row.choices ≤ (64 * count) * 512 = mul-le-mul_left (64 * count) p.few in
    omega (
      arith,
      length-append (mask_text version row.pcrs) (to_be_bytes w16 (length row.choices) ++ flat_map values_string row.choices),
      length-append (to_be_bytes w16 (length row.choices)) (flat_map values_string row.choices),
      mask_size version row.pcrs,
      lists,
      most,
    )

rows_size : (version : Version) (bank : Bank) (rows : List Row) → list_all (valid_row bank) rows ≡ true → length (flat_map (row_text version) rows) ≤ 26 * length rows + 32768 * listed rows
unfolding listed
rows_size version bank [] h = omega arith
rows_size version bank (row ∷ rows) h =
    let t = and_parts (valid_row bank row) (list_all (valid_row bank) rows) h in
    omega (arith, length-append (row_text version row) (flat_map (row_text version) rows), row_size version bank row t.0, rows_size version bank rows t.1)

table_size : (version : Version) (table : Table) → valid_table table ≡ true → length (table_text version table) ≤ 787059
table_size version table valid =
    let p = table_parts table valid in
    omega (arith, rows_size version table.bank table.rows p.rows, few_in_all table.rows p.ordered, p.few)

tables_size : (version : Version) (tables : List Table) → AllByRecursion (λ (t : Table). valid_table t ≡ true) tables → length (flat_map (table_text version) tables) ≤ 787059 * length tables
tables_size version [] valid = omega arith
tables_size version (table ∷ tables) valid =
    omega (arith, length-append (table_text version table) (flat_map (table_text version) tables), table_size version table valid.0, tables_size version tables valid.1)

magic_size : (version : Version) → length (policy_magic version) ≡ 8
magic_size One = refl
magic_size Two = refl

-- a policy's text is no longer than a policy file may be
pub policy_size : (p : Policy) → IsPolicy p → length (policy_text p) ≤ 4194304
policy_size p is =
    let version : Version = version_of p.tables in
    let tables : List ℕ = length p.tables ∷ flat_map (table_text version) p.tables in
    omega (
      arith,
      length-append (policy_magic version) (to_be_bytes w32 p.handle ++ (p.index_policy ++ (to_be_bytes w32 p.pin_object ++ tables))),
      length-append p.index_policy (to_be_bytes w32 p.pin_object ++ tables),
      magic_size version,
      is.index_policy,
      is.few,
      tables_size version p.tables is.tables,
    )

pub is_within : (p : Policy) (r : Result (Vec ℕ) Memory) → IsPolicy p → IfOk r (λ text. text.items ≡ policy_text p) → IfOk r (λ text. length text.items ≤ 4194304)
is_within p (Ok text) is spelled = subst (λ (bytes : List ℕ). length bytes ≤ 4194304) (sym spelled) (policy_size p is)
is_within p (Err e) is spelled = tt
