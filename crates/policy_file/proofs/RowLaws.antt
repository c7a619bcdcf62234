-- Rows that are read are spelled so, and what is spelled so is read.
use Rattle.std.proofs.Common.{◌≡◌, ℕ, ◌^◌, ◌<◌, ◌≤◌, Bool, true, false, ◌==◌, ◌&&◌, leb, ltb, eqb, List, [], ◌∷◌, ◌++◌, length, refl, sym, ap, subst, ◌∙◌, append_assoc, arith}
use Rattle.std.specs.Prelude.{Ok, Err}
use Rattle.std.specs.Int.{w16, to_be_bytes}
use Rattle.std.specs.List.{flat_map, list_all}
use Rattle.std.proofs.lemmas.Bool.{and_parts, leb-true, le-leb, ltb-true, lt-ltb, eqb-true}
use Rattle.std.proofs.lemmas.Bool.Decides.{Decides-eqb}
use Rattle.std.proofs.lemmas.Nat.{pow_below, pow_pos}
use Rattle.hash_bank.specs.declared.bank.Bank.{Bank}
use Rattle.hash_bank.specs.Hash.{size_in}
use Rattle.pl_layout.specs.Reading.{◌>>=◌, bytes_at, tested, repeat_at}
use Rattle.pl_layout.proofs.Steps.{bind_ok, bind_eq, ok_is, tested_ok, take_test}
use Rattle.pl_layout.proofs.Fields.{IsBytes, Takes, Takes-then, Taken, Grammar, itself, bytes_grammar, wide16, wide32, number_grammar, byte_takes}
use Rattle.pl_layout.proofs.Repeats.{FitBehind, repeat_take, repeat_again}
use Rattle.policy_digest.specs.declared.table.Row.{Row}
use Rattle.policy_digest.specs.Mask.{pcrs_of}
use Rattle.policy_digest.specs.Strings.{values_string}
use Rattle.policy_digest.specs.Table.{differ, each_pair, fits as fits_row, precedes, valid_row}
use Rattle.policy_file.specs.declared.error.FileKind.TheVariants.{Cut, Value}
use Rattle.policy_file.specs.declared.version.Version.{Version}
use Rattle.policy_file.specs.declared.version.Version.TheVariants.{One, Two}
use Rattle.policy_file.specs.PolicyText.{mask_text, row_text}
use Rattle.policy_file.specs.PolicyReading.{fault, follows, list_at, lists_number_at, mask_at, pcrs_at, row_at, values_at}
use Rattle.policy_digest.proofs.MaskLists.{alone, one_of}
use Rattle.policy_file.proofs.Pairs.{Behind, all_paired, paired_all}

pub both : (a b : Bool) → a ≡ true → b ≡ true → (a && b) ≡ true
both a b x y = rw (x, y) refl

-- a value that passed its test
pub again : {A E : Type 0} (b : Bool) (d : E) (x : A) → b ≡ true → tested b d x ≡ Ok x
again b d x h = take_test b _ h refl

-- ---- the PCRs

-- what the layout of a version can hold
abbrev pub MaskFits : Version → ℕ → Type 0
MaskFits One mask = length (pcrs_of mask) ≡ 1
MaskFits Two mask = Unit {0}

pub record IsMask (version : Version) (mask : ℕ) : Type 0 where
  pub some : 0 < mask
  pub below : mask < 2 ^ 24
  pub layout : MaskFits version mask

power_some : (pcr : ℕ) → 0 < 2 ^ pcr
power_some pcr = pow_pos pcr

mask_takes : (all : ℕ) (version : Version) (bytes : List ℕ) (x : ℕ × List ℕ) → IsBytes bytes → mask_at all version bytes ≡ Ok x → Taken (mask_text version) (IsMask version) bytes x
unfolding mask_at
mask_takes all One bytes x fits e =
    let a = bind_ok e in
    let t = tested_ok (leb a.value.0 23) _ (2 ^ a.value.0, a.value.1) x a.second in
    let few : a.value.0 ≤ 23 = leb-true _ _ t.0 in
    let taken = byte_takes (fault Cut all) bytes a.value fits a.first in
    let small : 2 ^ a.value.0 < 2 ^ 24 = pow_below a.value.0 24 (omega (arith, few)) in
    let listed = alone a.value.0 few in
    subst (λ (y : ℕ × List ℕ). Taken (mask_text One) (IsMask One) bytes y) t.1 (record {
      takes = subst (λ (text : List ℕ). Takes bytes text a.value.1) (sym listed) taken;
      fits = record { some = power_some a.value.0; below = small; layout = ap length listed };
    })
mask_takes all Two bytes x fits e =
    let a = bind_ok e in
    let t = tested_ok (ltb 0 a.value.0 && ltb a.value.0 (2 ^ 24)) _ a.value x a.second in
    let p = and_parts (ltb 0 a.value.0) (ltb a.value.0 (2 ^ 24)) t.0 in
    let taken = (number_grammar wide32 (fault Cut all)).takes bytes a.value fits a.first in
    subst (λ (y : ℕ × List ℕ). Taken (mask_text Two) (IsMask Two) bytes y) t.1 (record {
      takes = taken.takes;
      fits = record { some = ltb-true _ _ p.0; below = ltb-true _ _ p.1; layout = tt };
    })

mask_again : (all : ℕ) (version : Version) (mask : ℕ) (rest : List ℕ) → IsMask version mask → mask_at all version (mask_text version mask ++ rest) ≡ Ok (mask, rest)
unfolding mask_at
mask_again all One mask rest is =
    let o = one_of mask is.below is.layout in
    let there : mask_at all One (o.0 ∷ rest) ≡ Ok (2 ^ o.0, rest) = again (leb o.0 23) _ (2 ^ o.0, rest) (le-leb _ _ o.1) in
    ap (λ (text : List ℕ). mask_at all One (text ++ rest)) o.2 ∙ there ∙ ap (λ (m : ℕ). Ok (m, rest)) (sym o.3)
mask_again all Two mask rest is =
    bind_eq _ (mask, rest) ((number_grammar wide32 (fault Cut all)).again mask rest (omega (arith, is.below)))
    (again (ltb 0 mask && ltb mask (2 ^ 24)) _ (mask, rest) (both _ _ (lt-ltb _ _ is.some) (lt-ltb _ _ is.below)))

pub mask_grammar : (all : ℕ) (version : Version) → Grammar (mask_at all version) (mask_text version) (IsMask version)
mask_grammar all version = record {
  takes = λ bytes x fits e. mask_takes all version bytes x fits e;
  again = λ mask rest is. mask_again all version mask rest is;
}

-- ---- the lists of values

-- a list that fits behind others of its row
abbrev pub ListFits : Bank → ℕ → List (List (List ℕ)) → List (List ℕ) → Type 0
ListFits bank count = Behind (fits_row bank count) differ

sizes_test : (size : ℕ) (before values : List (List ℕ)) → FitBehind (λ before value. length value ≡ size) before values → list_all (λ d. length d == size) values ≡ true
sizes_test size before [] h = refl
sizes_test size before (v ∷ values) h = both _ _ (le_eq (length v) size h.0) (sizes_test size (before ++ v ∷ []) values h.1)
  where
    le_eq : (a b : ℕ) → a ≡ b → eqb a b ≡ true
    le_eq a b e = (Decides-eqb a b).1 e

test_sizes : (size : ℕ) (before values : List (List ℕ)) → list_all (λ d. length d == size) values ≡ true → FitBehind (λ before value. length value ≡ size) before values
test_sizes size before [] h = tt
test_sizes size before (v ∷ values) h =
    let p = and_parts (eqb (length v) size) (list_all (λ d. length d == size) values) h in
    (eqb-true (length v) size p.0, test_sizes size (before ++ v ∷ []) values p.1)

-- values are spelled one after the other
pub joined : (values : List (List ℕ)) → flat_map itself values ≡ values_string values
joined [] = refl
joined (v ∷ values) = ap (λ (text : List ℕ). v ++ text) (joined values)

each_value : (all : ℕ) (bank : Bank) → (before : List (List ℕ)) → Grammar (bytes_at (fault Cut all) (size_in bank)) itself (λ value. length value ≡ size_in bank)
each_value all bank before = bytes_grammar (fault Cut all) (size_in bank)

list_takes : (all : ℕ) (bank : Bank) (count : ℕ) (before : List (List (List ℕ))) (bytes : List ℕ) (x : List (List ℕ) × List ℕ) → IsBytes bytes → list_at all bank count before bytes ≡ Ok x → Taken values_string (ListFits bank count before) bytes x
unfolding list_at values_at
list_takes all bank count before bytes x fits e =
    let a = bind_ok e in
    let t = tested_ok (list_all (λ b. differ b a.value.0) before) _ a.value x a.second in
    let r = repeat_take (each_value all bank) count [] bytes a.value fits a.first in
    let text : flat_map itself r.more ≡ values_string a.value.0 = joined r.more ∙ ap values_string (sym r.whole) in
    let sizes : list_all (λ d. length d == size_in bank) a.value.0 ≡ true = subst (λ (values : List (List ℕ)). list_all (λ d. length d == size_in bank) values ≡ true) (sym r.whole) (sizes_test (size_in bank) [] r.more r.fits) in
    let long : eqb (length a.value.0) count ≡ true = (Decides-eqb _ _).1 (ap length r.whole ∙ r.count) in
    subst (λ (y : List (List ℕ) × List ℕ). Taken values_string (ListFits bank count before) bytes y) t.1 (record {
      takes = subst (λ (text : List ℕ). Takes bytes text a.value.1) text r.takes;
      fits = (both _ _ long sizes, t.0);
    })

list_again : (all : ℕ) (bank : Bank) (count : ℕ) (before : List (List (List ℕ))) (values : List (List ℕ)) (rest : List ℕ) → ListFits bank count before values → list_at all bank count before (values_string values ++ rest) ≡ Ok (values, rest)
unfolding list_at values_at
list_again all bank count before values rest is =
    let p = and_parts (eqb (length values) count) (list_all (λ d. length d == size_in bank) values) is.0 in
    let read : repeat_at (λ before. bytes_at (fault Cut all) (size_in bank)) (length values) [] (flat_map itself values ++ rest) ≡ Ok (values, rest) =
    repeat_again (each_value all bank) [] values rest (test_sizes (size_in bank) [] values p.1) in
    let there : repeat_at (λ before. bytes_at (fault Cut all) (size_in bank)) count [] (values_string values ++ rest) ≡ Ok (values, rest) =
    ap (λ (n : ℕ). repeat_at (λ before. bytes_at (fault Cut all) (size_in bank)) n [] (values_string values ++ rest)) (sym (eqb-true _ _ p.0))
    ∙ ap (λ (text : List ℕ). repeat_at (λ before. bytes_at (fault Cut all) (size_in bank)) (length values) [] (text ++ rest)) (sym (joined values)) ∙ read in
    bind_eq _ (values, rest) there (again (list_all (λ b. differ b values) before) _ (values, rest) is.1)

pub list_grammar : (all : ℕ) (bank : Bank) (count : ℕ) (before : List (List (List ℕ))) → Grammar (list_at all bank count before) values_string (ListFits bank count before)
list_grammar all bank count before = record {
  takes = λ bytes x fits e. list_takes all bank count before bytes x fits e;
  again = λ values rest is. list_again all bank count before values rest is;
}

-- ---- a row

-- the number of lists
number_takes : (all : ℕ) (bytes : List ℕ) (x : ℕ × List ℕ) → IsBytes bytes → lists_number_at all bytes ≡ Ok x → Taken (to_be_bytes w16) (λ n. (1 ≤ n) × (n ≤ 512)) bytes x
unfolding lists_number_at
number_takes all bytes x fits e =
    let a = bind_ok e in
    let t = tested_ok (leb 1 a.value.0 && leb a.value.0 512) _ a.value x a.second in
    let p = and_parts (leb 1 a.value.0) (leb a.value.0 512) t.0 in
    let taken = (number_grammar wide16 (fault Cut all)).takes bytes a.value fits a.first in
    subst (λ (y : ℕ × List ℕ). Taken (to_be_bytes w16) (λ n. (1 ≤ n) × (n ≤ 512)) bytes y) t.1 (record { takes = taken.takes; fits = (leb-true _ _ p.0, leb-true _ _ p.1) })

number_again : (all n : ℕ) (rest : List ℕ) → 1 ≤ n → n ≤ 512 → lists_number_at all (to_be_bytes w16 n ++ rest) ≡ Ok (n, rest)
unfolding lists_number_at
number_again all n rest some few =
    bind_eq _ (n, rest) ((number_grammar wide16 (fault Cut all)).again n rest (omega (arith, few)))
    (again (leb 1 n && leb n 512) _ (n, rest) (both _ _ (le-leb _ _ some) (le-leb _ _ few)))

-- a row that fits behind others of its table
pub record RowFits (version : Version) (bank : Bank) (before : List Row) (row : Row) : Type 0 where
  pub stands : Behind (valid_row bank) precedes before row
  pub layout : MaskFits version row.pcrs

regroup : (a b c rest : List ℕ) → (a ++ (b ++ c)) ++ rest ≡ a ++ (b ++ (c ++ rest))
regroup a b c rest = simp append_assoc

row_takes : (all : ℕ) (version : Version) (bank : Bank) (before : List Row) (bytes : List ℕ) (x : Row × List ℕ) → IsBytes bytes → row_at all version bank before bytes ≡ Ok x → Taken (row_text version) (RowFits version bank before) bytes x
unfolding row_at pcrs_at
row_takes all version bank before bytes x fits e =
    let a = bind_ok e in
    let b = bind_ok a.second in
    let c = bind_ok b.second in
    let m = bind_ok a.first in
    let f = tested_ok (follows before m.value.0) _ m.value a.value m.second in
    let mask = (mask_grammar all version).takes bytes m.value fits m.first in
    let same_mask : m.value ≡ a.value = f.1 in
    let mask_taken : Taken (mask_text version) (IsMask version) bytes a.value = subst (λ (y : ℕ × List ℕ). Taken (mask_text version) (IsMask version) bytes y) same_mask mask in
    let stands : follows before a.value.0 ≡ true = subst (λ (y : ℕ × List ℕ). follows before y.0 ≡ true) same_mask f.0 in
    let number = number_takes all a.value.1 b.value mask_taken.takes.rest_fits b.first in
    let lists = repeat_take (list_grammar all bank (length (pcrs_of a.value.0))) b.value.0 [] b.value.1 c.value number.takes.rest_fits c.first in
    let made : Row × List ℕ = (record { pcrs = a.value.0; choices = c.value.0 }, c.value.1) in
    let whole : c.value.0 ≡ lists.more = lists.whole in
    let paired = all_paired (fits_row bank (length (pcrs_of a.value.0))) differ lists.more lists.fits in
    let fitting : list_all (fits_row bank (length (pcrs_of a.value.0))) c.value.0 ≡ true = ap (list_all (fits_row bank (length (pcrs_of a.value.0)))) whole ∙ paired.0 in
    let distinct : each_pair differ c.value.0 ≡ true = ap (each_pair differ) whole ∙ paired.1 in
    let long : length c.value.0 ≡ b.value.0 = ap length whole ∙ lists.count in
    let some : 1 ≤ length c.value.0 = omega (arith, long, number.fits.0) in
    let few : length c.value.0 ≤ 512 = omega (arith, long, number.fits.1) in
    let valid : valid_row bank made.0 ≡ true =
    both _ _ (both _ _ (both _ _ (both _ _ (both _ _ (lt-ltb _ _ mask_taken.fits.some) (lt-ltb _ _ mask_taken.fits.below)) (le-leb _ _ some)) (le-leb _ _ few)) fitting) distinct in
    let number_text : Takes a.value.1 (to_be_bytes w16 (length c.value.0)) b.value.1 = subst (λ (n : ℕ). Takes a.value.1 (to_be_bytes w16 n) b.value.1) (sym long) number.takes in
    let lists_text : Takes b.value.1 (flat_map values_string c.value.0) c.value.1 = subst (λ (l : List (List (List ℕ))). Takes b.value.1 (flat_map values_string l) c.value.1) (sym whole) lists.takes in
    subst (λ (y : Row × List ℕ). Taken (row_text version) (RowFits version bank before) bytes y) (ok_is made x c.second) (record {
      takes = Takes-then mask_taken.takes (Takes-then number_text lists_text);
      fits = record { stands = (valid, stands); layout = mask_taken.fits.layout };
    })

-- what a valid row is
pub record RowParts (bank : Bank) (row : Row) : Type 0 where
  pub some : 0 < row.pcrs
  pub below : row.pcrs < 2 ^ 24
  pub lists : 1 ≤ length row.choices
  pub few : length row.choices ≤ 512
  pub fitting : list_all (fits_row bank (length (pcrs_of row.pcrs))) row.choices ≡ true
  pub distinct : each_pair differ row.choices ≡ true

pub row_parts : (bank : Bank) (row : Row) → valid_row bank row ≡ true → RowParts bank row
row_parts bank row h =
    let a = and_parts _ (each_pair differ row.choices) h in
    let b = and_parts _ (list_all (fits_row bank (length (pcrs_of row.pcrs))) row.choices) a.0 in
    let c = and_parts _ (leb (length row.choices) 512) b.0 in
    let d = and_parts _ (leb 1 (length row.choices)) c.0 in
    let f = and_parts (ltb 0 row.pcrs) (ltb row.pcrs (2 ^ 24)) d.0 in
    record { some = ltb-true _ _ f.0; below = ltb-true _ _ f.1; lists = leb-true _ _ d.1; few = leb-true _ _ c.1; fitting = b.1; distinct = a.1 }

row_again : (all : ℕ) (version : Version) (bank : Bank) (before : List Row) (row : Row) (rest : List ℕ) → RowFits version bank before row → row_at all version bank before (row_text version row ++ rest) ≡ Ok (row, rest)
unfolding row_at pcrs_at
row_again all version bank before row rest is =
    let p = row_parts bank row is.stands.0 in
    let lists = flat_map values_string row.choices ++ rest in
    let number = to_be_bytes w16 (length row.choices) ++ lists in
    let mask : IsMask version row.pcrs = record { some = p.some; below = p.below; layout = is.layout } in
    let read : repeat_at (list_at all bank (length (pcrs_of row.pcrs))) (length row.choices) [] lists ≡ Ok (row.choices, rest) =
    repeat_again (list_grammar all bank (length (pcrs_of row.pcrs))) [] row.choices rest (paired_all (fits_row bank (length (pcrs_of row.pcrs))) differ row.choices p.fitting p.distinct) in
    let stood : (mask_at all version (mask_text version row.pcrs ++ number) >>= λ (m : ℕ × List ℕ). tested (follows before m.0) (fault Value all (mask_text version row.pcrs ++ number)) m) ≡ Ok (row.pcrs, number) =
    bind_eq _ (row.pcrs, number) (mask_again all version row.pcrs number mask) (again (follows before row.pcrs) _ (row.pcrs, number) is.stands.1) in
    ap (row_at all version bank before) (regroup (mask_text version row.pcrs) (to_be_bytes w16 (length row.choices)) (flat_map values_string row.choices) rest)
    ∙ bind_eq _ (row.pcrs, number) stood
    (bind_eq _ (length row.choices, lists) (number_again all (length row.choices) lists p.lists p.few)
    (bind_eq _ (row.choices, rest) read refl))

pub row_grammar : (all : ℕ) (version : Version) (bank : Bank) (before : List Row) → Grammar (row_at all version bank before) (row_text version) (RowFits version bank before)
row_grammar all version bank before = record {
  takes = λ bytes x fits e. row_takes all version bank before bytes x fits e;
  again = λ row rest is. row_again all version bank before row rest is;
}

-- ---- a list that an earlier one is

pub list_refused : (all : ℕ) (bank : Bank) (count : ℕ) (before : List (List (List ℕ))) (bytes : List ℕ) (values : List (List ℕ)) (rest : List ℕ)
    → values_at all bank count bytes ≡ Ok (values, rest) → list_all (λ b. differ b values) before ≡ false → list_at all bank count before bytes ≡ Err (fault Value all bytes)
unfolding list_at
list_refused all bank count before bytes values rest read old =
    bind_eq _ (values, rest) read (ap (λ (b : Bool). tested b (fault Value all bytes) (values, rest)) old)
