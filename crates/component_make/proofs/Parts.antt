-- What was measured into one PCR, in three parts: before its first separator, that separator, and behind it.
use Rattle.std.proofs.Common.{◌≡◌, ℕ, suc, Bool, true, false, cond, eqb, not, ◌&&◌, ◌||◌, List, [], ◌∷◌, ◌++◌, length, map, Option, Some, None, refl, sym, ap, ap₂, ◌∙◌, inl, inr}
use Rattle.std.specs.Prelude.{filter, find}
use Rattle.std.specs.Option.{option_map, option_to_list}
use Rattle.std.proofs.lemmas.Bool.{cases_Bool, eqb-true, true≢false, and_parts, and_from, and_right, not-true, not-false, or_left, or_parts, or_from, false_from_ne_true}
use Rattle.std.proofs.lemmas.List.{map-append, length-map}
use Rattle.hash_bank.specs.declared.bank.Bank.{Bank}
use Rattle.policy_digest.specs.Mask.{has_pcr}
use Rattle.cel_record.specs.Listed.{listed_in}
use Rattle.cel_record.specs.Spelled.{Spelled}
use Rattle.pcr_replay.specs.Row.{Row}
use Rattle.pcr_replay.specs.Measured.{all_present, measured_in}
use Rattle.component_make.specs.EarlyLate.{is_separating, separates, is_separated, Placed, placed, is_early, is_late, unplaced, early_of, late_of}
use Rattle.component_make.specs.Lock.{is_extended, lacks_separator}
use Rattle.component_make.specs.Split.{digests_of_each, of_pcr, first_separator, IsSplit}
use Rattle.component_make.proofs.Rows.{separated_more}

-- the lists where some rows stand before
abbrev part_from : (Placed → Bool) → List Row → List Row → List Spelled
part_from test before rows = map (λ p. unplaced p.at) (filter test (placed before rows))

-- all records of the PCR
abbrev plain : ℕ → List Row → List Spelled
plain pcr rows = map unplaced (filter (λ r. eqb r.pcr pcr) rows)

-- ---- the first row

head_out : (pcr : ℕ) (b : Bool) (p : Placed) (rest : List Placed) → (b ≡ true → eqb p.at.pcr pcr ≡ false) → of_pcr pcr (map (λ q. unplaced q.at) (cond b (p ∷ rest) rest)) ≡ of_pcr pcr (map (λ q. unplaced q.at) rest)
head_out pcr true p rest out =
    let more = of_pcr pcr (map (λ q. unplaced q.at) rest) in
    ap (λ t. cond t (unplaced p.at ∷ more) more) (out refl)
head_out pcr false p rest out = refl

head_in : (pcr : ℕ) (b : Bool) (p : Placed) (rest : List Placed) → b ≡ true → eqb p.at.pcr pcr ≡ true → of_pcr pcr (map (λ q. unplaced q.at) (cond b (p ∷ rest) rest)) ≡ unplaced p.at ∷ of_pcr pcr (map (λ q. unplaced q.at) rest)
head_in pcr b p rest taken own =
    let more = of_pcr pcr (map (λ q. unplaced q.at) rest) in
    ap (λ t. of_pcr pcr (map (λ q. unplaced q.at) (cond t (p ∷ rest) rest))) taken ∙ ap (λ t. cond t (unplaced p.at ∷ more) more) own

plain_out : (pcr : ℕ) (r : Row) (rows : List Row) → eqb r.pcr pcr ≡ false → plain pcr (r ∷ rows) ≡ plain pcr rows
plain_out pcr r rows other = ap (λ t. map unplaced (cond t (r ∷ filter (λ q. eqb q.pcr pcr) rows) (filter (λ q. eqb q.pcr pcr) rows))) other

plain_in : (pcr : ℕ) (r : Row) (rows : List Row) → eqb r.pcr pcr ≡ true → plain pcr (r ∷ rows) ≡ unplaced r ∷ plain pcr rows
plain_in pcr r rows own = ap (λ t. map unplaced (cond t (r ∷ filter (λ q. eqb q.pcr pcr) rows) (filter (λ q. eqb q.pcr pcr) rows))) own

-- an early row is of another PCR than one that is separated with it
early_other : (mask pcr : ℕ) (before : List Row) (r : Row) → is_separated pcr (before ++ r ∷ []) ≡ true → is_early mask (record { before = before; at = r }) ≡ true → eqb r.pcr pcr ≡ false
early_other mask pcr before r separated early =
    false_from_ne_true (eqb r.pcr pcr) (λ own.
    true≢false (sym separated ∙ ap (λ n. is_separated n (before ++ r ∷ [])) (sym (eqb-true r.pcr pcr own))
    ∙ not-true (is_separated r.pcr (before ++ r ∷ [])) (and_parts (has_pcr mask r.pcr) (not (is_separated r.pcr (before ++ r ∷ []))) early).1))

-- a late row is of another PCR than one that is not separated yet
late_other : (mask pcr : ℕ) (before : List Row) (r : Row) → is_separated pcr before ≡ false → is_late mask (record { before = before; at = r }) ≡ true → eqb r.pcr pcr ≡ false
late_other mask pcr before r not_yet late =
    false_from_ne_true (eqb r.pcr pcr) (λ own.
    true≢false (sym (and_parts (has_pcr mask r.pcr) (is_separated r.pcr before) late).1 ∙ ap (λ n. is_separated n before) (eqb-true r.pcr pcr own) ∙ not_yet))

stays : (pcr : ℕ) (before : List Row) (r : Row) → is_separated pcr before ≡ true → is_separated pcr (before ++ r ∷ []) ≡ true
stays pcr before r h = separated_more pcr before r ∙ or_left (is_separated pcr before) (separates pcr r) h

-- ---- behind the separator

none_early : (mask pcr : ℕ) (before rows : List Row) → is_separated pcr before ≡ true → of_pcr pcr (part_from (is_early mask) before rows) ≡ []
none_early mask pcr before [] h = refl
none_early mask pcr before (r ∷ rows) h =
    let p : Placed = record { before = before; at = r } in
    head_out pcr (is_early mask p) p (filter (is_early mask) (placed (before ++ r ∷ []) rows)) (early_other mask pcr before r (stays pcr before r h))
    ∙ none_early mask pcr (before ++ r ∷ []) rows (stays pcr before r h)

all_late : (mask pcr : ℕ) (before rows : List Row) → has_pcr mask pcr ≡ true → is_separated pcr before ≡ true → of_pcr pcr (part_from (is_late mask) before rows) ≡ plain pcr rows
all_late mask pcr before [] inside h = refl
all_late mask pcr before (r ∷ rows) inside h =
    let p : Placed = record { before = before; at = r } in
    let rest = filter (is_late mask) (placed (before ++ r ∷ []) rows) in
    let later = all_late mask pcr (before ++ r ∷ []) rows inside (stays pcr before r h) in
    elim (cases_Bool (eqb r.pcr pcr)) [
      | inl own ↦
          let same = eqb-true r.pcr pcr own in
          head_in pcr (is_late mask p) p rest (and_from (has_pcr mask r.pcr) (is_separated r.pcr before) (ap (has_pcr mask) same ∙ inside) (ap (λ n. is_separated n before) same ∙ h)) own
          ∙ ap (λ l. unplaced r ∷ l) later ∙ sym (plain_in pcr r rows own)
      | inr other ↦ head_out pcr (is_late mask p) p rest (λ _. other) ∙ later ∙ sym (plain_out pcr r rows other)
    ]

-- ---- up to the separator

first_at : (pcr : ℕ) (r : Row) (rows : List Row) → separates pcr r ≡ true → first_separator pcr (r ∷ rows) ≡ unplaced r ∷ []
first_at pcr r rows e = ap (λ t. map unplaced (option_to_list (cond t (Some r) (find (separates pcr) rows)))) e

first_past : (pcr : ℕ) (r : Row) (rows : List Row) → separates pcr r ≡ false → first_separator pcr (r ∷ rows) ≡ first_separator pcr rows
first_past pcr r rows e = ap (λ t. map unplaced (option_to_list (cond t (Some r) (find (separates pcr) rows)))) e

three : (mask pcr : ℕ) (before rows : List Row) → has_pcr mask pcr ≡ true → is_separated pcr before ≡ false
    → plain pcr rows ≡ of_pcr pcr (part_from (is_early mask) before rows) ++ (first_separator pcr rows ++ of_pcr pcr (part_from (is_late mask) before rows))
three mask pcr before [] inside not_yet = refl
three mask pcr before (r ∷ rows) inside not_yet =
    let p : Placed = record { before = before; at = r } in
    let next = before ++ r ∷ [] in
    let early_rest = filter (is_early mask) (placed next rows) in
    let late_rest = filter (is_late mask) (placed next rows) in
    let no_late = head_out pcr (is_late mask p) p late_rest (late_other mask pcr before r not_yet) in
    let same_sep : is_separated pcr next ≡ separates pcr r = separated_more pcr before r ∙ ap (λ b. b || separates pcr r) not_yet in
    elim (cases_Bool (eqb r.pcr pcr)) [
      | inr other ↦
          let none : separates pcr r ≡ false = ap (λ b. b && is_separating r.origin) other in
          plain_out pcr r rows other ∙ three mask pcr next rows inside (same_sep ∙ none)
          ∙ sym (ap₂ (λ a b. a ++ b) (head_out pcr (is_early mask p) p early_rest (λ _. other)) (ap₂ (λ a b. a ++ b) (first_past pcr r rows none) no_late))
      | inl own ↦
          elim (cases_Bool (is_separating r.origin)) [
            | inl sep ↦
                let here : separates pcr r ≡ true = and_from (eqb r.pcr pcr) (is_separating r.origin) own sep in
                let separated : is_separated pcr next ≡ true = same_sep ∙ here in
                plain_in pcr r rows own
                ∙ sym (ap₂ (λ a b. a ++ b)
                (head_out pcr (is_early mask p) p early_rest (early_other mask pcr before r separated) ∙ none_early mask pcr next rows separated)
                (ap₂ (λ a b. a ++ b) (first_at pcr r rows here) (no_late ∙ all_late mask pcr next rows inside separated)))
            | inr plain_kind ↦
                let none : separates pcr r ≡ false = and_right (eqb r.pcr pcr) (is_separating r.origin) plain_kind in
                let same = eqb-true r.pcr pcr own in
                let open_yet : not (is_separated r.pcr next) ≡ true = ap (λ n. not (is_separated n next)) same ∙ ap not (same_sep ∙ none) in
                plain_in pcr r rows own ∙ ap (λ l. unplaced r ∷ l) (three mask pcr next rows inside (same_sep ∙ none))
                ∙ sym (ap₂ (λ a b. a ++ b)
                (head_in pcr (is_early mask p) p early_rest (and_from (has_pcr mask r.pcr) (not (is_separated r.pcr next)) (ap (has_pcr mask) same ∙ inside) open_yet) own)
                (ap₂ (λ a b. a ++ b) (first_past pcr r rows none) no_late))
          ]
    ]

-- ---- digests of parts

record Two (xs ys : List (Option (List ℕ))) (all : List (List ℕ)) : Type 0 where
  first : List (List ℕ)
  second : List (List ℕ)
  are_first : all_present xs ≡ Some first
  are_second : all_present ys ≡ Some second
  joined : all ≡ first ++ second

both : (xs ys : List (Option (List ℕ))) (x : List ℕ) (o : Option (List (List ℕ))) (all : List (List ℕ)) → ((more : List (List ℕ)) → o ≡ Some more → Two xs ys more) → option_map (λ more. x ∷ more) o ≡ Some all → Two (Some x ∷ xs) ys all
both xs ys x None all rest e = absurd cc
both xs ys x (Some more) all rest e =
    let t = rest more refl in
    let whole : x ∷ more ≡ all = cc in
    record {
      first = x ∷ t.first;
      second = t.second;
      are_first = ap (option_map (λ more. x ∷ more)) t.are_first;
      are_second = t.are_second;
      joined = sym whole ∙ ap (λ l. x ∷ l) t.joined;
    }

two : (xs ys : List (Option (List ℕ))) (all : List (List ℕ)) → all_present (xs ++ ys) ≡ Some all → Two xs ys all
two [] ys all h = record { first = []; second = all; are_first = refl; are_second = h; joined = refl }
two (None ∷ xs) ys all h = absurd cc
two (Some x ∷ xs) ys all h = both xs ys x (all_present (xs ++ ys)) all (λ more is. two xs ys more is) h

record Three (xs ys zs : List (Option (List ℕ))) (all : List (List ℕ)) : Type 0 where
  first : List (List ℕ)
  second : List (List ℕ)
  third : List (List ℕ)
  are_first : all_present xs ≡ Some first
  are_second : all_present ys ≡ Some second
  are_third : all_present zs ≡ Some third
  joined : all ≡ first ++ (second ++ third)

with_rest : (xs ys zs : List (Option (List ℕ))) (all : List (List ℕ)) (t : Two xs (ys ++ zs) all) → Two ys zs t.second → Three xs ys zs all
with_rest xs ys zs all t u = record {
  first = t.first;
  second = u.first;
  third = u.second;
  are_first = t.are_first;
  are_second = u.are_first;
  are_third = u.are_second;
  joined = t.joined ∙ ap (λ x. t.first ++ x) u.joined;
}

in_three : (xs ys zs : List (Option (List ℕ))) (all : List (List ℕ)) → Two xs (ys ++ zs) all → Three xs ys zs all
in_three xs ys zs all t = with_rest xs ys zs all t (two ys zs t.second t.are_second)

one_more : (n : ℕ) (x : List ℕ) (o : Option (List (List ℕ))) (all : List (List ℕ)) → ((more : List (List ℕ)) → o ≡ Some more → length more ≡ n) → option_map (λ more. x ∷ more) o ≡ Some all → length all ≡ suc n
one_more n x None all rest e = absurd cc
one_more n x (Some more) all rest e =
    let whole : x ∷ more ≡ all = cc in
    ap length (sym whole) ∙ ap suc (rest more refl)

same_length : (xs : List (Option (List ℕ))) (all : List (List ℕ)) → all_present xs ≡ Some all → length all ≡ length xs
same_length [] all h = let none : [] ≡ all = cc in ap length (sym none)
same_length (None ∷ xs) all h = absurd cc
same_length (Some x ∷ xs) all h = one_more (length xs) x (all_present xs) all (λ more is. same_length xs more is) h

map_through : (bank : Bank) (rows : List Row) → map (λ r. listed_in bank r.digests) (map unplaced rows) ≡ map (λ r. listed_in bank r.digests) rows
map_through bank [] = refl
map_through bank (r ∷ rows) = ap (λ l. listed_in bank r.digests ∷ l) (map_through bank rows)

measured_plain : (bank : Bank) (pcr : ℕ) (rows : List Row) → measured_in bank pcr rows ≡ digests_of_each bank (plain pcr rows)
measured_plain bank pcr rows = ap all_present (sym (map_through bank (filter (λ r. eqb r.pcr pcr) rows)))

-- ---- whether there is a separator

first_length : (pcr : ℕ) (rows : List Row) → length (first_separator pcr rows) ≡ cond (is_separated pcr rows) 1 0
first_length pcr [] = refl
first_length pcr (r ∷ rows) =
    elim (cases_Bool (separates pcr r)) [
      | inl here ↦ ap length (first_at pcr r rows here) ∙ sym (ap (λ b. cond (b || is_separated pcr rows) 1 0) here)
      | inr none ↦ ap length (first_past pcr r rows none) ∙ first_length pcr rows ∙ sym (ap (λ b. cond (b || is_separated pcr rows) 1 0) none)
    ]

-- where nothing was extended, nothing separates
never : (pcr : ℕ) (rows : List Row) → is_extended pcr rows ≡ false → is_separated pcr rows ≡ false
never pcr [] h = refl
never pcr (r ∷ rows) h =
    let parts = or_parts (eqb r.pcr pcr) (is_extended pcr rows) h in
    or_from (separates pcr r) (is_separated pcr rows) (ap (λ b. b && is_separating r.origin) parts.0) (never pcr rows parts.1)

separated_where : (mask pcr : ℕ) (rows : List Row) → has_pcr mask pcr ≡ true → lacks_separator mask rows pcr ≡ false → is_separated pcr rows ≡ is_extended pcr rows
separated_where mask pcr rows inside lacks =
    elim (cases_Bool (is_extended pcr rows)) [
      | inl extended ↦
          not-false (is_separated pcr rows)
          (sym (ap₂ (λ a b. a && (b && not (is_separated pcr rows))) inside extended) ∙ lacks)
          ∙ sym extended
      | inr none ↦ never pcr rows none ∙ sym none
    ]

-- ---- the law

-- the digests of a list of three parts
cut : (bank : Bank) (all e s l : List Spelled) (digests : List (List ℕ)) → all ≡ e ++ (s ++ l) → digests_of_each bank all ≡ Some digests
    → all_present (map (λ r. listed_in bank r.digests) e ++ (map (λ r. listed_in bank r.digests) s ++ map (λ r. listed_in bank r.digests) l)) ≡ Some digests
cut bank all e s l digests parts present =
    let f : Spelled → Option (List ℕ) = λ r. listed_in bank r.digests in
    let mapped : map f (e ++ (s ++ l)) ≡ map f e ++ (map f s ++ map f l) = map-append f e (s ++ l) ∙ ap (λ x. map f e ++ x) (map-append f s l) in
    ap all_present (sym mapped) ∙ ap (λ rs. all_present (map f rs)) (sym parts) ∙ present

three_lists : (bank : Bank) (all e s l : List Spelled) (digests : List (List ℕ)) → all ≡ e ++ (s ++ l) → digests_of_each bank all ≡ Some digests
    → Three (map (λ r. listed_in bank r.digests) e) (map (λ r. listed_in bank r.digests) s) (map (λ r. listed_in bank r.digests) l) digests
three_lists bank all e s l digests parts present =
    let f : Spelled → Option (List ℕ) = λ r. listed_in bank r.digests in
    in_three (map f e) (map f s) (map f l) digests (two (map f e) (map f s ++ map f l) digests (cut bank all e s l digests parts present))

from_three : (bank : Bank) (pcr : ℕ) (rows : List Row) (early late : List Spelled) (digests : List (List ℕ)) → is_separated pcr rows ≡ is_extended pcr rows
    → Three (map (λ r. listed_in bank r.digests) (of_pcr pcr early)) (map (λ r. listed_in bank r.digests) (first_separator pcr rows)) (map (λ r. listed_in bank r.digests) (of_pcr pcr late)) digests
    → IsSplit bank pcr rows early late digests
from_three bank pcr rows early late digests separated t = record {
  before = t.first;
  between = t.second;
  behind = t.third;
  in_early = t.are_first;
  in_separator = t.are_second;
  in_late = t.are_third;
  one =
      same_length (map (λ r. listed_in bank r.digests) (first_separator pcr rows)) t.second t.are_second ∙ length-map (first_separator pcr rows) (λ r. listed_in bank r.digests)
      ∙ first_length pcr rows ∙ ap (λ b. cond b 1 0) separated;
  joined = t.joined;
}

pub split_by : (bank : Bank) (mask pcr : ℕ) (rows : List Row) (digests : List (List ℕ)) → has_pcr mask pcr ≡ true → lacks_separator mask rows pcr ≡ false → measured_in bank pcr rows ≡ Some digests
    → IsSplit bank pcr rows (early_of mask rows) (late_of mask rows) digests
split_by bank mask pcr rows digests inside lacks measured =
    from_three bank pcr rows (early_of mask rows) (late_of mask rows) digests (separated_where mask pcr rows inside lacks)
    (three_lists bank (plain pcr rows) (of_pcr pcr (early_of mask rows)) (first_separator pcr rows) (of_pcr pcr (late_of mask rows)) digests
    (three mask pcr [] rows inside refl) (sym (measured_plain bank pcr rows) ∙ measured))
