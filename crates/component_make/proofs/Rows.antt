-- The rows of a log, one after the other: where each belongs.
use Rattle.std.proofs.Common.{◌≡◌, ◌≤◌, ◌<◌, ◌+◌, ℕ, suc, zero, Bool, true, false, cond, eqb, not, ◌&&◌, ◌||◌, List, [], ◌∷◌, ◌++◌, length, map, take, get_or, Option, Some, None, refl, sym, ap, ◌∙◌, append_assoc, append-nil, eq-eqb, arith}
use Rattle.std.specs.Prelude.{filter}
use Rattle.std.specs.Option.{option_to_list}
use Rattle.std.specs.List.{cons_option}
use Rattle.std.proofs.lemmas.Bool.{ne_eqb}
use Rattle.std.proofs.lemmas.List.{take_all, take_at, take_more, map-append, length_push, length-map, length-take}
use Rattle.std.proofs.lemmas.List.Elements.{filter-append, filter_map-append}
use Rattle.std.proofs.lemmas.List.Folds.{list_any-append}
use Rattle.tcg_log.specs.declared.record.FirmwareRecord.{FirmwareRecord}
use Rattle.policy_digest.specs.Mask.{has_pcr}
use Rattle.cel_record.specs.Spelled.{Spelled, spelled}
use Rattle.pcr_replay.specs.Row.{Row}
use Rattle.cel_record.specs.declared.record.CelRecord.{CelRecord}
use Rattle.pcr_replay.specs.Combined.{extended_row, firmware_row, firmware_rows}
use Rattle.component_make.specs.EarlyLate.{is_separating, separates, is_separated, Placed, placed, is_early, is_late, unplaced}
use Rattle.component_make.specs.Parting.{front, side_by, IsParted}
use Rattle.component_make.specs.declared.locked.Locked.{Locked}
use Rattle.component_make.specs.declared.parting.Side.{Side}
use Rattle.component_make.specs.declared.parting.Side.TheVariants.{Early, Late, Neither}

single : (o : Option Row) → cons_option o [] ≡ option_to_list o
single None = refl
single (Some x) = refl

-- one more record of the log
pub rows_next : (records : List FirmwareRecord) (i : ℕ) (r : FirmwareRecord) → i < length records → r ≡ get_or records i r
    → firmware_rows (take (i + 1) records) ≡ firmware_rows (take i records) ++ option_to_list (extended_row r)
rows_next records i r lt is =
    ap firmware_rows (take_more records i r lt ∙ ap (λ x. take i records ++ x ∷ []) (sym is))
    ∙ filter_map-append extended_row (take i records) (r ∷ [])
    ∙ ap (λ l. firmware_rows (take i records) ++ l) (single (extended_row r))

-- ---- one row more in the lists

placed_more : (before rows : List Row) (r : Row) → placed before (rows ++ r ∷ []) ≡ placed before rows ++ record { before = before ++ rows; at = r } ∷ []
placed_more before [] r = ap (λ b. record { before = b; at = r } ∷ []) (sym (append-nil before))
placed_more before (x ∷ rows) r =
    ap (λ l. record { before = before; at = x } ∷ l)
    (placed_more (before ++ x ∷ []) rows r ∙ ap (λ b. placed (before ++ x ∷ []) rows ++ record { before = b; at = r } ∷ []) (append_assoc before (x ∷ []) rows))

pushed : (b : Bool) (p : Placed) → map (λ q. unplaced q.at) (cond b (p ∷ []) []) ≡ cond b (unplaced p.at ∷ []) []
pushed true p = refl
pushed false p = refl

chosen : (test : Placed → Bool) (rows : List Row) (r : Row)
    → map (λ p. unplaced p.at) (filter test (placed [] (rows ++ r ∷ []))) ≡ map (λ p. unplaced p.at) (filter test (placed [] rows)) ++ cond (test (record { before = rows; at = r })) (unplaced r ∷ []) []
chosen test rows r =
    let last : Placed = record { before = rows; at = r } in
    ap (λ l. map (λ p. unplaced p.at) (filter test l)) (placed_more [] rows r)
    ∙ ap (map (λ p. unplaced p.at)) (filter-append test (placed [] rows) (last ∷ []))
    ∙ map-append (λ p. unplaced p.at) (filter test (placed [] rows)) (filter test (last ∷ []))
    ∙ ap (λ l. map (λ p. unplaced p.at) (filter test (placed [] rows)) ++ l) (pushed (test last) last)

pub or-false : (b : Bool) → (b || false) ≡ b
or-false true = refl
or-false false = refl

-- the row itself may be a separator of its PCR
own_pcr : (r : Row) → separates r.pcr r ≡ is_separating r.origin
own_pcr r = ap (λ b. b && is_separating r.origin) (eqb-refl r.pcr)
  where
    eqb-refl : (n : ℕ) → eqb n n ≡ true
    eqb-refl n = eq-eqb n n refl

pub separated_more : (pcr : ℕ) (rows : List Row) (r : Row) → is_separated pcr (rows ++ r ∷ []) ≡ (is_separated pcr rows || separates pcr r)
separated_more pcr rows r = list_any-append (separates pcr) rows (r ∷ []) ∙ ap (λ b. is_separated pcr rows || b) (or-false (separates pcr r))

early_test : (mask : ℕ) (rows : List Row) (r : Row) → is_early mask (record { before = rows; at = r }) ≡ (has_pcr mask r.pcr && not (is_separated r.pcr rows || is_separating r.origin))
early_test mask rows r = ap (λ b. has_pcr mask r.pcr && not b) (separated_more r.pcr rows r ∙ ap (λ b. is_separated r.pcr rows || b) (own_pcr r))

-- a front of a list's front
take_front : (n : ℕ) (xs ys : List Spelled) → take n (take n xs ++ ys) ≡ take n (xs ++ ys)
take_front zero xs ys = refl
take_front (suc n) [] ys = refl
take_front (suc n) (x ∷ xs) ys = ap (λ l. x ∷ l) (take_front n xs ys)

kept_next : (all old new : List Spelled) (x : Spelled) → old ≡ front all → new ≡ front (old ++ x ∷ []) → new ≡ front (all ++ x ∷ [])
kept_next all old new x is made = made ∙ ap (λ l. front (l ++ x ∷ [])) is ∙ take_front 257 all (x ∷ [])

-- the whole list, where the row is put and where it isn't
put_in : (test : Placed → Bool) (rows : List Row) (r : Row) (old new : List Spelled) → test (record { before = rows; at = r }) ≡ true → old ≡ front (map (λ p. unplaced p.at) (filter test (placed [] rows)))
    → new ≡ front (old ++ unplaced r ∷ []) → new ≡ front (map (λ p. unplaced p.at) (filter test (placed [] (rows ++ r ∷ []))))
put_in test rows r old new passes is made =
    let all = map (λ p. unplaced p.at) (filter test (placed [] rows)) in
    kept_next all old new (unplaced r) is made ∙ ap (λ b. front (all ++ cond b (unplaced r ∷ []) [])) (sym passes) ∙ ap front (sym (chosen test rows r))

left_out : (test : Placed → Bool) (rows : List Row) (r : Row) (old : List Spelled) → test (record { before = rows; at = r }) ≡ false → old ≡ front (map (λ p. unplaced p.at) (filter test (placed [] rows)))
    → old ≡ front (map (λ p. unplaced p.at) (filter test (placed [] (rows ++ r ∷ []))))
left_out test rows r old fails is =
    let all = map (λ p. unplaced p.at) (filter test (placed [] rows)) in
    is ∙ ap front (sym (append-nil all)) ∙ ap (λ b. front (all ++ cond b (unplaced r ∷ []) [])) (sym fails) ∙ ap front (sym (chosen test rows r))

-- ---- by the side on which the row stands

record Sides (inside behind separates : Bool) (early late : Bool) : Type 0 where
  is_early : (inside && not (behind || separates)) ≡ early
  is_late : (inside && behind) ≡ late

early_side : (inside behind separates : Bool) → Early ≡ side_by inside behind separates → Sides inside behind separates true false
early_side false behind separates e = absurd cc
early_side true true separates e = absurd cc
early_side true false true e = absurd cc
early_side true false false e = record { is_early = refl; is_late = refl }

late_side : (inside behind separates : Bool) → Late ≡ side_by inside behind separates → Sides inside behind separates false true
late_side false behind separates e = absurd cc
late_side true true separates e = record { is_early = refl; is_late = refl }
late_side true false true e = absurd cc
late_side true false false e = absurd cc

no_side : (inside behind separates : Bool) → Neither ≡ side_by inside behind separates → Sides inside behind separates false false
no_side false behind separates e = record { is_early = refl; is_late = refl }
no_side true true separates e = absurd cc
no_side true false true e = record { is_early = refl; is_late = refl }
no_side true false false e = absurd cc

-- the side of a row behind some others
abbrev pub side_at : ℕ → List Row → Row → Side
side_at mask rows r = side_by (has_pcr mask r.pcr) (is_separated r.pcr rows) (is_separating r.origin)

pub parted_early : (mask : ℕ) (rows : List Row) (r : Row) (old : Locked) (early : List CelRecord) → Early ≡ side_at mask rows r → IsParted mask rows old → map spelled early ≡ front (map spelled old.early ++ unplaced r ∷ [])
    → IsParted mask (rows ++ r ∷ []) (record old { early = early })
parted_early mask rows r old early is parted made =
    let s = early_side (has_pcr mask r.pcr) (is_separated r.pcr rows) (is_separating r.origin) is in
    record {
      early = put_in (is_early mask) rows r (map spelled old.early) (map spelled early) (early_test mask rows r ∙ s.is_early) parted.early made;
      late = left_out (is_late mask) rows r (map spelled old.late) s.is_late parted.late;
    }

pub parted_late : (mask : ℕ) (rows : List Row) (r : Row) (old : Locked) (late : List CelRecord) → Late ≡ side_at mask rows r → IsParted mask rows old → map spelled late ≡ front (map spelled old.late ++ unplaced r ∷ [])
    → IsParted mask (rows ++ r ∷ []) (record old { late = late })
parted_late mask rows r old late is parted made =
    let s = late_side (has_pcr mask r.pcr) (is_separated r.pcr rows) (is_separating r.origin) is in
    record {
      early = left_out (is_early mask) rows r (map spelled old.early) (early_test mask rows r ∙ s.is_early) parted.early;
      late = put_in (is_late mask) rows r (map spelled old.late) (map spelled late) s.is_late parted.late made;
    }

pub parted_neither : (mask : ℕ) (rows : List Row) (r : Row) (old : Locked) → Neither ≡ side_at mask rows r → IsParted mask rows old → IsParted mask (rows ++ r ∷ []) old
parted_neither mask rows r old is parted =
    let s = no_side (has_pcr mask r.pcr) (is_separated r.pcr rows) (is_separating r.origin) is in
    record {
      early = left_out (is_early mask) rows r (map spelled old.early) (early_test mask rows r ∙ s.is_early) parted.early;
      late = left_out (is_late mask) rows r (map spelled old.late) s.is_late parted.late;
    }

-- ---- what is put, and what is left out

pub full : (xs : List Spelled) (x : Spelled) → length xs ≡ 257 → xs ≡ front (xs ++ x ∷ [])
full xs x long = sym (take_at xs (x ∷ []) 257 long)

pub fits : (xs : List Spelled) (x : Spelled) → length xs ≤ 256 → xs ++ x ∷ [] ≡ front (xs ++ x ∷ [])
fits xs x short = sym (take_all 257 (xs ++ x ∷ []) (omega (arith, length_push xs x)))

pub short : (list : List CelRecord) (all : List Spelled) → map spelled list ≡ front all → length list ≤ 257
short list all is = omega (arith, ap length is, length-map list spelled, length-take 257 all)

pub extended_is : (m : FirmwareRecord) → (m.kind ≡ 3 → ⊥) → option_to_list (extended_row m) ≡ firmware_row m ∷ []
extended_is m other = ap (λ b. option_to_list (cond b None (Some (firmware_row m)))) (ne_eqb m.kind 3 other)

-- ---- what the fronts say of the whole lists

pub too_long : (list : List CelRecord) (all : List Spelled) → map spelled list ≡ front all → 256 < length list → 256 < length all
too_long list all is long = omega (arith, ap length is, length-map list spelled, length-take 257 all)

pub whole : (list : List CelRecord) (all : List Spelled) → map spelled list ≡ front all → length list ≤ 256 → map spelled list ≡ all
whole list all is few =
    let short_enough : length all ≤ 257 = omega (arith, ap length is, length-map list spelled, length-take 257 all) in
    is ∙ take_all 257 all short_enough
