-- The table of the protected PCRs is valid where it has a row.
use Rattle.std.proofs.Common.{◌≡◌, ◌≢◌, ℕ, zero, suc, ◌+◌, ◌^◌, ◌≤◌, ◌<◌, Bool, true, false, cond, not, ◌&&◌, ◌||◌, eqb, List, [], ◌∷◌, length, map, Option, Some, None, Result, Ok, Err, refl, sym, ap, ◌∙◌, subst, inl, inr, max, min, arith}
use Rattle.std.specs.Prelude.{filter, bit_or, bit_and, fold, IfOk}
use Rattle.std.specs.Int.{bit_at, w32, trailing_zeros}
use Rattle.std.specs.Int.Bits.{or_lt, and_lt, or_zero_l}
use Rattle.std.specs.List.{list_all, list_any, range_with_len}
use Rattle.std.specs.Str.{bytes_eq}
use Rattle.std.proofs.lemmas.Bool.{and_parts, cases_eq, eq-eqb, eqb-true, ne_eqb, lt-ltb, le-leb}
use Rattle.std.proofs.lemmas.List.{length-map}
use Rattle.std.proofs.lemmas.Nat.Bits.{bit_at_or, bit_at_and, bit_at-pow_same, bit_at-pow_other, bit_at-lt, bit_at-zero, bit_at-trailing_zeros, same_from_bits_below}
use Rattle.std.proofs.lemmas.Nat.{pow_below}
use Rattle.hash_bank.specs.declared.bank.Bank.{Bank}
use Rattle.component_tree.specs.declared.tree.Component.{Component}
use Rattle.component_tree.specs.PlainTree.{PlainComponent, plain}
use Rattle.pcr_replay.specs.Row.{Row as LogRow}
use Rattle.policy_digest.specs.declared.table.Row.{Row}
use Rattle.policy_digest.specs.Mask.{has_pcr, mask_of, pcrs_of}
use Rattle.policy_digest.specs.Table.{values_eq, each_pair, fits, valid_row, valid_table, precedes}
use Rattle.predictor.specs.declared.error.ForeseeError.{ForeseeError}
use Rattle.predictor.specs.declared.error.ProtectError.{ProtectError}
use Rattle.predictor.specs.declared.protection.Cause.{Cause}
use Rattle.predictor.specs.declared.protection.LeftOut.{LeftOut}
use Rattle.predictor.specs.declared.protection.Protection.{Protection}
use Rattle.predictor.specs.declared.window.Window.{Window}
use Rattle.predictor.specs.Foreseen.{foreseen, foreseen_joint}
use Rattle.predictor.specs.Protected.{◌>>=◌, Answers, row_of, row_or_cause, rows_of, kept_or_cause, kept_of, joint_row, joint_rows, protection, standing_in, refused_for, where_replayed, protected_each, protected_joint, protected_of}
use Rattle.policy_digest.proofs.MaskOrder.{Rising, rising_before, rising_asked, is_in, mask_bits, small_from, listed_back}
use Rattle.predictor.proofs.OnePcr.{alone, alone_same}
use Rattle.predictor.proofs.Sound.{Sound, HasVariants, plain_variants, has_size, apart, both, one_sound, joint_sound}

abbrev pub done : {A : Type 0} → A → Result A ProtectError
done x = Ok x

pub ok_is : {A : Type 0} (x y : A) → done x ≡ done y → x ≡ y
ok_is x y e = cc

pub bind_ok : {A B : Type 0} (r : Result A ProtectError) (f : A → Result B ProtectError) (y : B) → (r >>= f) ≡ Ok y → (x : A) × (r ≡ Ok x) × (f x ≡ Ok y)
bind_ok (Ok x) f y e = (x, refl, e)
bind_ok (Err d) f y e = absurd cc

positive : (mask p : ℕ) → has_pcr mask p ≡ true → 0 < mask
positive zero p on = absurd (let one : bit_at 0 p ≡ 1 = eqb-true (bit_at 0 p) 1 on in let none = bit_at-zero p in omega arith)
positive (suc mask) p on = omega arith

-- ---- a row

-- a row for these PCRs, with lists that are foreseen
row_valid : (bank : Bank) (pcrs : List ℕ) (p : ℕ) (choices : List (List (List ℕ))) → Rising 0 (p ∷ pcrs) → Sound (fits bank (length (p ∷ pcrs))) values_eq choices
    → valid_row bank (record { pcrs = mask_of (p ∷ pcrs); choices = choices }) ≡ true
row_valid bank pcrs p choices rise sound =
    let mask = mask_of (p ∷ pcrs) in
    let on : has_pcr mask p ≡ true = mask_bits (p ∷ pcrs) p ∙ ap (λ b. b || is_in pcrs p) (eq-eqb p p refl) in
    let some = positive mask p on in
    let below = small_from 0 0 (p ∷ pcrs) (omega arith) rise in
    let fit : list_all (fits bank (length (pcrs_of mask))) choices ≡ true = ap (λ (ps : List ℕ). list_all (fits bank (length ps)) choices) (listed_back (p ∷ pcrs) rise) ∙ sound.fit in
    both _ _ (both _ _ (both _ _ (both _ _ (both _ _ (lt-ltb 0 mask some) (lt-ltb mask (2 ^ 24) below)) (le-leb 1 (length choices) sound.some)) (le-leb (length choices) 512 sound.few)) fit) sound.different

all_alone : (bank : Bank) (values : List (List ℕ)) → list_all (has_size bank) values ≡ true → list_all (fits bank 1) (map alone values) ≡ true
all_alone bank [] h = refl
all_alone bank (v ∷ values) h =
    let parts = and_parts (has_size bank v) (list_all (has_size bank) values) h in
    both _ _ (both _ _ refl (both _ _ parts.0 refl)) (all_alone bank values parts.1)

others_alone : (v : List ℕ) (values : List (List ℕ)) → list_all (apart values_eq (alone v)) (map alone values) ≡ list_all (apart bytes_eq v) values
others_alone v [] = refl
others_alone v (w ∷ values) = ap (λ b. not b && list_all (apart values_eq (alone v)) (map alone values)) (alone_same v w) ∙ ap (λ b. apart bytes_eq v w && b) (others_alone v values)

pairs_alone : (values : List (List ℕ)) → each_pair (apart values_eq) (map alone values) ≡ each_pair (apart bytes_eq) values
pairs_alone [] = refl
pairs_alone (v ∷ values) = ap (λ b. b && each_pair (apart values_eq) (map alone values)) (others_alone v values) ∙ ap (λ b. list_all (apart bytes_eq v) values && b) (pairs_alone values)

sound_alone : (bank : Bank) (values : List (List ℕ)) → Sound (has_size bank) bytes_eq values → Sound (fits bank 1) values_eq (map alone values)
sound_alone bank values sound = record {
  some = omega (arith, length-map values alone, sound.some);
  few = omega (arith, length-map values alone, sound.few);
  fit = all_alone bank values sound.fit;
  different = pairs_alone values ∙ sound.different;
}

alone_mask : (p : ℕ) → mask_of (p ∷ []) ≡ 2 ^ p
alone_mask p = or_zero_l (2 ^ p)

one_valid : (bank : Bank) (p : ℕ) (values : List (List ℕ)) → p ≤ 23 → Sound (has_size bank) bytes_eq values → valid_row bank (row_of p values) ≡ true
one_valid bank p values le sound =
    ap (λ (mask : ℕ). valid_row bank (record { pcrs = mask; choices = map alone values })) (sym (alone_mask p))
    ∙ row_valid bank [] p (map alone values) (omega arith, le, tt) (sound_alone bank values sound)

-- ---- two rows

lowest : (p : ℕ) → p ≤ 23 → trailing_zeros w32 (2 ^ p) ≡ p
lowest p le =
    let some = positive (2 ^ p) p (eq-eqb _ _ (bit_at-pow_same p)) in
    let bit = bit_at-trailing_zeros w32 (2 ^ p) some (pow_below p 32 (omega arith)) in
    elim (cases_eq (trailing_zeros w32 (2 ^ p)) p) [
      | inl same ↦ same
      | inr other ↦ let off = bit_at-pow_other p (trailing_zeros w32 (2 ^ p)) other in let on = bit.1 in absurd (omega arith)
    ]

no_shared : (p q : ℕ) → p < q → q ≤ 23 → bit_and (2 ^ p) (2 ^ q) ≡ 0
no_shared p q lt le =
    same_from_bits_below 24 (bit_and (2 ^ p) (2 ^ q)) 0 (and_lt 24 (2 ^ p) (2 ^ q) (pow_below p 24 (omega arith)) (pow_below q 24 (omega arith))) (omega arith) (λ i low. bit_at_and (2 ^ p) (2 ^ q) i ∙ none i ∙ sym (bit_at-zero i))
  where
    none : (i : ℕ) → min (bit_at (2 ^ p) i) (bit_at (2 ^ q) i) ≡ 0
    none i =
        elim (cases_eq i p) [
          | inl same ↦ let off = bit_at-pow_other q i (λ e. omega arith) in omega arith
          | inr other ↦ let off = bit_at-pow_other p i other in omega arith
        ]

in_order : (p q : ℕ) (vs ws : List (List ℕ)) → p < q → q ≤ 23 → precedes (row_of p vs) (row_of q ws) ≡ true
in_order p q vs ws lt le =
    both _ _ (eq-eqb _ _ (no_shared p q lt le)) (rw (lowest p (omega arith), lowest q le) (lt-ltb p q lt))

-- ---- a row for each

record IsRow (bank : Bank) (a : ℕ) (row : Row) : Type 0 where
  pcr : ℕ
  values : List (List ℕ)
  is : row ≡ row_of pcr values
  from : a ≤ pcr
  to : pcr ≤ 23
  sound : Sound (has_size bank) bytes_eq values

-- a row each for PCRs that ascend, from one on
abbrev Rows : Bank → ℕ → List Row → Type 0
Rows bank a [] = Unit {0}
Rows bank a (row ∷ rows) = (here : IsRow bank a row) × Rows bank (suc here.pcr) rows

rows_before : (bank : Bank) (a b : ℕ) (rows : List Row) → a ≤ b → Rows bank b rows → Rows bank a rows
rows_before bank a b [] le rise = tt
rows_before bank a b (row ∷ rows) le (here, rest) =
    (record { pcr = here.pcr; values = here.values; is = here.is; from = omega (arith, here.from); to = here.to; sound = here.sound }, rest)

rows_valid : (bank : Bank) (a : ℕ) (rows : List Row) → Rows bank a rows → list_all (valid_row bank) rows ≡ true
rows_valid bank a [] rise = refl
rows_valid bank a (row ∷ rows) (here, rest) =
    both _ _ (ap (valid_row bank) here.is ∙ one_valid bank here.pcr here.values here.to here.sound) (rows_valid bank (suc here.pcr) rows rest)

rows_after : (bank : Bank) (p a : ℕ) (vs : List (List ℕ)) (rows : List Row) → p < a → Rows bank a rows → list_all (precedes (row_of p vs)) rows ≡ true
rows_after bank p a vs [] lt rise = refl
rows_after bank p a vs (row ∷ rows) lt (here, rest) =
    both _ _ (ap (precedes (row_of p vs)) here.is ∙ in_order p here.pcr vs here.values (omega (arith, here.from)) here.to)
    (rows_after bank p (suc here.pcr) vs rows (omega (arith, here.from)) rest)

rows_in_order : (bank : Bank) (a : ℕ) (rows : List Row) → Rows bank a rows → each_pair precedes rows ≡ true
rows_in_order bank a [] rise = refl
rows_in_order bank a (row ∷ rows) (here, rest) =
    both _ _ (ap (λ (r : Row). list_all (precedes r) rows) here.is ∙ rows_after bank here.pcr (suc here.pcr) here.values rows (omega arith) rest) (rows_in_order bank (suc here.pcr) rows rest)

rows_few : (bank : Bank) (a : ℕ) (rows : List Row) → a ≤ 24 → Rows bank a rows → length rows + a ≤ 24
rows_few bank a [] le rise = omega arith
rows_few bank a (row ∷ rows) le (here, rest) =
    let more = rows_few bank (suc here.pcr) rows (omega (arith, here.to)) rest in omega (arith, here.from)

some_rows : (rows : List Row) → rows ≢ [] → 1 ≤ length rows
some_rows [] some = absurd (some refl)
some_rows (row ∷ rows) some = omega arith

table_of_rows : (bank : Bank) (rows : List Row) → Rows bank 0 rows → rows ≢ [] → valid_table (record { bank = bank; rows = rows }) ≡ true
table_of_rows bank rows rise some =
    let few = rows_few bank 0 rows (omega arith) rise in
    both _ _ (both _ _ (both _ _ (le-leb 1 (length rows) (some_rows rows some)) (le-leb (length rows) 24 (omega arith))) (rows_valid bank 0 rows rise)) (rows_in_order bank 0 rows rise)

module _ (bank : Bank) (standing : ℕ → Result (Option Cause) ProtectError) (values : ℕ → Result (List (List ℕ)) ProtectError) (sound : (p : ℕ) (list : List (List ℕ)) → values p ≡ Ok list → Sound (has_size bank) bytes_eq list) where
  row_more : (a p : ℕ) (cause : Option Cause) (list : List (List ℕ)) (rest found : List Row × List LeftOut) → a ≤ p → p ≤ 23 → where_replayed cause (values p) ≡ Ok list → Rows bank (suc p) rest.0
      → row_or_cause p cause list rest ≡ found → Rows bank a found.0
  row_more a p None list rest found from to given more is =
      subst (λ (f : List Row × List LeftOut). Rows bank a f.0) is (record { pcr = p; values = list; is = refl; from = from; to = to; sound = sound p list given }, more)
  row_more a p (Some cause) list rest found from to given more is =
      subst (λ (f : List Row × List LeftOut). Rows bank a f.0) is (rows_before bank a (suc p) rest.0 (omega arith) more)

  rows_rise : (pcrs : List ℕ) (a : ℕ) (found : List Row × List LeftOut) → Rising a pcrs → rows_of standing values pcrs ≡ Ok found → Rows bank a found.0
  rows_rise [] a found rise e = let is : ([], []) ≡ found = cc in subst (λ (f : List Row × List LeftOut). Rows bank a f.0) is tt
  rows_rise (p ∷ pcrs) a found rise e =
      let s = bind_ok (standing p) (λ cause. where_replayed cause (values p) >>= λ list. rows_of standing values pcrs >>= λ rest. Ok (row_or_cause p cause list rest)) found e in
      let v = bind_ok (where_replayed s.0 (values p)) (λ list. rows_of standing values pcrs >>= λ rest. Ok (row_or_cause p s.0 list rest)) found s.2 in
      let r = bind_ok (rows_of standing values pcrs) (λ rest. Ok (row_or_cause p s.0 v.0 rest)) found v.2 in
      let is : row_or_cause p s.0 v.0 r.0 ≡ found = ok_is _ _ r.2 in
      row_more a p s.0 v.0 r.0 found rise.0 rise.1 v.1 (rows_rise pcrs (suc p) r.0 rise.2 r.1) is

-- ---- one row

pub refused_ok : {A : Type 0} (p : ℕ) (r : Result A ForeseeError) (x : A) → refused_for p r ≡ Ok x → r ≡ Ok x
refused_ok p (Ok y) x e = let is : y ≡ x = ok_is y x e in ap Ok is
refused_ok p (Err error) x e = absurd cc

kept_more : (a p : ℕ) (cause : Option Cause) (rest found : List ℕ × List LeftOut) → a ≤ p → p ≤ 23 → Rising (suc p) rest.0 → kept_or_cause p cause rest ≡ found → Rising a found.0
kept_more a p None rest found from to more is = subst (λ (f : List ℕ × List LeftOut). Rising a f.0) is (from, to, more)
kept_more a p (Some cause) rest found from to more is = subst (λ (f : List ℕ × List LeftOut). Rising a f.0) is (rising_before a (suc p) rest.0 (omega arith) more)

pub kept_rises : (standing : ℕ → Result (Option Cause) ProtectError) (pcrs : List ℕ) (a : ℕ) (found : List ℕ × List LeftOut) → Rising a pcrs → kept_of standing pcrs ≡ Ok found → Rising a found.0
kept_rises standing [] a found rise e = let is : ([], []) ≡ found = ok_is _ _ e in subst (λ (f : List ℕ × List LeftOut). Rising a f.0) is tt
kept_rises standing (p ∷ pcrs) a found rise e =
    let s = bind_ok (standing p) (λ cause. kept_of standing pcrs >>= λ rest. Ok (kept_or_cause p cause rest)) found e in
    let r = bind_ok (kept_of standing pcrs) (λ rest. Ok (kept_or_cause p s.0 rest)) found s.2 in
    kept_more a p s.0 r.0 found rise.0 rise.1 (kept_rises standing pcrs (suc p) r.0 rise.2 r.1) (ok_is _ _ r.2)

joint_valid : (bank : Bank) (states : List ℕ → Result (List (List (List ℕ))) ForeseeError) → ((pcrs : List ℕ) (list : List (List (List ℕ))) → states pcrs ≡ Ok list → Sound (fits bank (length pcrs)) values_eq list)
    → (pcrs : List ℕ) (rows : List Row) → Rising 0 pcrs → joint_rows states pcrs ≡ Ok rows → rows ≢ [] → valid_table (record { bank = bank; rows = rows }) ≡ true
joint_valid bank states sound [] rows rise e some = let is : [] ≡ rows = ok_is _ _ e in absurd (some (sym is))
joint_valid bank states sound (p ∷ pcrs) rows rise e some =
    let l = bind_ok (refused_for p (states (p ∷ pcrs))) (λ list. Ok (joint_row (p ∷ pcrs) list ∷ [])) rows e in
    let row = row_valid bank pcrs p l.0 rise (sound (p ∷ pcrs) l.0 (refused_ok p (states (p ∷ pcrs)) l.0 l.1)) in
    let is : joint_row (p ∷ pcrs) l.0 ∷ [] ≡ rows = ok_is _ _ l.2 in
    ap (λ (rs : List Row). valid_table (record { bank = bank; rows = rs })) (sym is) ∙ both _ _ (both _ _ refl (both _ _ row refl)) refl

-- ---- the whole

each_valid : (tree : List PlainComponent) (window : Window) (asked : ℕ) (bank : Bank) (log : List LogRow) (locality : ℕ) (now : List (List ℕ)) (p : Protection) → HasVariants tree
    → protected_each tree window (pcrs_of asked) bank log locality now ≡ Ok p → p.table.rows ≢ [] → valid_table p.table ≡ true
unfolding protected_each
each_valid tree window asked bank log locality now p variants e some =
    let standing = standing_in tree window bank log locality now in
    let values : ℕ → Result (List (List ℕ)) ProtectError = λ pcr. refused_for pcr (foreseen bank locality pcr window tree) in
    let sound : (pcr : ℕ) (list : List (List ℕ)) → values pcr ≡ Ok list → Sound (has_size bank) bytes_eq list = λ pcr list given.
    one_sound bank locality pcr window tree list variants (refused_ok pcr (foreseen bank locality pcr window tree) list given) in
    let f = bind_ok (rows_of standing values (pcrs_of asked)) (λ found. Ok (protection bank found.0 found.1)) p e in
    let is : protection bank f.0.0 f.0.1 ≡ p = ok_is _ _ f.2 in
    let rise = rows_rise bank standing values sound (pcrs_of asked) 0 f.0 (rising_asked asked) f.1 in
    subst (λ (q : Protection). q.table.rows ≢ [] → valid_table q.table ≡ true) is (table_of_rows bank f.0.0 rise) some

together_valid : (tree : List PlainComponent) (window : Window) (asked : ℕ) (bank : Bank) (log : List LogRow) (locality : ℕ) (now : List (List ℕ)) (p : Protection) → HasVariants tree
    → protected_joint tree window (pcrs_of asked) bank log locality now ≡ Ok p → p.table.rows ≢ [] → valid_table p.table ≡ true
unfolding protected_joint
together_valid tree window asked bank log locality now p variants e some =
    let standing = standing_in tree window bank log locality now in
    let states : List ℕ → Result (List (List (List ℕ))) ForeseeError = λ pcrs. foreseen_joint bank locality pcrs window tree in
    let f = bind_ok (kept_of standing (pcrs_of asked)) (λ found. joint_rows states found.0 >>= λ rows. Ok (protection bank rows found.1)) p e in
    let r = bind_ok (joint_rows states f.0.0) (λ rows. Ok (protection bank rows f.0.1)) p f.2 in
    let is : protection bank r.0 f.0.1 ≡ p = ok_is _ _ r.2 in
    let rise = kept_rises standing (pcrs_of asked) 0 f.0 (rising_asked asked) f.1 in
    subst (λ (q : Protection). q.table.rows ≢ [] → valid_table q.table ≡ true) is
    (joint_valid bank states (λ pcrs list given. joint_sound bank locality pcrs window tree list variants given) f.0.0 r.0 rise r.1) some

-- where each component has a variant
pub plain_valid : (joint : Bool) (tree : List PlainComponent) (window : Window) (asked : ℕ) (bank : Bank) (log : List LogRow) (locality : ℕ) (now : List (List ℕ)) (p : Protection) → HasVariants tree
    → protected_of joint tree window asked bank log locality now ≡ Ok p → p.table.rows ≢ [] → valid_table p.table ≡ true
plain_valid true tree window asked bank log locality now p variants h = together_valid tree window asked bank log locality now p variants h
plain_valid false tree window asked bank log locality now p variants h = each_valid tree window asked bank log locality now p variants h

pub protected_valid : (joint : Bool) (components : List Component) (window : Window) (asked : ℕ) (bank : Bank) (log : List LogRow) (locality : ℕ) (now : List (List ℕ)) (result : Result Protection ProtectError)
    → Answers result (protected_of joint (plain components) window asked bank log locality now) → IfOk result (λ p. p.table.rows ≢ [] → valid_table p.table ≡ true)
protected_valid joint components window asked bank log locality now (Ok p) h = plain_valid joint (plain components) window asked bank log locality now p (plain_variants components) h
protected_valid joint components window asked bank log locality now (Err e) h = tt
