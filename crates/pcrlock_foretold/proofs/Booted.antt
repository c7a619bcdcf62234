-- What a PCR holds after a boot is the replay of the logs that were measured.
use Rattle.std.proofs.Common.{◌≡◌, ℕ, zero, suc, ◌+◌, ◌*◌, ◌<◌, Bool, true, false, cond, ◌&&◌, List, [], ◌∷◌, ◌++◌, length, map, refl, sym, ap, ◌∙◌, subst, inl, inr, arith, eqb, ltb}
use Rattle.std.specs.Prelude.{Option, None, Some, filter, slice_get, slice_set}
use Rattle.std.specs.Option.{option_map}
use Rattle.std.proofs.Math.ListN.{length-append}
use Rattle.std.proofs.lemmas.Bool.{cases_eq, eqb-true, eq-eqb, lt-ltb, ltb-true, ne_eqb}
use Rattle.hash_bank.specs.declared.bank.Bank.{Bank}
use Rattle.hash_bank.specs.declared.bank.Bank.TheVariants.{Sha1, Sha256, Sha384, Sha512}
use Rattle.hash_bank.specs.declared.banks.Banks.{Banks}
use Rattle.hash_bank.specs.Banks.{has_bank}
use Rattle.hash_bank.specs.Extending.{extended, start_of}
use Rattle.cel_record.specs.Listed.{Listed, listed_in}
use Rattle.pcr_replay.specs.Measured.{all_present, extended_by, measured_in, replayed_in}
use Rattle.pcr_replay.specs.Row.{Row}
use Rattle.tpm_model.specs.declared.parts.Parts.{Parts}
use Rattle.tpm_model.specs.Pcrs.{after_digests, banks_before, extended_in, one_if, pcr_of, place_of, put_extended}
use Rattle.tpm_model.specs.StartValues.{start_values, starts_from, starts_if}
use Rattle.pcrlock_tpm.specs.Boot.{booted, measured, measured_row, restarted}

-- ---- one place of a list

set_at : (xs : List (List ℕ)) (i : ℕ) (v x : List ℕ) → slice_get xs i ≡ Some x → slice_get (slice_set xs i v) i ≡ Some v
set_at [] i v x e = absurd (cc e)
set_at (y ∷ xs) zero v x e = refl
set_at (y ∷ xs) (suc i) v x e = set_at xs i v x e

set_apart : (xs : List (List ℕ)) (i j : ℕ) (v : List ℕ) → (i ≡ j → ⊥) → slice_get (slice_set xs i v) j ≡ slice_get xs j
set_apart [] i j v other = refl
set_apart (y ∷ xs) zero zero v other = absurd (other refl)
set_apart (y ∷ xs) zero (suc j) v other = refl
set_apart (y ∷ xs) (suc i) zero v other = refl
set_apart (y ∷ xs) (suc i) (suc j) v other = set_apart xs i j v (λ same. other (ap suc same))

in_front : (xs rest : List (List ℕ)) (i : ℕ) (v : List ℕ) → slice_get xs i ≡ Some v → slice_get (xs ++ rest) i ≡ Some v
in_front [] rest i v e = absurd (cc e)
in_front (x ∷ xs) rest zero v e = e
in_front (x ∷ xs) rest (suc i) v e = in_front xs rest i v e

behind : (front rest : List (List ℕ)) (i : ℕ) → slice_get (front ++ rest) (length front + i) ≡ slice_get rest i
behind [] rest i = let here : length {A = List ℕ} [] + i ≡ i = omega arith in ap (slice_get rest) here
behind (x ∷ front) rest i = let here : length (x ∷ front) + i ≡ suc (length front + i) = omega arith in ap (slice_get (x ∷ (front ++ rest))) here ∙ behind front rest i

-- ---- the places of PCRs

one : (present : Bool) → present ≡ true → one_if present ≡ 1
one present e = ap one_if e

-- PCRs at one place are one PCR of one bank
places : (banks : Banks) (a b : Bank) (q p : ℕ) → has_bank banks a ≡ true → has_bank banks b ≡ true → q < 24 → p < 24 → place_of banks a q ≡ place_of banks b p → (a ≡ b) × (q ≡ p)
places banks Sha1 Sha1 q p x y i j e = (refl, omega (arith, e))
places banks Sha256 Sha256 q p x y i j e = (refl, omega (arith, e))
places banks Sha384 Sha384 q p x y i j e = (refl, omega (arith, e))
places banks Sha512 Sha512 q p x y i j e = (refl, omega (arith, e))
places banks Sha1 Sha256 q p x y i j e = absurd (omega (arith, one banks.sha1 x, e, i, j))
places banks Sha1 Sha384 q p x y i j e = absurd (omega (arith, one banks.sha1 x, e, i, j))
places banks Sha1 Sha512 q p x y i j e = absurd (omega (arith, one banks.sha1 x, e, i, j))
places banks Sha256 Sha1 q p x y i j e = absurd (omega (arith, one banks.sha1 y, e, i, j))
places banks Sha256 Sha384 q p x y i j e = absurd (omega (arith, one banks.sha256 x, e, i, j))
places banks Sha256 Sha512 q p x y i j e = absurd (omega (arith, one banks.sha256 x, e, i, j))
places banks Sha384 Sha1 q p x y i j e = absurd (omega (arith, one banks.sha1 y, e, i, j))
places banks Sha384 Sha256 q p x y i j e = absurd (omega (arith, one banks.sha256 y, e, i, j))
places banks Sha384 Sha512 q p x y i j e = absurd (omega (arith, one banks.sha384 x, e, i, j))
places banks Sha512 Sha1 q p x y i j e = absurd (omega (arith, one banks.sha1 y, e, i, j))
places banks Sha512 Sha256 q p x y i j e = absurd (omega (arith, one banks.sha256 y, e, i, j))
places banks Sha512 Sha384 q p x y i j e = absurd (omega (arith, one banks.sha384 y, e, i, j))

-- the value of a PCR of a present bank is that at its place
by_place : (banks : Banks) (bank : Bank) (p : ℕ) (pcrs : List (List ℕ)) → has_bank banks bank ≡ true → p < 24 → pcr_of banks pcrs bank p ≡ slice_get pcrs (place_of banks bank p)
by_place banks bank p pcrs present small =
    ap (λ b. cond b (slice_get pcrs (place_of banks bank p)) None) (ap (λ b. b && ltb p 24) present ∙ lt-ltb p 24 small)

-- ---- one extend

-- which PCR was extended
record IsPcr (banks : Banks) (bank : Bank) (p : ℕ) : Type 0 where
  present : has_bank banks bank ≡ true
  small : p < 24

named : (present small : Bool) (o : Option (List ℕ)) (v : List ℕ) → cond (present && small) o None ≡ Some v → (present ≡ true) × (small ≡ true)
named true true o v e = (refl, refl)
named true false o v e = absurd (cc e)
named false small o v e = absurd (cc e)

module _ (banks : Banks) (bank : Bank) (p : ℕ) (is : IsPcr banks bank p) where
  abbrev place : ℕ
  place = place_of banks bank p

  -- an extend of another PCR, or in another bank
  extended_apart : (b : Bank) (q : ℕ) (digest : Option (List ℕ)) (pcrs : List (List ℕ)) → ((b ≡ bank) × (q ≡ p) → ⊥) → slice_get (extended_in banks q digest b pcrs) place ≡ slice_get pcrs place
  extended_apart b q digest pcrs other = by (pcr_of banks pcrs b q) digest refl
    where
      by : (o d : Option (List ℕ)) → pcr_of banks pcrs b q ≡ o → slice_get (put_extended b o d (place_of banks b q) pcrs) place ≡ slice_get pcrs place
      by (Some old) (Some d) e =
          let known = named (has_bank banks b) (ltb q 24) (slice_get pcrs (place_of banks b q)) old e in
          set_apart pcrs (place_of banks b q) place (extended b old d)
          (λ same. other (places banks b bank q p known.0 is.present (ltb-true q 24 known.1) is.small same))
      by (Some old) None e = refl
      by None d e = refl

  extended_here : (d v : List ℕ) (pcrs : List (List ℕ)) → slice_get pcrs place ≡ Some v → slice_get (extended_in banks p (Some d) bank pcrs) place ≡ Some (extended bank v d)
  extended_here d v pcrs at =
      ap (λ o. slice_get (put_extended bank o (Some d) place pcrs) place) (by_place banks bank p pcrs is.present is.small ∙ at) ∙ set_at pcrs place (extended bank v d) v at

  -- an extend of another PCR in all banks
  all_apart : (q : ℕ) (l : Listed) (pcrs : List (List ℕ)) → (q ≡ p → ⊥) → slice_get (after_digests banks q l.sha1 l.sha256 l.sha384 l.sha512 pcrs) place ≡ slice_get pcrs place
  all_apart q l pcrs other =
      extended_apart Sha512 q l.sha512 _ (λ same. other same.1) ∙ extended_apart Sha384 q l.sha384 _ (λ same. other same.1)
      ∙ extended_apart Sha256 q l.sha256 _ (λ same. other same.1) ∙ extended_apart Sha1 q l.sha1 pcrs (λ same. other same.1)

-- an extend of the PCR by what a record lists for the bank
all_here : (banks : Banks) (bank : Bank) (p : ℕ) → IsPcr banks bank p → (l : Listed) (d v : List ℕ) (pcrs : List (List ℕ)) → listed_in bank l ≡ Some d → slice_get pcrs (place_of banks bank p) ≡ Some v
    → slice_get (after_digests banks p l.sha1 l.sha256 l.sha384 l.sha512 pcrs) (place_of banks bank p) ≡ Some (extended bank v d)
all_here banks Sha1 p is l d v pcrs lists at =
    extended_apart banks Sha1 p is Sha512 p l.sha512 _ (λ same. absurd (cc same.0)) ∙ extended_apart banks Sha1 p is Sha384 p l.sha384 _ (λ same. absurd (cc same.0))
    ∙ extended_apart banks Sha1 p is Sha256 p l.sha256 _ (λ same. absurd (cc same.0))
    ∙ ap (λ o. slice_get (extended_in banks p o Sha1 pcrs) (place_of banks Sha1 p)) lists ∙ extended_here banks Sha1 p is d v pcrs at
all_here banks Sha256 p is l d v pcrs lists at =
    let one_in = extended_in banks p l.sha1 Sha1 pcrs in
    extended_apart banks Sha256 p is Sha512 p l.sha512 _ (λ same. absurd (cc same.0)) ∙ extended_apart banks Sha256 p is Sha384 p l.sha384 _ (λ same. absurd (cc same.0))
    ∙ ap (λ o. slice_get (extended_in banks p o Sha256 one_in) (place_of banks Sha256 p)) lists
    ∙ extended_here banks Sha256 p is d v one_in (extended_apart banks Sha256 p is Sha1 p l.sha1 pcrs (λ same. absurd (cc same.0)) ∙ at)
all_here banks Sha384 p is l d v pcrs lists at =
    let one_in = extended_in banks p l.sha1 Sha1 pcrs in
    let two_in = extended_in banks p l.sha256 Sha256 one_in in
    extended_apart banks Sha384 p is Sha512 p l.sha512 _ (λ same. absurd (cc same.0))
    ∙ ap (λ o. slice_get (extended_in banks p o Sha384 two_in) (place_of banks Sha384 p)) lists
    ∙ extended_here banks Sha384 p is d v two_in (extended_apart banks Sha384 p is Sha256 p l.sha256 one_in (λ same. absurd (cc same.0))
    ∙ extended_apart banks Sha384 p is Sha1 p l.sha1 pcrs (λ same. absurd (cc same.0)) ∙ at)
all_here banks Sha512 p is l d v pcrs lists at =
    let one_in = extended_in banks p l.sha1 Sha1 pcrs in
    let two_in = extended_in banks p l.sha256 Sha256 one_in in
    let three_in = extended_in banks p l.sha384 Sha384 two_in in
    ap (λ o. slice_get (extended_in banks p o Sha512 three_in) (place_of banks Sha512 p)) lists
    ∙ extended_here banks Sha512 p is d v three_in (extended_apart banks Sha512 p is Sha384 p l.sha384 two_in (λ same. absurd (cc same.0))
    ∙ extended_apart banks Sha512 p is Sha256 p l.sha256 one_in (λ same. absurd (cc same.0)) ∙ extended_apart banks Sha512 p is Sha1 p l.sha1 pcrs (λ same. absurd (cc same.0)) ∙ at)

-- ---- a log

module _ (bank : Bank) (p : ℕ) where
  abbrev digest_of : Row → Option (List ℕ)
  digest_of r = listed_in bank r.digests

  -- what a log leaves, by its records of the PCR
  abbrev Leaves : List Row → Parts → Type 0
  Leaves rows s = (v : List ℕ) (list : List (List ℕ)) → slice_get s.pcrs (place_of s.banks bank p) ≡ Some v → measured_in bank p rows ≡ Some list
      → slice_get (measured rows s).pcrs (place_of s.banks bank p) ≡ Some (extended_by bank v list)

  module _ (r : Row) (rows : List Row) (s : Parts) (is : IsPcr s.banks bank p) (later : Leaves rows (measured_row s r)) where
    abbrev Then : List ℕ → List (List ℕ) → Type 0
    Then v list = slice_get (measured rows (measured_row s r)).pcrs (place_of s.banks bank p) ≡ Some (extended_by bank v list)

    by_rest : (d v : List ℕ) (rest : Option (List (List ℕ))) (list : List (List ℕ)) → slice_get (measured_row s r).pcrs (place_of s.banks bank p) ≡ Some (extended bank v d)
        → measured_in bank p rows ≡ rest → option_map (λ ds. d ∷ ds) rest ≡ Some list → Then v list
    by_rest d v None list at is_rest e = absurd (cc e)
    by_rest d v (Some ds) list at is_rest e = let same : d ∷ ds ≡ list = cc in subst (Then v) same (later (extended bank v d) ds at is_rest)

    by_digest : (o : Option (List ℕ)) (v : List ℕ) (list : List (List ℕ)) → r.pcr ≡ p → digest_of r ≡ o → slice_get s.pcrs (place_of s.banks bank p) ≡ Some v
        → all_present (o ∷ map digest_of (filter (λ x. eqb x.pcr p) rows)) ≡ Some list → Then v list
    by_digest None v list same lists at e = absurd (cc e)
    by_digest (Some d) v list same lists at e =
        let here = all_here s.banks bank p is r.digests d v s.pcrs lists at in
        let next : slice_get (measured_row s r).pcrs (place_of s.banks bank p) ≡ Some (extended bank v d) =
        ap (λ q. slice_get (after_digests s.banks q r.digests.sha1 r.digests.sha256 r.digests.sha384 r.digests.sha512 s.pcrs) (place_of s.banks bank p)) same ∙ here in
        by_rest d v (measured_in bank p rows) list next refl e

    by_pcr : (b : Bool) (v : List ℕ) (list : List (List ℕ)) → eqb r.pcr p ≡ b → slice_get s.pcrs (place_of s.banks bank p) ≡ Some v
        → all_present (map digest_of (cond b (r ∷ filter (λ x. eqb x.pcr p) rows) (filter (λ x. eqb x.pcr p) rows))) ≡ Some list → Then v list
    by_pcr true v list test at e = by_digest (digest_of r) v list (eqb-true r.pcr p test) refl at e
    by_pcr false v list test at e =
        let other : r.pcr ≡ p → ⊥ = λ same. let on = sym (eq-eqb r.pcr p same) ∙ test in absurd (cc on) in
        later v list (all_apart s.banks bank p is r.pcr r.digests s.pcrs other ∙ at) e

  log_leaves : (rows : List Row) (s : Parts) → IsPcr s.banks bank p → Leaves rows s
  log_leaves [] s is v list at e = let none : [] ≡ list = cc in subst (λ (l : List (List ℕ)). slice_get s.pcrs (place_of s.banks bank p) ≡ Some (extended_by bank v l)) none at
  log_leaves (r ∷ rows) s is v list at e = by_pcr r rows s is (log_leaves rows (measured_row s r) (record { present = is.present; small = is.small })) (eqb r.pcr p) v list refl at e

-- ---- a restart

starts_at : (bank : Bank) (locality a n i : ℕ) → i < n → slice_get (starts_from bank locality a n) i ≡ Some (start_of bank (a + i) locality)
unfolding starts_from
starts_at bank locality a zero i lt = absurd (omega (arith, lt))
starts_at bank locality a (suc n) zero lt = let here : a ≡ a + 0 = omega arith in ap (λ k. Some (start_of bank k locality)) here
starts_at bank locality a (suc n) (suc i) lt = let here : a + 1 + i ≡ a + suc i = omega arith in starts_at bank locality (a + 1) n i (omega (arith, lt)) ∙ ap (λ k. Some (start_of bank k locality)) here

length-starts_from : (bank : Bank) (locality a n : ℕ) → length (starts_from bank locality a n) ≡ n
unfolding starts_from
length-starts_from bank locality a zero = refl
length-starts_from bank locality a (suc n) = ap suc (length-starts_from bank locality (a + 1) n)

length-starts_if : (present : Bool) (bank : Bank) (locality : ℕ) → length (starts_if present bank locality) ≡ 24 * one_if present
length-starts_if true bank locality = length-starts_from bank locality 0 24
length-starts_if false bank locality = refl

start_in : (present : Bool) (bank : Bank) (locality p : ℕ) → present ≡ true → p < 24 → slice_get (starts_if present bank locality) p ≡ Some (start_of bank p locality)
start_in true bank locality p e small = let here : 0 + p ≡ p = omega arith in starts_at bank locality 0 24 p small ∙ ap (λ k. Some (start_of bank k locality)) here
start_in false bank locality p e small = absurd (cc e)

module _ (banks : Banks) (locality p : ℕ) where
  abbrev first : List (List ℕ)
  first = starts_if banks.sha1 Sha1 locality

  abbrev second : List (List ℕ)
  second = starts_if banks.sha256 Sha256 locality

  abbrev third : List (List ℕ)
  third = starts_if banks.sha384 Sha384 locality

  abbrev fourth : List (List ℕ)
  fourth = starts_if banks.sha512 Sha512 locality

  start_at : (bank : Bank) → IsPcr banks bank p → slice_get (start_values banks locality) (place_of banks bank p) ≡ Some (start_of bank p locality)
  start_at Sha1 is =
      let here : place_of banks Sha1 p ≡ p = omega arith in
      in_front ((first ++ second) ++ third) fourth _ _ (in_front (first ++ second) third _ _ (in_front first second _ _
      (ap (slice_get first) here ∙ start_in banks.sha1 Sha1 locality p is.present is.small)))
  start_at Sha256 is =
      let here : place_of banks Sha256 p ≡ length first + p = omega (arith, length-starts_if banks.sha1 Sha1 locality) in
      in_front ((first ++ second) ++ third) fourth _ _ (in_front (first ++ second) third _ _
      (ap (slice_get (first ++ second)) here ∙ behind first second p ∙ start_in banks.sha256 Sha256 locality p is.present is.small))
  start_at Sha384 is =
      let here : place_of banks Sha384 p ≡ length (first ++ second) + p =
      omega (arith, length-append first second, length-starts_if banks.sha1 Sha1 locality, length-starts_if banks.sha256 Sha256 locality) in
      in_front ((first ++ second) ++ third) fourth _ _
      (ap (slice_get ((first ++ second) ++ third)) here ∙ behind (first ++ second) third p ∙ start_in banks.sha384 Sha384 locality p is.present is.small)
  start_at Sha512 is =
      let here : place_of banks Sha512 p ≡ length ((first ++ second) ++ third) + p =
      omega (
        arith,
        length-append (first ++ second) third,
        length-append first second,
        length-starts_if banks.sha1 Sha1 locality,
        length-starts_if banks.sha256 Sha256 locality,
        length-starts_if banks.sha384 Sha384 locality,
      ) in
      ap (slice_get (((first ++ second) ++ third) ++ fourth)) here ∙ behind ((first ++ second) ++ third) fourth p ∙ start_in banks.sha512 Sha512 locality p is.present is.small

-- ---- a boot

same_banks : (rows : List Row) (s : Parts) → (measured rows s).banks ≡ s.banks
same_banks [] s = refl
same_banks (r ∷ rows) s = same_banks rows (measured_row s r)

-- where each record of the PCR has the bank, and the bank is present
pub boot_replays : (bank : Bank) (p locality : ℕ) (banks : Banks) (rows : List Row) (s : Parts) (list : List (List ℕ)) → has_bank banks bank ≡ true → p < 24 → measured_in bank p rows ≡ Some list
    → pcr_of (booted locality banks rows s).banks (booted locality banks rows s).pcrs bank p ≡ replayed_in bank p locality rows
boot_replays bank p locality banks rows s list present small lists =
    let start = restarted locality banks s in
    let is : IsPcr banks bank p = record { present = present; small = small } in
    let banks_are : (measured rows start).banks ≡ banks = same_banks rows start in
    ap (λ (b : Banks). pcr_of b (measured rows start).pcrs bank p) banks_are
    ∙ by_place banks bank p (measured rows start).pcrs present small
    ∙ log_leaves bank p rows start is (start_of bank p locality) list (start_at banks locality p bank is) lists
    ∙ sym (ap (option_map (extended_by bank (start_of bank p locality))) lists)
