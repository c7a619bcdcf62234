-- One record more, replayed and measured.
use Rattle.std.proofs.Common.{◌≡◌, ℕ, ◌+◌, ◌<◌, ◌≤◌, true, false, cond, eqb, List, [], ◌∷◌, ◌++◌, length, get_or, set, drop, map, Option, Some, None, refl, sym, ap, subst, ◌∙◌, append_assoc, eq-eqb, inl, inr}
use Rattle.std.specs.Prelude.{filter}
use Rattle.std.specs.Option.{option_map}
use Rattle.std.specs.Option.{IfSome}
use Rattle.std.proofs.lemmas.Bool.{cases_eq, ne_eqb}
use Rattle.std.proofs.lemmas.List.{drop_more, drop_all, get_or-set_same, get_or-set_other}
use Rattle.hash_bank.specs.Extending.{extended}
use Rattle.hash_bank.specs.declared.bank.Bank.{Bank}
use Rattle.hash_bank.specs.declared.bank.Bank.TheVariants.{Sha1, Sha256, Sha384, Sha512}
use Rattle.hash_bank.specs.declared.digests.Digests.{Digests}
use Rattle.hash_bank.specs.Digests.{digest_at}
use Rattle.cel_record.specs.Listed.{listed, listed_in}
use Rattle.pcr_replay.specs.declared.record.LogRecord.{LogRecord}
use Rattle.pcr_replay.specs.Row.{Row, row, rows}
use Rattle.pcr_replay.specs.Measured.{all_present, measured_in, extended_by, value_after, replay_on}

-- the value after the extends of these rows, from this value on
abbrev pub replay_from : Bank → ℕ → List ℕ → List Row → Option (List ℕ)
replay_from bank pcr value rows = option_map (extended_by bank value) (measured_in bank pcr rows)

-- these digests before those of the rows
abbrev pub measure_from : Bank → ℕ → List (List ℕ) → List Row → Option (List (List ℕ))
measure_from bank pcr digests rows = option_map (λ more. digests ++ more) (measured_in bank pcr rows)

-- ---- on plain rows

pub skipped : (bank : Bank) (pcr : ℕ) (r : Row) (more : List Row) → eqb r.pcr pcr ≡ false → measured_in bank pcr (r ∷ more) ≡ measured_in bank pcr more
skipped bank pcr r more other = ap (λ b. all_present (map (λ r. listed_in bank r.digests) (cond b (r ∷ filter (λ r. eqb r.pcr pcr) more) (filter (λ r. eqb r.pcr pcr) more)))) other

taken : (bank : Bank) (pcr : ℕ) (r : Row) (more : List Row) → eqb r.pcr pcr ≡ true → measured_in bank pcr (r ∷ more) ≡ all_present (listed_in bank r.digests ∷ map (λ r. listed_in bank r.digests) (filter (λ r. eqb r.pcr pcr) more))
taken bank pcr r more same = ap (λ b. all_present (map (λ r. listed_in bank r.digests) (cond b (r ∷ filter (λ r. eqb r.pcr pcr) more) (filter (λ r. eqb r.pcr pcr) more)))) same

pub lacking : (bank : Bank) (pcr : ℕ) (r : Row) (more : List Row) → eqb r.pcr pcr ≡ true → listed_in bank r.digests ≡ None → measured_in bank pcr (r ∷ more) ≡ None
lacking bank pcr r more same none = taken bank pcr r more same ∙ ap (λ d. all_present (d ∷ map (λ r. listed_in bank r.digests) (filter (λ r. eqb r.pcr pcr) more))) none

having : (bank : Bank) (pcr : ℕ) (r : Row) (more : List Row) (d : List ℕ) → eqb r.pcr pcr ≡ true → listed_in bank r.digests ≡ Some d → measured_in bank pcr (r ∷ more) ≡ option_map (λ ds. d ∷ ds) (measured_in bank pcr more)
having bank pcr r more d same some = taken bank pcr r more same ∙ ap (λ d. all_present (d ∷ map (λ r. listed_in bank r.digests) (filter (λ r. eqb r.pcr pcr) more))) some

through : {A B C : Type 0} (f : A → B) (g : B → C) (o : Option A) → option_map g (option_map f o) ≡ option_map (λ x. g (f x)) o
through f g None = refl
through f g (Some x) = refl

-- ---- on the records of a list

next : (list : List LogRecord) (i : ℕ) (r : LogRecord) → i < length list → r ≡ get_or list i r → rows (drop i list) ≡ row r ∷ rows (drop (i + 1) list)
next list i r lt is = ap rows (drop_more list i r lt ∙ ap (λ x. x ∷ drop (i + 1) list) (sym is))

pub replay_skips : (bank : Bank) (pcr : ℕ) (value : List ℕ) (list : List LogRecord) (i : ℕ) (r : LogRecord) (total : Option (List ℕ)) → i < length list → r ≡ get_or list i r → eqb r.pcr pcr ≡ false
    → replay_from bank pcr value (rows (drop i list)) ≡ total → replay_from bank pcr value (rows (drop (i + 1) list)) ≡ total
replay_skips bank pcr value list i r total lt is other so_far =
    ap (option_map (extended_by bank value)) (sym (ap (measured_in bank pcr) (next list i r lt is) ∙ skipped bank pcr (row r) (rows (drop (i + 1) list)) other)) ∙ so_far

pub replay_takes : (bank : Bank) (pcr : ℕ) (value d : List ℕ) (list : List LogRecord) (i : ℕ) (r : LogRecord) (total : Option (List ℕ)) → i < length list → r ≡ get_or list i r → eqb r.pcr pcr ≡ true
    → listed_in bank (row r).digests ≡ Some d → replay_from bank pcr value (rows (drop i list)) ≡ total → replay_from bank pcr (extended bank value d) (rows (drop (i + 1) list)) ≡ total
replay_takes bank pcr value d list i r total lt is same some so_far =
    let more = rows (drop (i + 1) list) in
    sym (through (λ ds. d ∷ ds) (extended_by bank value) (measured_in bank pcr more))
    ∙ ap (option_map (extended_by bank value)) (sym (ap (measured_in bank pcr) (next list i r lt is) ∙ having bank pcr (row r) more d same some)) ∙ so_far

pub replay_lacks : (bank : Bank) (pcr : ℕ) (value : List ℕ) (list : List LogRecord) (i : ℕ) (r : LogRecord) (total : Option (List ℕ)) → i < length list → r ≡ get_or list i r → eqb r.pcr pcr ≡ true
    → listed_in bank (row r).digests ≡ None → replay_from bank pcr value (rows (drop i list)) ≡ total → total ≡ None
replay_lacks bank pcr value list i r total lt is same none so_far =
    sym so_far ∙ ap (option_map (extended_by bank value)) (ap (measured_in bank pcr) (next list i r lt is) ∙ lacking bank pcr (row r) (rows (drop (i + 1) list)) same none)

pub replay_ends : (bank : Bank) (pcr : ℕ) (value : List ℕ) (list : List LogRecord) (i : ℕ) (total : Option (List ℕ)) → length list ≤ i → replay_from bank pcr value (rows (drop i list)) ≡ total → total ≡ Some value
replay_ends bank pcr value list i total le so_far = sym so_far ∙ ap (λ rest. replay_from bank pcr value (rows rest)) (drop_all i list le)

moved : (read : List (List ℕ)) (d : List ℕ) (o : Option (List (List ℕ))) → option_map (λ ds. (read ++ d ∷ []) ++ ds) o ≡ option_map (λ ds. read ++ (d ∷ ds)) o
moved read d None = refl
moved read d (Some ds) = ap Some (append_assoc read (d ∷ []) ds)

pub measure_skips : (bank : Bank) (pcr : ℕ) (read : List (List ℕ)) (list : List LogRecord) (i : ℕ) (r : LogRecord) (total : Option (List (List ℕ))) → i < length list → r ≡ get_or list i r → eqb r.pcr pcr ≡ false
    → measure_from bank pcr read (rows (drop i list)) ≡ total → measure_from bank pcr read (rows (drop (i + 1) list)) ≡ total
measure_skips bank pcr read list i r total lt is other so_far =
    ap (option_map (λ more. read ++ more)) (sym (ap (measured_in bank pcr) (next list i r lt is) ∙ skipped bank pcr (row r) (rows (drop (i + 1) list)) other)) ∙ so_far

pub measure_takes : (bank : Bank) (pcr : ℕ) (read : List (List ℕ)) (d : List ℕ) (list : List LogRecord) (i : ℕ) (r : LogRecord) (total : Option (List (List ℕ))) → i < length list → r ≡ get_or list i r → eqb r.pcr pcr ≡ true
    → listed_in bank (row r).digests ≡ Some d → measure_from bank pcr read (rows (drop i list)) ≡ total → measure_from bank pcr (read ++ d ∷ []) (rows (drop (i + 1) list)) ≡ total
measure_takes bank pcr read d list i r total lt is same some so_far =
    let more = rows (drop (i + 1) list) in
    moved read d (measured_in bank pcr more) ∙ sym (through (λ ds. d ∷ ds) (λ ds. read ++ ds) (measured_in bank pcr more))
    ∙ ap (option_map (λ ds. read ++ ds)) (sym (ap (measured_in bank pcr) (next list i r lt is) ∙ having bank pcr (row r) more d same some)) ∙ so_far

pub listed_is : (bank : Bank) (digests : Digests) → listed_in bank (listed digests) ≡ digest_at digests bank
listed_is Sha1 digests = refl
listed_is Sha256 digests = refl
listed_is Sha384 digests = refl
listed_is Sha512 digests = refl

-- ---- all PCRs at once

on_skips : (bank : Bank) (pcr : ℕ) (o : Option (List ℕ)) (r : Row) (more : List Row) → eqb r.pcr pcr ≡ false → replay_on bank pcr o more ≡ replay_on bank pcr o (r ∷ more)
on_skips bank pcr None r more other = refl
on_skips bank pcr (Some v) r more other = ap (option_map (extended_by bank v)) (sym (skipped bank pcr r more other))

on_takes : (bank : Bank) (pcr : ℕ) (o d : Option (List ℕ)) (r : Row) (more : List Row) → eqb r.pcr pcr ≡ true → listed_in bank r.digests ≡ d → replay_on bank pcr (value_after bank o d) more ≡ replay_on bank pcr o (r ∷ more)
on_takes bank pcr None d r more same is = refl
on_takes bank pcr (Some v) None r more same is = ap (option_map (extended_by bank v)) (sym (lacking bank pcr r more same is))
on_takes bank pcr (Some v) (Some d) r more same is =
    sym (through (λ ds. d ∷ ds) (extended_by bank v) (measured_in bank pcr more)) ∙ ap (option_map (extended_by bank v)) (sym (having bank pcr r more d same is))

-- each PCR's value, with what is still to come, after one more record
pub all_next : (bank : Bank) (list : List LogRecord) (i : ℕ) (r : LogRecord) (values : List (Option (List ℕ))) (total : ℕ → Option (List ℕ)) → i < length list → r ≡ get_or list i r → r.pcr < length values
    → ((pcr : ℕ) → pcr < 24 → replay_on bank pcr (get_or values pcr None) (rows (drop i list)) ≡ total pcr)
    → (pcr : ℕ) → pcr < 24 → replay_on bank pcr (get_or (set values r.pcr (value_after bank (get_or values r.pcr None) (digest_at r.digests bank))) pcr None) (rows (drop (i + 1) list)) ≡ total pcr
all_next bank list i r values total lt is within so_far pcr below =
    elim (cases_eq r.pcr pcr) [
      | inl same ↦
          ap (λ o. replay_on bank pcr o (rows (drop (i + 1) list))) (ap (λ k. get_or (set values k (value_after bank (get_or values k None) (digest_at r.digests bank))) pcr None) same ∙ get_or-set_same values pcr (value_after bank (get_or values pcr None) (digest_at r.digests bank)) None (subst (λ k. k < length values) same within))
          ∙ on_takes bank pcr (get_or values pcr None) (digest_at r.digests bank) (row r) (rows (drop (i + 1) list)) (eq-eqb _ _ same) (listed_is bank r.digests)
          ∙ ap (replay_on bank pcr (get_or values pcr None)) (sym (next list i r lt is)) ∙ so_far pcr below
      | inr other ↦
          ap (λ o. replay_on bank pcr o (rows (drop (i + 1) list))) (get_or-set_other values r.pcr pcr (value_after bank (get_or values r.pcr None) (digest_at r.digests bank)) None (λ e. other (sym e)))
          ∙ on_skips bank pcr (get_or values pcr None) (row r) (rows (drop (i + 1) list)) (ne_eqb _ _ other)
          ∙ ap (replay_on bank pcr (get_or values pcr None)) (sym (next list i r lt is)) ∙ so_far pcr below
    ]

-- one value more that has a fact, where each had it
pub facts_next : (P : List ℕ → Type 0) (values : List (Option (List ℕ))) (i : ℕ) (x : Option (List ℕ)) → i < length values → IfSome x P → ((k : ℕ) → k < 24 → IfSome (get_or values k None) P)
    → (k : ℕ) → k < 24 → IfSome (get_or (set values i x) k None) P
facts_next P values i x within here each k below =
    elim (cases_eq i k) [
      | inl same ↦ subst (λ j. IfSome (get_or (set values i x) j None) P) same (subst (λ o. IfSome o P) (sym (get_or-set_same values i x None within)) here)
      | inr other ↦ subst (λ o. IfSome o P) (sym (get_or-set_other values i k x None (λ e. other (sym e)))) (each k below)
    ]
