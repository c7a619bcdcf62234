-- The asked PCRs one after the other: what those that are done give, before what the others give.
use Rattle.std.proofs.Common.{◌≡◌, ℕ, ◌+◌, ◌<◌, List, [], ◌∷◌, ◌++◌, length, get_or, drop, Option, Some, None, Result, Ok, Err, refl, sym, ap, ◌∙◌, append_assoc}
use Rattle.std.proofs.lemmas.List.{append-nil, get_or_default}
use Rattle.record_match.proofs.Plainly.{next}
use Rattle.hash_bank.specs.declared.bank.Bank.{Bank}
use Rattle.component_tree.specs.PlainTree.{PlainComponent}
use Rattle.pcr_replay.specs.Row.{Row as LogRow}
use Rattle.policy_digest.specs.declared.table.Row.{Row}
use Rattle.predictor.specs.declared.error.ProtectError.{ProtectError}
use Rattle.predictor.specs.declared.error.ProtectError.TheVariants as errors
use Rattle.predictor.specs.declared.protection.Cause.{Cause}
use Rattle.predictor.specs.declared.protection.LeftOut.{LeftOut}
use Rattle.predictor.specs.declared.window.Window.{Window}
use Rattle.predictor.specs.Cuts.{inside_of}
use Rattle.predictor.specs.Foreseen.{foreseen}
use Rattle.predictor.specs.Protected.{◌>>=◌, standing_of, standing_in, refused_for, where_replayed, row_of, left_out, row_or_cause, rows_of, kept_or_cause, kept_of, protection, protected_each, Refuses}
use Rattle.predictor.specs.Sorting.{TakesRow, TakesPcr}

-- a refusal is that of the whole
pub refuses_whole : {A B : Type 0} (e : ProtectError) (step : Result A ProtectError) (whole : Result B ProtectError) → ((d : ProtectError) → step ≡ Err d → whole ≡ Err d) → Refuses e step → Refuses e whole
refuses_whole (errors.NoDigest i v n) step whole by h = by (errors.NoDigest i v n) h
refuses_whole (errors.TooMany p k) step whole by h = by (errors.TooMany p k) h
refuses_whole errors.Memory step whole by h = tt

-- ---- rows

abbrev pub before_rows : List Row → List LeftOut → Result (List Row × List LeftOut) ProtectError → Result (List Row × List LeftOut) ProtectError
before_rows rows left (Ok rest) = Ok (rows ++ rest.0, left ++ rest.1)
before_rows rows left (Err e) = Err e

-- one PCR that is done
row_taken : (p : ℕ) (cause : Option Cause) (list : List (List ℕ)) (rows rows' : List Row) (left left' : List LeftOut) (rest : Result (List Row × List LeftOut) ProtectError) → TakesRow p cause list rows rows' left left'
    → before_rows rows left (rest >>= λ more. Ok (row_or_cause p cause list more)) ≡ before_rows rows' left' rest
row_taken p cause list rows rows' left left' (Err e) t = refl
row_taken p None list rows rows' left left' (Ok more) t =
    ap (λ (rs : List Row). Ok (rs, left ++ more.1)) (sym (append_assoc rows (row_of p list ∷ []) more.0) ∙ ap (λ (rs : List Row). rs ++ more.0) (sym t.0)) ∙ ap (λ (ls : List LeftOut). Ok (rows' ++ more.0, ls ++ more.1)) (sym t.1)
row_taken p (Some cause) list rows rows' left left' (Ok more) t =
    ap (λ (ls : List LeftOut). Ok (rows ++ more.0, ls)) (sym (append_assoc left (left_out p cause ∷ []) more.1) ∙ ap (λ (ls : List LeftOut). ls ++ more.1) (sym t.1)) ∙ ap (λ (rs : List Row). Ok (rs ++ more.0, left' ++ more.1)) (sym t.0)

module _ (standing : ℕ → Result (Option Cause) ProtectError) (values : ℕ → Result (List (List ℕ)) ProtectError) where
  rows_step : (p : ℕ) (pcrs : List ℕ) (cause : Option Cause) (list : List (List ℕ)) → standing p ≡ Ok cause → where_replayed cause (values p) ≡ Ok list → rows_of standing values (p ∷ pcrs) ≡ (rows_of standing values pcrs >>= λ rest. Ok (row_or_cause p cause list rest))
  rows_step p pcrs cause list s v =
      ap (λ (r : Result (Option Cause) ProtectError). r >>= λ cause. where_replayed cause (values p) >>= λ list. rows_of standing values pcrs >>= λ rest. Ok (row_or_cause p cause list rest)) s
      ∙ ap (λ (r : Result (List (List ℕ)) ProtectError). r >>= λ list. rows_of standing values pcrs >>= λ rest. Ok (row_or_cause p cause list rest)) v

  pub row_next : (pcrs : List ℕ) (i p : ℕ) (cause : Option Cause) (list : List (List ℕ)) (rows rows' : List Row) (left left' : List LeftOut) (whole : Result (List Row × List LeftOut) ProtectError) → i < length pcrs → p ≡ get_or pcrs i p
      → standing p ≡ Ok cause → where_replayed cause (values p) ≡ Ok list → TakesRow p cause list rows rows' left left'
      → before_rows rows left (rows_of standing values (drop i pcrs)) ≡ whole → before_rows rows' left' (rows_of standing values (drop (i + 1) pcrs)) ≡ whole
  row_next pcrs i p cause list rows rows' left left' whole lt is s v t so_far =
      sym (row_taken p cause list rows rows' left left' (rows_of standing values (drop (i + 1) pcrs)) t)
      ∙ ap (before_rows rows left) (sym (rows_step p (drop (i + 1) pcrs) cause list s v) ∙ ap (rows_of standing values) (sym (next pcrs i p lt is))) ∙ so_far

  pub row_stands : (pcrs : List ℕ) (i p : ℕ) (e : ProtectError) (rows : List Row) (left : List LeftOut) (whole : Result (List Row × List LeftOut) ProtectError) → i < length pcrs → p ≡ get_or pcrs i p
      → Refuses e (standing p) → before_rows rows left (rows_of standing values (drop i pcrs)) ≡ whole → Refuses e whole
  row_stands pcrs i p e rows left whole lt is h so_far =
      refuses_whole e (standing p) whole (λ d s. sym so_far ∙ ap (λ (ps : List ℕ). before_rows rows left (rows_of standing values ps)) (next pcrs i p lt is)
      ∙ ap (λ (r : Result (Option Cause) ProtectError). before_rows rows left (r >>= λ cause. where_replayed cause (values p) >>= λ list. rows_of standing values (drop (i + 1) pcrs) >>= λ rest. Ok (row_or_cause p cause list rest))) s) h

  pub row_values : (pcrs : List ℕ) (i p : ℕ) (cause : Option Cause) (e : ProtectError) (rows : List Row) (left : List LeftOut) (whole : Result (List Row × List LeftOut) ProtectError) → i < length pcrs → p ≡ get_or pcrs i p
      → standing p ≡ Ok cause → Refuses e (where_replayed cause (values p)) → before_rows rows left (rows_of standing values (drop i pcrs)) ≡ whole → Refuses e whole
  row_values pcrs i p cause e rows left whole lt is s h so_far =
      refuses_whole e (where_replayed cause (values p)) whole (λ d v. sym so_far ∙ ap (λ (ps : List ℕ). before_rows rows left (rows_of standing values ps)) (next pcrs i p lt is)
      ∙ ap (λ (r : Result (Option Cause) ProtectError). before_rows rows left (r >>= λ cause. where_replayed cause (values p) >>= λ list. rows_of standing values (drop (i + 1) pcrs) >>= λ rest. Ok (row_or_cause p cause list rest))) s
      ∙ ap (λ (r : Result (List (List ℕ)) ProtectError). before_rows rows left (r >>= λ list. rows_of standing values (drop (i + 1) pcrs) >>= λ rest. Ok (row_or_cause p cause list rest))) v) h

  pub rows_start : (pcrs : List ℕ) (rows : List Row) (left : List LeftOut) → rows ≡ [] → left ≡ [] → before_rows rows left (rows_of standing values pcrs) ≡ rows_of standing values pcrs
  rows_start pcrs rows left r l = ap (λ (rs : List Row). before_rows rs left (rows_of standing values pcrs)) r ∙ ap (λ (ls : List LeftOut). before_rows [] ls (rows_of standing values pcrs)) l ∙ nothing (rows_of standing values pcrs)
    where
      nothing : (o : Result (List Row × List LeftOut) ProtectError) → before_rows [] [] o ≡ o
      nothing (Ok rest) = refl
      nothing (Err e) = refl

  pub rows_done : (pcrs : List ℕ) (i : ℕ) (rows : List Row) (left : List LeftOut) → drop i pcrs ≡ [] → before_rows rows left (rows_of standing values (drop i pcrs)) ≡ rows_of standing values pcrs → rows_of standing values pcrs ≡ Ok (rows, left)
  rows_done pcrs i rows left none so_far =
      sym so_far ∙ ap (λ (ps : List ℕ). before_rows rows left (rows_of standing values ps)) none ∙ ap (λ (rs : List Row). Ok (rs, left ++ [])) (append-nil rows) ∙ ap (λ (ls : List LeftOut). Ok (rows, ls)) (append-nil left)

-- ---- those kept

abbrev pub before_kept : List ℕ → List LeftOut → Result (List ℕ × List LeftOut) ProtectError → Result (List ℕ × List LeftOut) ProtectError
before_kept kept left (Ok rest) = Ok (kept ++ rest.0, left ++ rest.1)
before_kept kept left (Err e) = Err e

pcr_taken : (p : ℕ) (cause : Option Cause) (kept kept' : List ℕ) (left left' : List LeftOut) (rest : Result (List ℕ × List LeftOut) ProtectError) → TakesPcr p cause kept kept' left left'
    → before_kept kept left (rest >>= λ more. Ok (kept_or_cause p cause more)) ≡ before_kept kept' left' rest
pcr_taken p cause kept kept' left left' (Err e) t = refl
pcr_taken p None kept kept' left left' (Ok more) t =
    ap (λ (ps : List ℕ). Ok (ps, left ++ more.1)) (sym (append_assoc kept (p ∷ []) more.0) ∙ ap (λ (ps : List ℕ). ps ++ more.0) (sym t.0)) ∙ ap (λ (ls : List LeftOut). Ok (kept' ++ more.0, ls ++ more.1)) (sym t.1)
pcr_taken p (Some cause) kept kept' left left' (Ok more) t =
    ap (λ (ls : List LeftOut). Ok (kept ++ more.0, ls)) (sym (append_assoc left (left_out p cause ∷ []) more.1) ∙ ap (λ (ls : List LeftOut). ls ++ more.1) (sym t.1)) ∙ ap (λ (ps : List ℕ). Ok (ps ++ more.0, left' ++ more.1)) (sym t.0)

module _ (standing : ℕ → Result (Option Cause) ProtectError) where
  pub kept_next : (pcrs : List ℕ) (i p : ℕ) (cause : Option Cause) (kept kept' : List ℕ) (left left' : List LeftOut) (whole : Result (List ℕ × List LeftOut) ProtectError) → i < length pcrs → p ≡ get_or pcrs i p
      → standing p ≡ Ok cause → TakesPcr p cause kept kept' left left'
      → before_kept kept left (kept_of standing (drop i pcrs)) ≡ whole → before_kept kept' left' (kept_of standing (drop (i + 1) pcrs)) ≡ whole
  kept_next pcrs i p cause kept kept' left left' whole lt is s t so_far =
      sym (pcr_taken p cause kept kept' left left' (kept_of standing (drop (i + 1) pcrs)) t)
      ∙ ap (before_kept kept left) (sym (ap (λ (r : Result (Option Cause) ProtectError). r >>= λ cause. kept_of standing (drop (i + 1) pcrs) >>= λ rest. Ok (kept_or_cause p cause rest)) s) ∙ ap (kept_of standing) (sym (next pcrs i p lt is))) ∙ so_far

  pub kept_stands : (pcrs : List ℕ) (i p : ℕ) (e : ProtectError) (kept : List ℕ) (left : List LeftOut) (whole : Result (List ℕ × List LeftOut) ProtectError) → i < length pcrs → p ≡ get_or pcrs i p
      → Refuses e (standing p) → before_kept kept left (kept_of standing (drop i pcrs)) ≡ whole → Refuses e whole
  kept_stands pcrs i p e kept left whole lt is h so_far =
      refuses_whole e (standing p) whole (λ d s. sym so_far ∙ ap (λ (ps : List ℕ). before_kept kept left (kept_of standing ps)) (next pcrs i p lt is)
      ∙ ap (λ (r : Result (Option Cause) ProtectError). before_kept kept left (r >>= λ cause. kept_of standing (drop (i + 1) pcrs) >>= λ rest. Ok (kept_or_cause p cause rest))) s) h

  pub kept_start : (pcrs kept : List ℕ) (left : List LeftOut) → kept ≡ [] → left ≡ [] → before_kept kept left (kept_of standing pcrs) ≡ kept_of standing pcrs
  kept_start pcrs kept left r l = ap (λ (ps : List ℕ). before_kept ps left (kept_of standing pcrs)) r ∙ ap (λ (ls : List LeftOut). before_kept [] ls (kept_of standing pcrs)) l ∙ nothing (kept_of standing pcrs)
    where
      nothing : (o : Result (List ℕ × List LeftOut) ProtectError) → before_kept [] [] o ≡ o
      nothing (Ok rest) = refl
      nothing (Err e) = refl

  pub kept_done : (pcrs : List ℕ) (i : ℕ) (kept : List ℕ) (left : List LeftOut) → drop i pcrs ≡ [] → before_kept kept left (kept_of standing (drop i pcrs)) ≡ kept_of standing pcrs → kept_of standing pcrs ≡ Ok (kept, left)
  kept_done pcrs i kept left none so_far =
      sym so_far ∙ ap (λ (ps : List ℕ). before_kept kept left (kept_of standing ps)) none ∙ ap (λ (ps : List ℕ). Ok (ps, left ++ [])) (append-nil kept) ∙ ap (λ (ls : List LeftOut). Ok (kept, ls)) (append-nil left)

-- ---- a table with a row each

pub each_done : (tree : List PlainComponent) (window : Window) (asked : List ℕ) (bank : Bank) (log : List LogRow) (locality : ℕ) (now : List (List ℕ)) (rows : List Row) (left : List LeftOut)
    → rows_of (standing_in tree window bank log locality now) (λ p. refused_for p (foreseen bank locality p window tree)) asked ≡ Ok (rows, left) → protected_each tree window asked bank log locality now ≡ Ok (protection bank rows left)
unfolding protected_each
each_done tree window asked bank log locality now rows left h = ap (λ (r : Result (List Row × List LeftOut) ProtectError). r >>= λ found. Ok (protection bank found.0 found.1)) h

pub each_stops : (tree : List PlainComponent) (window : Window) (asked : List ℕ) (bank : Bank) (log : List LogRow) (locality : ℕ) (now : List (List ℕ)) (e : ProtectError)
    → Refuses e (rows_of (standing_in tree window bank log locality now) (λ p. refused_for p (foreseen bank locality p window tree)) asked) → Refuses e (protected_each tree window asked bank log locality now)
unfolding protected_each
each_stops tree window asked bank log locality now e h =
    refuses_whole e (rows_of (standing_in tree window bank log locality now) (λ p. refused_for p (foreseen bank locality p window tree)) asked) (protected_each tree window asked bank log locality now)
    (λ d r. ap (λ (r : Result (List Row × List LeftOut) ProtectError). r >>= λ found. Ok (protection bank found.0 found.1)) r) h

-- the present value of a PCR
pub held_now : (now : List (List ℕ)) (p : ℕ) (held : List ℕ) → p < length now → held ≡ get_or now p held → held ≡ get_or now p []
held_now now p held lt is = is ∙ get_or_default now p held [] lt

pub stands_in : (tree inside : List PlainComponent) (window : Window) (bank : Bank) (log : List LogRow) (locality : ℕ) (now : List (List ℕ)) (p : ℕ) (held : List ℕ) → inside ≡ inside_of window.end tree → p < length now → held ≡ get_or now p held
    → standing_of bank locality log inside held p ≡ standing_in tree window bank log locality now p
stands_in tree inside window bank log locality now p held is lt here =
    ap (λ (cs : List PlainComponent). standing_of bank locality log cs held p) is ∙ ap (λ (v : List ℕ). standing_of bank locality log (inside_of window.end tree) v p) (held_now now p held lt here)
