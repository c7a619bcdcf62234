-- The rows of PCRs that are taken each by itself.
use Rattle.std.proofs.Common.{◌≡◌, ℕ, List, [], ◌∷◌, Option, Some, None, Result, Ok, refl, sym, ap, ◌∙◌, subst, inl, inr}
use Rattle.std.specs.List.{Contains}
use Rattle.policy_digest.specs.declared.table.Row.{Row}
use Rattle.predictor.specs.declared.error.ProtectError.{ProtectError}
use Rattle.predictor.specs.declared.protection.Cause.{Cause}
use Rattle.predictor.specs.declared.protection.LeftOut.{LeftOut}
use Rattle.predictor.specs.Protected.{◌>>=◌, row_of, row_or_cause, rows_of, where_replayed}
use Rattle.predictor.proofs.Valid.{bind_ok, ok_is}
use Rattle.predict_proof.proofs.Members.{first_in, later_in, first_or_later}
use Rattle.forecasts.proofs.Found.{nothing_in}

abbrev protected : Result (Option Cause) ProtectError
protected = Ok None

module _ (standing : ℕ → Result (Option Cause) ProtectError) (values : ℕ → Result (List (List ℕ)) ProtectError) where
  -- the row is that of a protected one of these PCRs
  pub record IsRowOf (pcrs : List ℕ) (row : Row) : Type 0 where
    pub pcr : ℕ
    pub list : List (List ℕ)
    pub among : Contains pcrs pcr
    pub stands : standing pcr ≡ protected
    pub given : values pcr ≡ Ok list
    pub is : row ≡ row_of pcr list

  -- the PCR has a row
  pub record HasRow (rows : List Row) (pcr : ℕ) : Type 0 where
    pub list : List (List ℕ)
    pub given : values pcr ≡ Ok list
    pub there : Contains rows (row_of pcr list)

  pub record AreRowsOf (pcrs : List ℕ) (rows : List Row) : Type 0 where
    pub each : (row : Row) → Contains rows row → IsRowOf pcrs row
    pub all : (p : ℕ) → Contains pcrs p → standing p ≡ protected → HasRow rows p

  more : (p : ℕ) (pcrs : List ℕ) (row : Row) → IsRowOf pcrs row → IsRowOf (p ∷ pcrs) row
  more p pcrs row r = record { pcr = r.pcr; list = r.list; among = later_in p pcrs r.pcr r.among; stands = r.stands; given = r.given; is = r.is }

  one_more : (p : ℕ) (pcrs : List ℕ) (cause : Option Cause) (list : List (List ℕ)) (rest : List Row × List LeftOut) → standing p ≡ Ok cause → where_replayed cause (values p) ≡ Ok list
      → AreRowsOf pcrs rest.0 → AreRowsOf (p ∷ pcrs) (row_or_cause p cause list rest).0
  one_more p pcrs None list rest s v a = record {
    each = λ row h. elim (first_or_later (row_of p list) rest.0 row h) [
      | inl here ↦ record { pcr = p; list = list; among = first_in p pcrs; stands = s; given = v; is = sym here }
      | inr later ↦ more p pcrs row (a.each row later)
    ];
    all = λ q h stands. elim (first_or_later p pcrs q h) [
      | inl here ↦ subst (HasRow (row_of p list ∷ rest.0)) here (record { list = list; given = v; there = first_in (row_of p list) rest.0 })
      | inr later ↦ let r = a.all q later stands in record { list = r.list; given = r.given; there = later_in (row_of p list) rest.0 (row_of q r.list) r.there }
    ];
  }
  one_more p pcrs (Some cause) list rest s v a = record {
    each = λ row h. more p pcrs row (a.each row h);
    all = λ q h stands. elim (first_or_later p pcrs q h) [
      | inl here ↦ let e : protected ≡ Ok (Some cause) = sym stands ∙ ap standing (sym here) ∙ s in absurd cc
      | inr later ↦ a.all q later stands
    ];
  }

  pub rows_are : (pcrs : List ℕ) (found : List Row × List LeftOut) → rows_of standing values pcrs ≡ Ok found → AreRowsOf pcrs found.0
  rows_are [] found e =
      let is : ([], []) ≡ found = ok_is ([], []) found e in
      subst (λ (g : List Row × List LeftOut). AreRowsOf [] g.0) is (record { each = λ row h. absurd (nothing_in row h); all = λ p h stands. absurd (nothing_in p h) })
  rows_are (p ∷ pcrs) found e =
      let s = bind_ok (standing p) (λ cause. where_replayed cause (values p) >>= λ list. rows_of standing values pcrs >>= λ rest. Ok (row_or_cause p cause list rest)) found e in
      let v = bind_ok (where_replayed s.0 (values p)) (λ list. rows_of standing values pcrs >>= λ rest. Ok (row_or_cause p s.0 list rest)) found s.2 in
      let r = bind_ok (rows_of standing values pcrs) (λ rest. Ok (row_or_cause p s.0 v.0 rest)) found v.2 in
      let is : row_or_cause p s.0 v.0 r.0 ≡ found = ok_is (row_or_cause p s.0 v.0 r.0) found r.2 in
      subst (λ (g : List Row × List LeftOut). AreRowsOf (p ∷ pcrs) g.0) is (one_more p pcrs s.0 v.0 r.0 s.1 v.1 (rows_are pcrs r.0 r.1))
