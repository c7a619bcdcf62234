-- The table of a prediction whose PCRs are taken together.
use Rattle.std.proofs.Common.{◌≡◌, ◌≢◌, ℕ, zero, suc, Bool, true, false, cond, ◌||◌, eqb, List, [], ◌∷◌, ◌+◌, ◌-◌, length, take, map, Option, Some, None, Result, Ok, refl, sym, ap, ◌∙◌, subst, inl, inr, arith}
use Rattle.std.specs.Prelude.{filter}
use Rattle.std.specs.List.{Contains, AllByRecursion, flat_map, range_with_len}
use Rattle.std.proofs.lemmas.Bool.{cases_eq, eq-eqb, ne_eqb}
use Rattle.hash_bank.specs.declared.banks.Banks.{Banks}
use Rattle.hash_bank.specs.Banks.{has_bank}
use Rattle.component_tree.specs.PlainTree.{PlainComponent}
use Rattle.policy_digest.specs.Mask.{has_pcr, mask_of, pcrs_of}
use Rattle.policy_digest.proofs.MaskOrder.{is_in, mask_bits, listed_back, rising_asked}
use Rattle.policy_digest.specs.Plain.{plain_row}
use Rattle.policy_digest.specs.PlainTable.{PlainRow, PlainTable}
use Rattle.policy_digest.specs.Table.{valid_table, values_eq}
use Rattle.policy_digest.specs.declared.table.Row.{Row}
use Rattle.record_match.specs.Choices.{choices}
use Rattle.record_match.specs.Extends.{variants_of}
use Rattle.predictor.specs.Cuts.{is_inside, cuts_between}
use Rattle.predictor.specs.Foreseen.{first_cut, last_cut, foreseen_joint, over_cuts, too_many_at, lacking_in_any}
use Rattle.predictor.specs.Protected.{◌>>=◌, kept_or_cause, kept_of, joint_row, joint_rows, refused_for, protection, protected_joint, protected_of}
use Rattle.predictor.specs.States.{states_after}
use Rattle.predictor.specs.declared.error.ProtectError.{ProtectError}
use Rattle.predictor.specs.declared.protection.Cause.{Cause}
use Rattle.predictor.specs.declared.protection.LeftOut.{LeftOut}
use Rattle.predictor.specs.declared.protection.Protection.{Protection}
use Rattle.predictor.proofs.Repeats.{values_tell}
use Rattle.predictor.proofs.Sound.{HasVariants, cuts_in_order}
use Rattle.predictor.proofs.Valid.{bind_ok, ok_is, refused_ok, kept_rises, plain_valid}
use Rattle.predict_proof.proofs.Members.{first_in, later_in, first_or_later, mapped_in, mapped_from, joined_in, joined_from, distinct_in, range_in}
use Rattle.tpm_model.specs.Opening.{Open}
use Rattle.tpm_model.specs.Pcrs.{pcr_of, HasValues}
use Rattle.tpm_walks.specs.ByValues.{IsMet, IsOpenByValues}
use Rattle.tpm_walks.proofs.OpenTables.{opens_joined}
use Rattle.forecasts.specs.Forecast.{Forecast, Holds, HoldsBy, HoldTogether, IsBootState, IsProtected, IsInRow, TableOf, inside, before_cut, measured_by}
use Rattle.forecasts.proofs.Found.{nothing_in, put_all_from}
use Rattle.forecasts.proofs.Explained.{explained, stands}
use Rattle.forecasts.proofs.Foreseeing.{given_list}
use Rattle.forecasts.proofs.Opened.{by_values, standing}

abbrev protected : Result (Option Cause) ProtectError
protected = Ok None

-- ---- the protected ones

record AreKept (standing : ℕ → Result (Option Cause) ProtectError) (pcrs kept : List ℕ) : Type 0 where
  each : (p : ℕ) → Contains kept p → Contains pcrs p × (standing p ≡ protected)
  all : (p : ℕ) → Contains pcrs p → standing p ≡ protected → Contains kept p

module _ (standing : ℕ → Result (Option Cause) ProtectError) where
  one_more : (p : ℕ) (pcrs : List ℕ) (cause : Option Cause) (rest : List ℕ × List LeftOut) → standing p ≡ Ok cause → AreKept standing pcrs rest.0 → AreKept standing (p ∷ pcrs) (kept_or_cause p cause rest).0
  one_more p pcrs None rest s a = record {
    each = λ q h. elim (first_or_later p rest.0 q h) [
      | inl here ↦ subst (λ r. Contains (p ∷ pcrs) r × (standing r ≡ protected)) here (first_in p pcrs, s)
      | inr later ↦ let r = a.each q later in (later_in p pcrs q r.0, r.1)
    ];
    all = λ q h on. elim (first_or_later p pcrs q h) [
      | inl here ↦ subst (Contains (p ∷ rest.0)) here (first_in p rest.0)
      | inr later ↦ later_in p rest.0 q (a.all q later on)
    ];
  }
  one_more p pcrs (Some cause) rest s a = record {
    each = λ q h. let r = a.each q h in (later_in p pcrs q r.0, r.1);
    all = λ q h on. elim (first_or_later p pcrs q h) [
      | inl here ↦ let e : protected ≡ Ok (Some cause) = sym on ∙ ap standing (sym here) ∙ s in absurd cc
      | inr later ↦ a.all q later on
    ];
  }

  kept_are : (pcrs : List ℕ) (found : List ℕ × List LeftOut) → kept_of standing pcrs ≡ Ok found → AreKept standing pcrs found.0
  kept_are [] found e =
      let is : ([], []) ≡ found = ok_is ([], []) found e in
      subst (λ (g : List ℕ × List LeftOut). AreKept standing [] g.0) is (record { each = λ p h. absurd (nothing_in p h); all = λ p h on. h })
  kept_are (p ∷ pcrs) found e =
      let s = bind_ok (standing p) (λ cause. kept_of standing pcrs >>= λ rest. Ok (kept_or_cause p cause rest)) found e in
      let r = bind_ok (kept_of standing pcrs) (λ rest. Ok (kept_or_cause p s.0 rest)) found s.2 in
      subst (λ (g : List ℕ × List LeftOut). AreKept standing (p ∷ pcrs) g.0) (ok_is (kept_or_cause p s.0 r.0) found r.2) (one_more p pcrs s.0 r.0 s.1 (kept_are pcrs r.0 r.1))

in_from : (pcrs : List ℕ) (p : ℕ) → is_in pcrs p ≡ true → Contains pcrs p
in_from [] p h = absurd cc
in_from (q ∷ pcrs) p h =
    elim (cases_eq q p) [
      | inl same ↦ subst (Contains (q ∷ pcrs)) same (first_in q pcrs)
      | inr other ↦ later_in q pcrs p (in_from pcrs p (ap (λ b. b || is_in pcrs p) (sym (ne_eqb q p other)) ∙ h))
    ]

is_in_of : (pcrs : List ℕ) (p : ℕ) → Contains pcrs p → is_in pcrs p ≡ true
is_in_of [] p h = absurd (nothing_in p h)
is_in_of (q ∷ pcrs) p h =
    elim (first_or_later q pcrs p h) [
      | inl here ↦ ap (λ b. b || is_in pcrs p) (eq-eqb q p here)
      | inr later ↦ ap (λ b. eqb q p || b) (is_in_of pcrs p later) ∙ elim (eqb q p) as (λ b. (b || true) ≡ true) [ true ↦ refl | false ↦ refl ]
    ]

-- ---- one choice

a_choice : (components : List PlainComponent) → HasVariants components → (c : List ℕ) × Contains (choices (variants_of components)) c
a_choice [] h = ([], first_in [] [])
a_choice (c ∷ components) h =
    let r = a_choice components h.1 in
    let prefixed : ℕ → List (List ℕ) = λ v. map (λ choice. v ∷ choice) (choices (variants_of components)) in
    (0 ∷ r.0, joined_in prefixed (range_with_len 0 (length c.variants)) 0 (0 ∷ r.0) (range_in 0 (length c.variants) 0 (omega arith) (omega (arith, h.0))) (mapped_in (λ choice. 0 ∷ choice) (choices (variants_of components)) r.0 r.1))

filtered : (p : PlainComponent → Bool) (components : List PlainComponent) → HasVariants components → HasVariants (filter p components)
filtered p [] h = tt
filtered p (c ∷ components) h =
    elim (p c) as (λ b. HasVariants (cond b (c ∷ filter p components) (filter p components))) [ true ↦ (h.0, filtered p components h.1) | false ↦ filtered p components h.1 ]

taken : (k : ℕ) (components : List PlainComponent) → HasVariants components → HasVariants (take k components)
taken zero components h = tt
taken (suc k) [] h = tt
taken (suc k) (c ∷ components) h = (h.0, taken k components h.1)

same_heads : (a b : Option (List ℕ)) (xs ys : List (Option (List ℕ))) → a ∷ xs ≡ b ∷ ys → (a ≡ b) × (xs ≡ ys)
same_heads a b xs ys e = (cc, cc)

same_at : (g : ℕ → Option (List ℕ)) (h : ℕ → List ℕ) (xs : List ℕ) (x : ℕ) → map g xs ≡ map Some (map h xs) → Contains xs x → g x ≡ Some (h x)
same_at g h [] x e at = absurd (nothing_in x at)
same_at g h (y ∷ xs) x e at =
    let parts = same_heads (g y) (Some (h y)) (map g xs) (map Some (map h xs)) e in
    elim (first_or_later y xs x at) [
      | inl here ↦ subst (λ z. g z ≡ Some (h z)) here parts.0
      | inr later ↦ same_at g h xs x parts.1 later
    ]

same_all : (g : ℕ → Option (List ℕ)) (h : ℕ → List ℕ) (xs : List ℕ) → ((x : ℕ) → Contains xs x → g x ≡ Some (h x)) → map g xs ≡ map Some (map h xs)
same_all g h [] each = refl
same_all g h (y ∷ xs) each =
    ap (λ o. o ∷ map g xs) (each y (first_in y xs)) ∙ ap (λ (os : List (Option (List ℕ))). Some (h y) ∷ os) (same_all g h xs (λ x at. each x (later_in y xs x at)))

module _ (f : Forecast) where
  module _ (pcrs : List ℕ) where
    abbrev reach : ℕ → List (List (List ℕ))
    reach k = states_after f.bank f.locality pcrs (before_cut f k)

    abbrev cuts : List ℕ
    cuts = cuts_between (first_cut f.window f.components) (last_cut f.window f.components)

    abbrev state_of : ℕ → List ℕ → List (List ℕ)
    state_of k c = map (measured_by f k c) pcrs

    is_over : (list : List (List (List ℕ))) → foreseen_joint f.bank f.locality pcrs f.window f.components ≡ Ok list → over_cuts values_eq reach cuts ≡ list
    unfolding foreseen_joint
    is_over list e =
        given_list (lacking_in_any f.bank pcrs (inside f)) (too_many_at values_eq reach (first_cut f.window f.components) (last_cut f.window f.components)) (over_cuts values_eq reach cuts) list e

    state_from : (list : List (List (List ℕ))) (state : List (List ℕ)) → foreseen_joint f.bank f.locality pcrs f.window f.components ≡ Ok list → Contains list state
        → (k : ℕ) × (c : List ℕ) × IsBootState f k c × (state_of k c ≡ state)
    state_from list state e h =
        let over : Contains (over_cuts values_eq reach cuts) state = subst (λ (l : List (List (List ℕ))). Contains l state) (sym (is_over list e)) h in
        let some : Contains (flat_map reach cuts) state = elim (put_all_from values_eq [] (flat_map reach cuts) state over) [ inl none ↦ absurd (nothing_in state none) | inr there ↦ there ] in
        let cut = joined_from reach cuts state some in
        let choice = mapped_from (state_of cut.0) (choices (variants_of (before_cut f cut.0))) state cut.2 in
        (cut.0, choice.0, record { in_window = cut.1; chosen = choice.1 }, choice.2)

    state_in : (list : List (List (List ℕ))) (k : ℕ) (c : List ℕ) → foreseen_joint f.bank f.locality pcrs f.window f.components ≡ Ok list → IsBootState f k c → Contains list (state_of k c)
    state_in list k c e state =
        subst (λ (l : List (List (List ℕ))). Contains l (state_of k c)) (is_over list e)
        (distinct_in values_eq values_tell (flat_map reach cuts) (state_of k c)
        (joined_in reach cuts k (state_of k c) state.in_window
        (mapped_in (state_of k) (choices (variants_of (before_cut f k))) c state.chosen)))

  -- some boot is foreseen
  some_state : HasVariants f.components → (k : ℕ) × (c : List ℕ) × IsBootState f k c
  some_state variants =
      let tree = f.components in
      let first = first_cut f.window tree in
      let le = cuts_in_order f.window tree in
      let c = a_choice (before_cut f first) (taken first (inside f) (filtered (is_inside f.window.end) tree variants)) in
      (first, c.0, record { in_window = range_in first (last_cut f.window tree + 1 - first) first (omega arith) (omega (arith, le)); chosen = c.1 })

  -- no row for no PCR, or one row of the states of all
  abbrev AreJointRows : List ℕ → List Row → Type 0
  AreJointRows [] rows = rows ≡ []
  AreJointRows (p ∷ pcrs) rows = (list : List (List (List ℕ))) × (foreseen_joint f.bank f.locality (p ∷ pcrs) f.window f.components ≡ Ok list) × (rows ≡ joint_row (p ∷ pcrs) list ∷ [])

  rows_are : (kept : List ℕ) (rows : List Row) → joint_rows (λ pcrs. foreseen_joint f.bank f.locality pcrs f.window f.components) kept ≡ Ok rows → AreJointRows kept rows
  rows_are [] rows e = sym (ok_is [] rows e)
  rows_are (p ∷ pcrs) rows e =
      let states = foreseen_joint f.bank f.locality (p ∷ pcrs) f.window f.components in
      let l = bind_ok (refused_for p states) (λ list. Ok (joint_row (p ∷ pcrs) list ∷ [])) rows e in
      (l.0, refused_ok p states l.0 l.1, sym (ok_is (joint_row (p ∷ pcrs) l.0 ∷ []) rows l.2))

  record IsJointTable (p : Protection) : Type 0 where
    bank : p.table.bank ≡ f.bank
    kept : List ℕ
    are : AreKept (standing f) (pcrs_of f.asked) kept
    back : pcrs_of (mask_of kept) ≡ kept
    rows : AreJointRows kept p.table.rows

  joint_table : (p : Protection) → protected_joint f.components f.window (pcrs_of f.asked) f.bank f.log f.locality f.now ≡ Ok p → IsJointTable p
  unfolding protected_joint
  joint_table p e =
      let states = λ (pcrs : List ℕ). foreseen_joint f.bank f.locality pcrs f.window f.components in
      let k = bind_ok (kept_of (standing f) (pcrs_of f.asked)) (λ found. joint_rows states found.0 >>= λ rows. Ok (protection f.bank rows found.1)) p e in
      let r = bind_ok (joint_rows states k.0.0) (λ rows. Ok (protection f.bank rows k.0.1)) p k.2 in
      subst IsJointTable (ok_is (protection f.bank r.0 k.0.1) p r.2) (record {
        bank = refl;
        kept = k.0.0;
        are = kept_are (standing f) (pcrs_of f.asked) k.0 k.1;
        back = listed_back k.0.0 (kept_rises (standing f) (pcrs_of f.asked) 0 k.0 (rising_asked f.asked) k.1);
        rows = rows_are k.0.0 r.0 r.1;
      })

  is_joint : f.joint ≡ true → (table : PlainTable) (t : TableOf f table) → IsJointTable t.protection
  is_joint joint table t =
      joint_table t.protection (ap (λ b. protected_of b f.components f.window f.asked f.bank f.log f.locality f.now) (sym joint) ∙ t.given)

  protected_kept : (kept : List ℕ) → AreKept (standing f) (pcrs_of f.asked) kept → (p : ℕ) → Contains kept p → IsProtected f p
  protected_kept kept are p h = let r = are.each p h in record { asked = r.0; explained = explained f p r.1 }

  kept_protected : (kept : List ℕ) → AreKept (standing f) (pcrs_of f.asked) kept → (p : ℕ) → IsProtected f p → Contains kept p
  kept_protected kept are p x = are.all p x.asked (stands f p x.explained)

  in_rows : (kept : List ℕ) (rows : List Row) → AreJointRows kept rows → (row : PlainRow) (p : ℕ) → Contains (map plain_row rows) row → has_pcr row.pcrs p ≡ true → Contains kept p
  in_rows [] rows is row p h on = absurd (nothing_in row (subst (λ (l : List Row). Contains (map plain_row l) row) is h))
  in_rows (q ∷ pcrs) rows is row p h on =
      let only : Contains (plain_row (joint_row (q ∷ pcrs) is.0) ∷ []) row = subst (λ (l : List Row). Contains (map plain_row l) row) is.2 h in
      elim (first_or_later (plain_row (joint_row (q ∷ pcrs) is.0)) [] row only) [
        | inl here ↦ in_from (q ∷ pcrs) p (sym (mask_bits (q ∷ pcrs) p) ∙ ap (λ (x : PlainRow). has_pcr x.pcrs p) here ∙ on)
        | inr later ↦ absurd (nothing_in row later)
      ]

  rows_have : (kept : List ℕ) (rows : List Row) → AreJointRows kept rows → (p : ℕ) → Contains kept p → (row : PlainRow) × Contains (map plain_row rows) row × (has_pcr row.pcrs p ≡ true)
  rows_have [] rows is p h = absurd (nothing_in p h)
  rows_have (q ∷ pcrs) rows is p h =
      let row = plain_row (joint_row (q ∷ pcrs) is.0) in
      (row, subst (λ (l : List Row). Contains (map plain_row l) row) (sym is.2) (first_in row []), mask_bits (q ∷ pcrs) p ∙ is_in_of (q ∷ pcrs) p h)

  pub protects_together : f.joint ≡ true → (table : PlainTable) → TableOf f table → (p : ℕ) → (IsInRow table p → IsProtected f p) × (IsProtected f p → IsInRow table p)
  protects_together joint table t p =
      let is = is_joint joint table t in (
        λ i. protected_kept is.kept is.are p (in_rows is.kept t.protection.table.rows is.rows i.row p (subst (λ (x : PlainTable). Contains x.rows i.row) t.is i.listed) i.in_mask),
        λ x. let r = rows_have is.kept t.protection.table.rows is.rows p (kept_protected is.kept is.are p x) in
            record { row = r.0; listed = subst (λ (y : PlainTable). Contains y.rows r.0) (sym t.is) r.1; in_mask = r.2 },
      )

  first_kept : (kept : List ℕ) (rows : List Row) → AreKept (standing f) (pcrs_of f.asked) kept → AreJointRows kept rows → rows ≢ [] → (p : ℕ) × IsProtected f p
  first_kept [] rows are is some = absurd (some is)
  first_kept (p ∷ pcrs) rows are is some = (p, protected_kept (p ∷ pcrs) are p (first_in p pcrs))

  -- where the table has a row, a PCR is protected
  pub protects_some_together : f.joint ≡ true → (table : PlainTable) → TableOf f table → table.rows ≢ [] → (p : ℕ) × IsProtected f p
  protects_some_together joint table t some =
      let is = is_joint joint table t in
      first_kept is.kept t.protection.table.rows is.are is.rows (λ none. some (ap (λ (x : PlainTable). x.rows) t.is ∙ ap (map plain_row) none))

  module _ (banks : Banks) (pcrs : List (List ℕ)) where
    abbrev Hold : List ℕ → Type 0
    Hold kept = (k : ℕ) × (c : List ℕ) × IsBootState f k c × ((p : ℕ) → Contains kept p → pcr_of banks pcrs f.bank p ≡ Some (measured_by f k c p))

    hold_by : HasVariants f.components → (kept : List ℕ) (rows : List Row) → pcrs_of (mask_of kept) ≡ kept → AreJointRows kept rows → AllByRecursion (IsMet f.bank banks pcrs) rows → Hold kept
    hold_by variants [] rows back is met = let s = some_state variants in (s.0, s.1, s.2, λ p h. absurd (nothing_in p h))
    hold_by variants (q ∷ rest) rows back is met =
        let row = joint_row (q ∷ rest) is.0 in
        let here : IsMet f.bank banks pcrs row = (subst (AllByRecursion (IsMet f.bank banks pcrs)) is.2 met).0 in
        let s = state_from (q ∷ rest) is.0 here.choice is.1 here.listed in
        let same : map (pcr_of banks pcrs f.bank) (q ∷ rest) ≡ map Some (map (measured_by f s.0 s.1) (q ∷ rest)) = ap (map (pcr_of banks pcrs f.bank)) (sym back) ∙ here.holds ∙ ap (map Some) (sym s.3) in
        (s.0, s.1, s.2, λ p h. same_at (pcr_of banks pcrs f.bank) (measured_by f s.0 s.1) (q ∷ rest) p same h)

    met_where : (kept : List ℕ) (rows : List Row) → pcrs_of (mask_of kept) ≡ kept → AreJointRows kept rows → Hold kept → AllByRecursion (IsMet f.bank banks pcrs) rows
    met_where [] rows back is now = subst (AllByRecursion (IsMet f.bank banks pcrs)) (sym is) tt
    met_where (q ∷ rest) rows back is now =
        let here : IsMet f.bank banks pcrs (joint_row (q ∷ rest) is.0) = record {
          choice = map (measured_by f now.0 now.1) (q ∷ rest);
          listed = state_in (q ∷ rest) is.0 now.0 now.1 is.1 now.2;
          holds = ap (map (pcr_of banks pcrs f.bank)) back ∙ same_all (pcr_of banks pcrs f.bank) (measured_by f now.0 now.1) (q ∷ rest) now.3;
        } in
        subst (AllByRecursion (IsMet f.bank banks pcrs)) (sym is.2) (here, tt)

    pub opens_together : f.joint ≡ true → HasValues banks pcrs → (table : PlainTable) → TableOf f table → Open table banks pcrs → (has_bank banks f.bank ≡ true) × Holds f (pcr_of banks pcrs f.bank)
    opens_together joint has table t open_now =
        let is = is_joint joint table t in
        let valid : t.protection.table.rows ≢ [] → valid_table t.protection.table ≡ true =
        plain_valid f.joint f.components f.window f.asked f.bank f.log f.locality f.now t.protection t.variants t.given in
        let by = by_values t.protection.table t.protection.table.rows banks pcrs refl valid has (subst (λ (x : PlainTable). Open x banks pcrs) t.is open_now) in
        let met : AllByRecursion (IsMet f.bank banks pcrs) t.protection.table.rows = subst (λ b. AllByRecursion (IsMet b banks pcrs) t.protection.table.rows) is.bank by.met in
        let h = hold_by t.variants is.kept t.protection.table.rows is.back is.rows met in
        let together : HoldTogether f (pcr_of banks pcrs f.bank) = record { cut = h.0; choice = h.1; state = h.2; hold = λ p x. h.3 p (kept_protected is.kept is.are p x) } in
        (ap (has_bank banks) (sym is.bank) ∙ by.present, subst (λ b. HoldsBy b f (pcr_of banks pcrs f.bank)) (sym joint) together)

    pub open_together : f.joint ≡ true → HasValues banks pcrs → (table : PlainTable) → TableOf f table → (has_bank banks f.bank ≡ true) × Holds f (pcr_of banks pcrs f.bank) → Open table banks pcrs
    open_together joint has table t now =
        let is = is_joint joint table t in
        let h : HoldTogether f (pcr_of banks pcrs f.bank) = subst (λ b. HoldsBy b f (pcr_of banks pcrs f.bank)) joint now.1 in
        let met = met_where is.kept t.protection.table.rows is.back is.rows (h.cut, h.choice, h.state, λ p at. h.hold p (protected_kept is.kept is.are p at)) in
        let by : IsOpenByValues t.protection.table banks pcrs = record { present = ap (has_bank banks) is.bank ∙ now.0; met = subst (λ b. AllByRecursion (IsMet b banks pcrs) t.protection.table.rows) (sym is.bank) met } in
        subst (λ (x : PlainTable). Open x banks pcrs) (sym t.is) (opens_joined t.protection.table banks pcrs has by)
