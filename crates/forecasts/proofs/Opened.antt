-- The table of a prediction whose PCRs are taken each by itself.
use Rattle.std.proofs.Common.{◌≡◌, ◌≢◌, ℕ, ◌^◌, Bool, true, false, List, [], ◌∷◌, map, Option, Some, Result, Ok, refl, sym, ap, ◌∙◌, subst, inl, inr, arith}
use Rattle.std.specs.Prelude.{filter}
use Rattle.std.specs.Int.{bit_at}
use Rattle.std.specs.List.{Contains, AllByRecursion, list_all, range_with_len}
use Rattle.std.specs.Str.{bytes_eq}
use Rattle.std.proofs.lemmas.Bool.{cases_eq, eq-eqb, eqb-true}
use Rattle.std.proofs.lemmas.Nat.Bits.{bit_at-pow_same, bit_at-pow_other}
use Rattle.hash_bank.specs.declared.banks.Banks.{Banks}
use Rattle.hash_bank.specs.Banks.{has_bank}
use Rattle.policy_digest.specs.Mask.{has_pcr, pcrs_of}
use Rattle.policy_digest.specs.Plain.{plain_row, plain_table}
use Rattle.policy_digest.specs.PlainTable.{PlainRow, PlainTable}
use Rattle.policy_digest.specs.Table.{valid_table}
use Rattle.policy_digest.specs.declared.table.Row.{Row}
use Rattle.policy_digest.specs.declared.table.Table.{Table}
use Rattle.predictor.specs.Foreseen.{foreseen}
use Rattle.predictor.specs.Protected.{row_of, rows_of, refused_for, protection, standing_in, protected_each, protected_of}
use Rattle.predictor.specs.declared.error.ProtectError.{ProtectError}
use Rattle.predictor.specs.declared.protection.Cause.{Cause}
use Rattle.predictor.specs.declared.protection.Protection.{Protection}
use Rattle.predictor.proofs.Repeats.{bytes_tell}
use Rattle.predictor.proofs.Valid.{bind_ok, ok_is, refused_ok, plain_valid}
use Rattle.predict_proof.proofs.Members.{first_in, mapped_in, mapped_from}
use Rattle.tpm_model.specs.Opening.{Open}
use Rattle.tpm_model.specs.Pcrs.{pcr_of, HasValues}
use Rattle.tpm_walks.specs.ByValues.{IsMet, IsOpenByValues}
use Rattle.tpm_walks.proofs.Members.{passes}
use Rattle.tpm_walks.proofs.OpenTables.{opens_by_values, opens_joined}
use Rattle.forecasts.specs.Forecast.{Forecast, Holds, HoldsBy, HoldsAlone, IsProtected, IsInRow, TableOf, measured_by}
use Rattle.forecasts.proofs.Found.{filter_from, all_at, all_from}
use Rattle.forecasts.proofs.Explained.{explained, stands}
use Rattle.forecasts.proofs.Foreseeing.{value_from, value_in}
use Rattle.forecasts.proofs.EachRow.{AreRowsOf, rows_are}

-- ---- the mask of one PCR

lone_mask : (q p : ℕ) → has_pcr (2 ^ q) p ≡ true → q ≡ p
lone_mask q p on =
    elim (cases_eq q p) [
      | inl same ↦ same
      | inr other ↦
          let off : bit_at (2 ^ q) p ≡ 0 = bit_at-pow_other q p (λ e. other (sym e)) in
          let one : bit_at (2 ^ q) p ≡ 1 = eqb-true (bit_at (2 ^ q) p) 1 on in
          absurd (omega arith)
    ]

abbrev is_lone : ℕ → Bool
is_lone p = bytes_eq (filter (has_pcr (2 ^ p)) (range_with_len 0 24)) (p ∷ [])

all_lone : list_all is_lone (range_with_len 0 24) ≡ true
all_lone = refl

lone : (asked p : ℕ) → Contains (pcrs_of asked) p → pcrs_of (2 ^ p) ≡ p ∷ []
unfolding pcrs_of
lone asked p h =
    bytes_tell.equal (filter (has_pcr (2 ^ p)) (range_with_len 0 24)) (p ∷ []) (passes is_lone (range_with_len 0 24) p all_lone (filter_from (has_pcr asked) (range_with_len 0 24) p h))

-- ---- a table without rows too

pub by_values : (table : Table) (rows : List Row) (banks : Banks) (pcrs : List (List ℕ)) → table.rows ≡ rows → (table.rows ≢ [] → valid_table table ≡ true) → HasValues banks pcrs → Open (plain_table table) banks pcrs
    → IsOpenByValues table banks pcrs
by_values table [] banks pcrs e valid has open_now = record { present = open_now.present; met = subst (AllByRecursion (IsMet table.bank banks pcrs)) (sym e) tt }
by_values table (row ∷ rows) banks pcrs e valid has open_now = opens_by_values table banks pcrs (valid (λ none. let no : [] ≡ row ∷ rows = sym none ∙ e in absurd cc)) has open_now

same_first : (a b : Option (List ℕ)) → a ∷ [] ≡ b ∷ [] → a ≡ b
same_first a b e = cc

module _ (f : Forecast) where
  abbrev pub standing : ℕ → Result (Option Cause) ProtectError
  standing = standing_in f.components f.window f.bank f.log f.locality f.now

  abbrev values : ℕ → Result (List (List ℕ)) ProtectError
  values p = refused_for p (foreseen f.bank f.locality p f.window f.components)

  record IsEachTable (p : Protection) : Type 0 where
    bank : p.table.bank ≡ f.bank
    rows : AreRowsOf standing values (pcrs_of f.asked) p.table.rows

  each_table : (p : Protection) → protected_each f.components f.window (pcrs_of f.asked) f.bank f.log f.locality f.now ≡ Ok p → IsEachTable p
  unfolding protected_each
  each_table p e =
      let r = bind_ok (rows_of standing values (pcrs_of f.asked)) (λ found. Ok (protection f.bank found.0 found.1)) p e in
      let is : protection f.bank r.0.0 r.0.1 ≡ p = ok_is (protection f.bank r.0.0 r.0.1) p r.2 in
      subst IsEachTable is (record { bank = refl; rows = rows_are standing values (pcrs_of f.asked) r.0 r.1 })

  is_each : f.joint ≡ false → (table : PlainTable) (t : TableOf f table) → IsEachTable t.protection
  is_each alone table t =
      each_table t.protection (ap (λ b. protected_of b f.components f.window f.asked f.bank f.log f.locality f.now) (sym alone) ∙ t.given)

  in_row : (table : PlainTable) (t : TableOf f table) → IsEachTable t.protection → (p : ℕ) → IsInRow table p → IsProtected f p
  in_row table t is p i =
      let listed : Contains (map plain_row t.protection.table.rows) i.row = subst (λ (x : PlainTable). Contains x.rows i.row) t.is i.listed in
      let m = mapped_from plain_row t.protection.table.rows i.row listed in
      let r = is.rows.each m.0 m.1 in
      let on : has_pcr (2 ^ r.pcr) p ≡ true = ap (λ (x : Row). has_pcr x.pcrs p) (sym r.is) ∙ ap (λ (x : PlainRow). has_pcr x.pcrs p) m.2 ∙ i.in_mask in
      subst (IsProtected f) (lone_mask r.pcr p on) (record { asked = r.among; explained = explained f r.pcr r.stands })

  has_row : (table : PlainTable) (t : TableOf f table) → IsEachTable t.protection → (p : ℕ) → IsProtected f p → IsInRow table p
  has_row table t is p x =
      let r = is.rows.all p x.asked (stands f p x.explained) in
      record {
        row = plain_row (row_of p r.list);
        listed = subst (λ (y : PlainTable). Contains y.rows (plain_row (row_of p r.list))) (sym t.is) (mapped_in plain_row t.protection.table.rows (row_of p r.list) r.there);
        in_mask = eq-eqb (bit_at (2 ^ p) p) 1 (bit_at-pow_same p);
      }

  pub protects : f.joint ≡ false → (table : PlainTable) → TableOf f table → (p : ℕ) → (IsInRow table p → IsProtected f p) × (IsProtected f p → IsInRow table p)
  protects alone table t p = (in_row table t (is_each alone table t) p, has_row table t (is_each alone table t) p)

  first_row : (rows : List Row) → AreRowsOf standing values (pcrs_of f.asked) rows → rows ≢ [] → (p : ℕ) × IsProtected f p
  first_row [] are some = absurd (some refl)
  first_row (row ∷ rows) are some = let r = are.each row (first_in row rows) in (r.pcr, record { asked = r.among; explained = explained f r.pcr r.stands })

  -- where the table has a row, a PCR is protected
  pub protects_some : f.joint ≡ false → (table : PlainTable) → TableOf f table → table.rows ≢ [] → (p : ℕ) × IsProtected f p
  protects_some alone table t some =
      first_row t.protection.table.rows (is_each alone table t).rows (λ none. some (ap (λ (x : PlainTable). x.rows) t.is ∙ ap (map plain_row) none))

  module _ (banks : Banks) (pcrs : List (List ℕ)) where
    met_by : (p : ℕ) (list : List (List ℕ)) → pcrs_of (2 ^ p) ≡ p ∷ [] → IsMet f.bank banks pcrs (row_of p list) → (v : List ℕ) × Contains list v × (pcr_of banks pcrs f.bank p ≡ Some v)
    met_by p list one met =
        let v = mapped_from (λ v. v ∷ []) list met.choice met.listed in
        let same : pcr_of banks pcrs f.bank p ∷ [] ≡ Some v.0 ∷ [] = ap (map (pcr_of banks pcrs f.bank)) (sym one) ∙ met.holds ∙ ap (map Some) (sym v.2) in
        (v.0, v.1, same_first (pcr_of banks pcrs f.bank p) (Some v.0) same)

    meets : (p : ℕ) (list : List (List ℕ)) (v : List ℕ) → pcrs_of (2 ^ p) ≡ p ∷ [] → Contains list v → pcr_of banks pcrs f.bank p ≡ Some v → IsMet f.bank banks pcrs (row_of p list)
    meets p list v one there is = record {
      choice = v ∷ [];
      listed = mapped_in (λ v. v ∷ []) list v there;
      holds = ap (map (pcr_of banks pcrs f.bank)) one ∙ ap (λ (o : Option (List ℕ)). o ∷ []) is;
    }

    holds_alone : (protection : Protection) → IsEachTable protection → IsOpenByValues protection.table banks pcrs → (p : ℕ) → IsProtected f p → HoldsAlone f (pcr_of banks pcrs f.bank) p
    holds_alone protection is by p x =
        let r = is.rows.all p x.asked (stands f p x.explained) in
        let met = all_at (IsMet protection.table.bank banks pcrs) protection.table.rows (row_of p r.list) by.met r.there in
        let v = met_by p r.list (lone f.asked p x.asked) (subst (λ b. IsMet b banks pcrs (row_of p r.list)) is.bank met) in
        let s = value_from f p r.list v.0 (refused_ok p (foreseen f.bank f.locality p f.window f.components) r.list r.given) v.1 in
        record { cut = s.0; choice = s.1; state = s.2; holds = v.2 ∙ ap Some (sym s.3) }

    is_open : (protection : Protection) → IsEachTable protection → has_bank banks f.bank ≡ true → ((p : ℕ) → IsProtected f p → HoldsAlone f (pcr_of banks pcrs f.bank) p) → IsOpenByValues protection.table banks pcrs
    is_open protection is present holds = record {
      present = ap (has_bank banks) is.bank ∙ present;
      met = all_from (IsMet protection.table.bank banks pcrs) protection.table.rows (λ row h.
          let r = is.rows.each row h in
          let now = holds r.pcr (record { asked = r.among; explained = explained f r.pcr r.stands }) in
          let there = value_in f r.pcr r.list now.cut now.choice (refused_ok r.pcr (foreseen f.bank f.locality r.pcr f.window f.components) r.list r.given) now.state in
          let met = meets r.pcr r.list (measured_by f now.cut now.choice r.pcr) (lone f.asked r.pcr r.among) there now.holds in
          subst (IsMet protection.table.bank banks pcrs) (sym r.is) (subst (λ b. IsMet b banks pcrs (row_of r.pcr r.list)) (sym is.bank) met));
    }

    pub opens : f.joint ≡ false → HasValues banks pcrs → (table : PlainTable) → TableOf f table → Open table banks pcrs → (has_bank banks f.bank ≡ true) × Holds f (pcr_of banks pcrs f.bank)
    opens alone has table t open_now =
        let is = is_each alone table t in
        let valid : t.protection.table.rows ≢ [] → valid_table t.protection.table ≡ true =
        plain_valid f.joint f.components f.window f.asked f.bank f.log f.locality f.now t.protection t.variants t.given in
        let by = by_values t.protection.table t.protection.table.rows banks pcrs refl valid has (subst (λ (x : PlainTable). Open x banks pcrs) t.is open_now) in
        (ap (has_bank banks) (sym is.bank) ∙ by.present, subst (λ b. HoldsBy b f (pcr_of banks pcrs f.bank)) (sym alone) (holds_alone t.protection is by))

    pub open_where : f.joint ≡ false → HasValues banks pcrs → (table : PlainTable) → TableOf f table → (has_bank banks f.bank ≡ true) × Holds f (pcr_of banks pcrs f.bank) → Open table banks pcrs
    open_where alone has table t now =
        let is = is_each alone table t in
        let each : (p : ℕ) → IsProtected f p → HoldsAlone f (pcr_of banks pcrs f.bank) p = subst (λ b. HoldsBy b f (pcr_of banks pcrs f.bank)) alone now.1 in
        subst (λ (x : PlainTable). Open x banks pcrs) (sym t.is) (opens_joined t.protection.table banks pcrs has (is_open t.protection is now.0 each))
