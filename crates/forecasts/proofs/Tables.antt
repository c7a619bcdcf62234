-- The table of any prediction, whether its PCRs are taken together or each by itself.
use Rattle.std.proofs.Common.{◌≡◌, ◌≢◌, ℕ, Bool, true, false, cond, ◌&&◌, ltb, List, [], Option, None, Some, inl, inr, refl, subst}
use Rattle.std.specs.Prelude.{slice_get}
use Rattle.std.proofs.lemmas.Bool.{cases_Bool}
use Rattle.hash_bank.specs.declared.banks.Banks.{Banks}
use Rattle.hash_bank.specs.Banks.{has_bank}
use Rattle.policy_digest.specs.PlainTable.{PlainTable}
use Rattle.tpm_model.specs.Opening.{Open}
use Rattle.tpm_model.specs.Pcrs.{HasValues, pcr_of, place_of}
use Rattle.forecasts.specs.Forecast.{Forecast, Holds, HoldsAlone, HoldsBy, HoldTogether, IsInRow, IsProtected, PcrValues, TableOf, measured_by}
use Rattle.forecasts.proofs.Opened.{protects, protects_some, opens, open_where}
use Rattle.forecasts.proofs.Together.{protects_together, protects_some_together, opens_together, open_together}

pub protects_any : (f : Forecast) (table : PlainTable) → TableOf f table → (p : ℕ) → (IsInRow table p → IsProtected f p) × (IsProtected f p → IsInRow table p)
protects_any f table t p =
    elim (cases_Bool f.joint) [
      | inl joint ↦ protects_together f joint table t p
      | inr alone ↦ protects f alone table t p
    ]

pub opens_any : (f : Forecast) (table : PlainTable) (banks : Banks) (pcrs : List (List ℕ)) → HasValues banks pcrs → TableOf f table
    → (Open table banks pcrs → (has_bank banks f.bank ≡ true) × Holds f (pcr_of banks pcrs f.bank)) × ((has_bank banks f.bank ≡ true) × Holds f (pcr_of banks pcrs f.bank) → Open table banks pcrs)
opens_any f table banks pcrs has t =
    elim (cases_Bool f.joint) [
      | inl joint ↦ (opens_together f banks pcrs joint has table t, open_together f banks pcrs joint has table t)
      | inr alone ↦ (opens f banks pcrs alone has table t, open_where f banks pcrs alone has table t)
    ]

-- ---- tables with a row

protects_one : (f : Forecast) (table : PlainTable) → TableOf f table → table.rows ≢ [] → (p : ℕ) × IsProtected f p
protects_one f table t some =
    elim (cases_Bool f.joint) [
      | inl joint ↦ protects_some_together f joint table t some
      | inr alone ↦ protects_some f alone table t some
    ]

-- a protected PCR holds some value
some_value : (f : Forecast) (values : PcrValues) (p : ℕ) → IsProtected f p → Holds f values → (v : List ℕ) × (values p ≡ Some v)
some_value f values p x holds =
    elim (cases_Bool f.joint) [
      | inl joint ↦ let h : HoldTogether f values = subst (λ b. HoldsBy b f values) joint holds in (measured_by f h.cut h.choice p, h.hold p x)
      | inr alone ↦ let each : (q : ℕ) → IsProtected f q → HoldsAlone f values q = subst (λ b. HoldsBy b f values) alone holds in (measured_by f (each p x).cut (each p x).choice p, (each p x).holds)
    ]

-- so its bank is present
present_by : (present known : Bool) (o : Option (List ℕ)) (v : List ℕ) → cond (present && known) o None ≡ Some v → present ≡ true
present_by true known o v e = refl
present_by false known o v e = absurd cc

pub opens_rows : (f : Forecast) (table : PlainTable) (banks : Banks) (pcrs : List (List ℕ)) → HasValues banks pcrs → TableOf f table → table.rows ≢ []
    → (Open table banks pcrs → Holds f (pcr_of banks pcrs f.bank)) × (Holds f (pcr_of banks pcrs f.bank) → Open table banks pcrs)
opens_rows f table banks pcrs has t some =
    let both = opens_any f table banks pcrs has t in
    let one = protects_one f table t some in (
      λ o. (both.0 o).1,
      λ h.
          let v = some_value f (pcr_of banks pcrs f.bank) one.0 one.1 h in
          let present : has_bank banks f.bank ≡ true = present_by (has_bank banks f.bank) (ltb one.0 24) (slice_get pcrs (place_of banks f.bank one.0)) v.0 v.1 in
          both.1 (present, h),
    )
