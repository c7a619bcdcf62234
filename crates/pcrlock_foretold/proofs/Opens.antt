-- An `unseal` opens exactly where the PCRs hold what was foretold.
use Rattle.std.proofs.Common.{◌≡◌, ◌≢◌, ◌≤◌, ℕ, List, [], length, sym, ap, subst, ◌∙◌, arith}
use Rattle.std.specs.Prelude.{Some}
use Rattle.std.specs.FinMap.{get}
use Rattle.policy_digest.specs.PlainTable.{PlainRow, PlainTable}
use Rattle.forecasts.specs.Forecast.{Forecast, TableOf}
use Rattle.forecasts.proofs.Tables.{opens_rows}
use Rattle.tpm_model.specs.World.{LiveIndex, World}
use Rattle.tpm_worlds.specs.EventLists.{Safe}
use Rattle.pcrlock_line.specs.Machine.{Live, Machine, machine}
use Rattle.pcrlock_deeds.specs.Acts.{HoldsAt}
use Rattle.pcrlock_deeds.specs.Filed.{Current}
use Rattle.pcrlock_deeds.specs.Kept.{IsOwnKept}
use Rattle.pcrlock_open.specs.Unseal.{unseal_line}
use Rattle.pcrlock_headline.specs.Calm.{LeavesNewest}
use Rattle.pcrlock_headline.specs.Enrolled.{IsEnrolledTo}
use Rattle.pcrlock_headline.proofs.Calm.{leaves_current}
use Rattle.pcrlock_headline.proofs.Exact.{exact, only_live, values_in_world}
use Rattle.pcrlock_headline.proofs.Newest.{newest_held}
use Rattle.pcrlock_policy.specs.Asked.{Asked, Target}
use Rattle.pcrlock_policy.specs.MakePolicy.{handle_for}
use Rattle.pcrlock_foretold.specs.Foretold.{HasForetold, OpensAsForetold, UnsealsForetold, forecast_of}

some_rows : (rows : List PlainRow) → 1 ≤ length rows → rows ≢ []
some_rows rows some = λ none. let zero_long : length rows ≡ 0 = ap length none in absurd (omega (arith, some, zero_long))

-- one live index
pub same_live : (a b : LiveIndex) → Some a ≡ Some b → a ≡ b
same_live a b e = cc

module _ (policy : List ℕ) (m : Live) (w : World) (state token : List ℕ) (handle index : ℕ) (pin key : List ℕ) (newest : LiveIndex) (f : Forecast)
    (k : IsOwnKept policy m w) (current : Current w) (safe : Safe w) (e : IsEnrolledTo m w token handle index pin key) (found : get w.live index ≡ Some newest) (table : TableOf f newest.table) where
  some : newest.table.rows ≢ []
  some = some_rows newest.table.rows (newest_held m.state w index newest k.orderly k.own found).rows.some

  -- the pin of the newest table is the object's
  pinned : newest.pin ≡ pin
  pinned = ap (λ (l : LiveIndex). l.pin) (same_live newest e.live (sym found ∙ e.found)) ∙ e.live_pin

  pub as_foretold : OpensAsForetold (unseal_line state token policy (machine m)).ending key f w
  as_foretold =
      let by = exact policy m w state token handle index pin key k current safe e in
      let rows = opens_rows f newest.table w.banks w.pcrs (values_in_world m.state w k.orderly k.own.base) table some in (
        λ printed. rows.0 (only_live w index pin newest found (by.0 printed)),
        λ holds. by.1 (record { live = newest; found = found; same = pinned; opens = rows.1 holds }),
      )

pub unseals_foretold : (state token policy : List ℕ) (m : Machine) (w : World) → HoldsAt (IsOwnKept policy) m w → Safe w → UnsealsForetold state token policy m w
unseals_foretold state token policy m w kept safe = λ live handle index pin key newest f is current e found table.
    let k : IsOwnKept policy live w = subst (λ (x : Machine). HoldsAt (IsOwnKept policy) x w) is kept in
    subst (λ (x : Machine). OpensAsForetold (unseal_line state token policy x).ending key f w) (sym is)
    (as_foretold policy live w state token handle index pin key newest f k current safe e found table)

-- in a later world in which no table was put in force since
pub opens_later : (asked : Asked) (target : Target) (m : Machine) (w : World) (made : HasForetold asked target m w) (state token : List ℕ) (handle : ℕ) (pin key : List ℕ) (live : Live) (later : World)
    → LeavesNewest w later → IsOwnKept target.path live later → Safe later → IsEnrolledTo live later token handle (handle_for target made.finds.found) pin key
    → OpensAsForetold (unseal_line state token target.path (machine live)).ending key (forecast_of asked made.finds.inputs made.finds.now) later
opens_later asked target m w made state token handle pin key live later leaves kept safe e =
    let index = handle_for target made.finds.found in
    let one : e.live ≡ made.newest = same_live e.live made.newest (sym (leaves.live index e.live e.found) ∙ made.live) in
    let table : TableOf (forecast_of asked made.finds.inputs made.finds.now) e.live.table =
    subst (λ (l : LiveIndex). TableOf (forecast_of asked made.finds.inputs made.finds.now) l.table) (sym one) made.table in
    as_foretold target.path live later state token handle index pin key e.live (forecast_of asked made.finds.inputs made.finds.now) kept (leaves_current w later leaves made.current) safe e e.found table
