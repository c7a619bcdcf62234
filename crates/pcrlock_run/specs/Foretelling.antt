-- What each `make-policy` and each `unseal` of a run have to do with what is foretold of the boots of the machine.
use Rattle.std.specs.Prelude.{◌≡◌, ℕ, List, Option, None, Some}
use Rattle.std.specs.FinMap.{get}
use Rattle.forecasts.specs.Forecast.{Forecast, Holds, TableOf}
use Rattle.tpm_model.specs.World.{LiveIndex, World}
use Rattle.pcrlock_words.specs.declared.request.Request.{Request}
use Rattle.pcrlock_words.specs.declared.request.Request.TheVariants as requests
use Rattle.pcrlock_line.specs.Machine.{Machine, Live, machine}
use Rattle.pcrlock_deeds.specs.Filed.{Current}
use Rattle.pcrlock_headline.specs.Enrolled.{IsEnrolledTo}
use Rattle.pcrlock_foretold.specs.Foretold.{MakesForetold, UnsealsForetold, values_in}
use Rattle.pcrlock_run.specs.Headline.{PrintsWhere, TokenPaths}
use Rattle.pcrlock_run.specs.Setting.{Setting, target_in}

-- a `make-policy` that comes to a good end has put in force the table of the forecast of what it read
abbrev pub MakesTheForetold : Setting → Request → Machine → World → Type 0
MakesTheForetold setting (requests.MakePolicy firmware user folders location pcr bank policy index pin force joint) m w =
    MakesForetold setting.state (record { firmware = firmware; user = user; folders = folders; window = location; pcrs = pcr; bank = bank; joint = joint })
    (target_in setting policy index pin force) m w
MakesTheForetold setting _ m w = Unit {0}

-- an `unseal` by a policy opens exactly where the forecast of which the newest table is holds of the PCRs
abbrev pub UnsealIsForetold : Setting → Request → Machine → World → Type 0
UnsealIsForetold setting (requests.Unseal token policy) m w = UnsealsForetold setting.state token policy m w
UnsealIsForetold setting _ m w = Unit {0}

-- a call that opens this token, or none: for each object of the world that is bound to the policy's index, and each
-- forecast of which the index's newest table is, status 0 exactly where the forecast holds of the PCRs
abbrev pub CallIsForetold : Option TokenPaths → Machine → World → ℕ → Option (List ℕ) → Option (List ℕ) → Type 0
CallIsForetold None m w status out_before out_now = Unit {0}
CallIsForetold (Some paths) m w status out_before out_now =
    (live : Live) (handle index : ℕ) (pin key : List ℕ) (newest : LiveIndex) (f : Forecast) → m ≡ machine live → Current w
    → IsEnrolledTo live w paths.token handle index pin key → get w.live index ≡ Some newest → TableOf f newest.table
    → PrintsWhere (Holds f (values_in w f.bank)) status out_before out_now key
