-- Without a current policy file nothing opens as it was foretold, and an older table's forecast doesn't say when it opens.
use Rattle.std.proofs.Common.{◌≡◌, ℕ, List, sym, ◌∙◌, Contains}
use Rattle.std.specs.Prelude.{Some}
use Rattle.std.specs.FinMap.{get}
use Rattle.forecasts.specs.Forecast.{Forecast, Holds, TableOf}
use Rattle.tpm_model.specs.World.{FiledPolicy, LiveIndex, World}
use Rattle.tpm_worlds.specs.EventLists.{Safe}
use Rattle.pcrlock_answer.specs.declared.answer.Answer.{Answer}
use Rattle.pcrlock_line.specs.Machine.{Live, machine}
use Rattle.pcrlock_line.specs.Outcome.{Ending, Fine, Refused}
use Rattle.pcrlock_deeds.specs.Filed.{Current}
use Rattle.pcrlock_deeds.specs.Kept.{IsOwnKept}
use Rattle.pcrlock_open.specs.Unseal.{unseal_line}
use Rattle.pcrlock_headline.specs.Enrolled.{IsBoundToken, IsEnrolledTo}
use Rattle.pcrlock_headline.proofs.Exact.{outdated}
use Rattle.pcrlock_foretold.specs.Foretold.{OpensAsForetold, values_in}
use Rattle.pcrlock_foretold.proofs.Opens.{as_foretold}

refused_or_fine : (answer : Answer) (text : List ℕ) (ending : Ending) → ending ≡ Refused answer → ending ≡ Fine text → ⊥
refused_or_fine answer text ending a b = let both = sym a ∙ b in absurd (cc both)

-- where the file hasn't the newest table
pub stale_opens_nothing : (policy : List ℕ) (m : Live) (w : World) (state token : List ℕ) (handle : ℕ) (filed : FiledPolicy) (newest : LiveIndex) (f : Forecast) (key : List ℕ)
    → IsOwnKept policy m w → Safe w → w.filed ≡ Some filed → get w.live filed.handle ≡ Some newest → IsBoundToken m.files token handle
    → (Contains filed.tables newest.table → ⊥) → Holds f (values_in w f.bank) → OpensAsForetold (unseal_line state token policy (machine m)).ending key f w → ⊥
stale_opens_nothing policy m w state token handle filed newest f key kept safe states found bound missing holds opens =
    refused_or_fine _ _ (unseal_line state token policy (machine m)).ending (outdated policy m w kept safe filed states newest found state token handle bound missing) (opens.1 holds)

-- where the PCRs hold what an older table's forecast says, and not what the newest's does
pub older_tells_nothing : (policy : List ℕ) (m : Live) (w : World) (state token : List ℕ) (handle index : ℕ) (pin key : List ℕ) (newest : LiveIndex) (f older : Forecast)
    → IsOwnKept policy m w → Current w → Safe w → IsEnrolledTo m w token handle index pin key → get w.live index ≡ Some newest → TableOf f newest.table
    → Holds older (values_in w older.bank) → (Holds f (values_in w f.bank) → ⊥) → OpensAsForetold (unseal_line state token policy (machine m)).ending key older w → ⊥
older_tells_nothing policy m w state token handle index pin key newest f older kept current safe e found table holds closed opens =
    closed ((as_foretold policy m w state token handle index pin key newest f kept current safe e found table).0 (opens.1 holds))
