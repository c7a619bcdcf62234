-- What a command answers where no state is stored.
use Rattle.std.specs.Prelude.{◌≡◌, ℕ, Bool, true, List, codes, Option, None, Some}
use Rattle.tpm_model.specs.declared.parts.Parts.{Parts}
use Rattle.tpm_model.specs.declared.rules.StateRule.{StateRule}
use Rattle.tpm_model.specs.declared.rules.StateRule.TheVariants as rule
use Rattle.tpm_device.specs.Stored.{Stored, Holds, TooLarge, Malformed, BadRule}
use Rattle.pcrlock_answer.specs.declared.answer.Answer.{Answer}
use Rattle.pcrlock_answer.specs.declared.answer.Answer.TheVariants as said
use Rattle.pcrlock_answer.specs.declared.place.Place.TheVariants as place
use Rattle.pcrlock_line.specs.Machine.{Machine, Live}
use Rattle.pcrlock_line.specs.Outcome.{Outcome, refused_line}

-- the name of a rule of states
abbrev pub rule_name : StateRule → List ℕ
rule_name rule.Banks = codes "banks"
rule_name rule.Counters = codes "counters"
rule_name rule.SessionOrder = codes "sessionorder"
rule_name rule.Fold = codes "fold"
rule_name rule.OrMember = codes "ormember"
rule_name rule.PcrNow = codes "pcrnow"
rule_name rule.NvNow = codes "nvnow"
rule_name rule.Noted = codes "noted"
rule_name rule.IndexOrder = codes "indexorder"
rule_name rule.IndexAttributes = codes "indexattributes"
rule_name rule.ObjectOrder = codes "objectorder"
rule_name rule.Secret = codes "secret"

-- by what is stored in the state file at the path: what comes of the state, or of the answer why there is none
abbrev pub by_stored : {A : Type 0} → Stored → List ℕ → (Parts → A) → (Answer → A) → A
by_stored (Holds s) path some none = some s
by_stored (TooLarge size) path some none = none (said.Limit (codes "state-bytes") size)
by_stored (Malformed at) path some none = none (said.Malformed path (place.At at))
by_stored (BadRule broken) path some none = none (said.Malformed path (place.Rule (rule_name broken)))

-- why the state file at the path gives no state
abbrev pub state_refusal : List ℕ → Stored → Option Answer
state_refusal path kept = by_stored kept path (λ s. None) (λ answer. Some answer)

-- the device is ready with the state that is stored
pub record IsBegun (s : Parts) (readiness : Bool) (live : Option Parts) : Type 0 where
  pub live_is : live ≡ Some s
  pub ready_is : readiness ≡ true

-- what a command comes to by what the device stores: its work on a state, or why there is none
abbrev pub by_device : Stored → List ℕ → Machine → (Live → Outcome) → Outcome
by_device kept path m work =
    by_stored kept path (λ s. work (record { files = m.files; state = s; draws = m.draws })) (λ answer. refused_line answer m)
