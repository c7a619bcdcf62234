-- What `make-policy` foretells, and an `unseal` that opens as it was foretold.
use Rattle.std.specs.Prelude.{◌≡◌, ◌≢◌, ◌↔◌, ℕ, List, [], slice_index_or, Contains, Option, Some, Ok}
use Rattle.std.specs.FinMap.{get}
use Rattle.hash_bank.specs.declared.bank.Bank.{Bank}
use Rattle.policy_digest.specs.Mask.{pcrs_of}
use Rattle.policy_file.specs.declared.policy.Policy.{Policy}
use Rattle.forecasts.specs.Forecast.{Forecast, Holds, PcrValues, TableOf}
use Rattle.tpm_model.specs.declared.parts.Parts.{Parts}
use Rattle.tpm_model.specs.Pcrs.{pcr_of}
use Rattle.tpm_model.specs.World.{LiveIndex, World}
use Rattle.tpm_device.specs.Stored.{Holds as Stores}
use Rattle.pcrlock_answer.specs.Texts.{key_text}
use Rattle.pcrlock_line.specs.Machine.{Live, Machine, machine}
use Rattle.pcrlock_line.specs.Outcome.{Ending, Fine}
use Rattle.pcrlock_deeds.specs.Acts.{act_world}
use Rattle.pcrlock_deeds.specs.Filed.{Current}
use Rattle.pcrlock_deeds.specs.PolicyAt.{policy_of}
use Rattle.pcrlock_input.specs.Logs.{locality_in, rows_of}
use Rattle.pcrlock_predict.specs.Inputs.{PlainInputs, inputs_of}
use Rattle.pcrlock_open.specs.Unseal.{unseal_line}
use Rattle.pcrlock_headline.specs.Enrolled.{IsEnrolledTo}
use Rattle.pcrlock_policy.specs.Acts.{make_policy_act}
use Rattle.pcrlock_policy.specs.Asked.{Asked, Target}
use Rattle.pcrlock_policy.specs.MakePolicy.{handle_for, make_policy_line}

-- what is foreseen of the components and logs that were read, where the PCRs hold these values now; the logs are
-- replayed from the locality that the firmware announced
abbrev pub forecast_of : Asked → PlainInputs → List (List ℕ) → Forecast
forecast_of asked inputs now = record {
  components = inputs.components;
  window = asked.window;
  asked = asked.pcrs;
  bank = asked.bank;
  joint = asked.joint;
  log = rows_of inputs.logs;
  locality = locality_in inputs.logs.firmware;
  now = now;
}

-- what `make-policy` finds before it changes anything: the policy file, if there is one, the logs and the components, and
-- what each asked PCR holds
pub record HasRead (asked : Asked) (target : Target) (m : Machine) : Type 0 where
  pub found : Option Policy
  pub read : policy_of m.files target.path ≡ Ok found
  pub inputs : PlainInputs
  pub took : inputs_of m.files asked.firmware asked.user asked.folders ≡ Ok inputs
  pub state : Parts
  pub stored : m.device ≡ Stores state
  pub now : List (List ℕ)
  pub holds : (p : ℕ) → Contains (pcrs_of asked.pcrs) p → pcr_of state.banks state.pcrs asked.bank p ≡ Some (slice_index_or now p [])

-- in the world afterwards the newest table of the policy's index is that of the forecast of what was found, it has a row,
-- and what is filed is current
pub record HasForetold (asked : Asked) (target : Target) (m : Machine) (w : World) : Type 0 where
  pub finds : HasRead asked target m
  pub newest : LiveIndex
  pub live : get w.live (handle_for target finds.found) ≡ Some newest
  pub table : TableOf (forecast_of asked finds.inputs finds.now) newest.table
  pub some : newest.table.rows ≢ []
  pub current : Current w

-- where `make-policy` comes to a good end, it has foretold
abbrev pub MakesForetold : List ℕ → Asked → Target → Machine → World → Type 0
MakesForetold state asked target m w =
    (out : List ℕ) → (make_policy_line state asked target m).ending ≡ Fine out → HasForetold asked target m (act_world (make_policy_act asked target m w) m w)

-- the values that the PCRs of the world hold in the bank
abbrev pub values_in : World → Bank → PcrValues
values_in w bank = pcr_of w.banks w.pcrs bank

-- the end is the key's line exactly where each protected PCR of the forecast holds a value that some choice of variants,
-- at some cut of the window, measures; where they are taken together, one choice at one cut for all of them
abbrev pub OpensAsForetold : Ending → List ℕ → Forecast → World → Type 0
OpensAsForetold ending key f w = (ending ≡ Fine (key_text key)) ↔ Holds f (values_in w f.bank)

-- so ends each `unseal` of an object of the world that is bound to the policy's index, whose token stands at its path,
-- while the index remains and a session can be started, and the policy file has the newest table; by each forecast of
-- which that table is
abbrev pub UnsealsForetold : List ℕ → List ℕ → List ℕ → Machine → World → Type 0
UnsealsForetold state token policy m w =
    (live : Live) (handle index : ℕ) (pin key : List ℕ) (newest : LiveIndex) (f : Forecast) → m ≡ machine live → Current w
    → IsEnrolledTo live w token handle index pin key → get w.live index ≡ Some newest → TableOf f newest.table
    → OpensAsForetold (unseal_line state token policy m).ending key f w
