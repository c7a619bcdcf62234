-- What `make-policy` puts in force is the table of a forecast.
use Rattle.std.proofs.Common.{◌≡◌, ◌≢◌, ℕ, List, [], ◌∷◌, map, refl, sym, ap, ◌∙◌, subst}
use Rattle.std.specs.Prelude.{Option, None, Some, Result, Ok, Err}
use Rattle.hash_bank.specs.declared.bank.Bank.{Bank}
use Rattle.policy_digest.specs.Plain.{plain_row, plain_table}
use Rattle.policy_digest.specs.declared.table.Row.{Row}
use Rattle.policy_digest.specs.declared.table.Table.{Table}
use Rattle.predictor.specs.Protected.{protected_of}
use Rattle.forecasts.specs.Forecast.{TableOf}
use Rattle.tpm_model.specs.Events.{Clean}
use Rattle.tpm_model.specs.World.{World}
use Rattle.tpm_worlds.specs.EventLists.{Safe}
use Rattle.pcrlock_answer.specs.declared.answer.Answer.{Answer}
use Rattle.pcrlock_line.specs.Machine.{Machine}
use Rattle.pcrlock_deeds.specs.Acts.{HoldsAt, act_world}
use Rattle.pcrlock_deeds.specs.Kept.{IsOwnKept}
use Rattle.pcrlock_input.specs.Logs.{locality_in, rows_of}
use Rattle.pcrlock_predict.specs.Present.{present_of, values_or_absent}
use Rattle.pcrlock_policy.specs.Acts.{HasMade, make_policy_act}
use Rattle.pcrlock_policy.specs.Asked.{Asked, Target}
use Rattle.pcrlock_policy.specs.Foreseen.{foreseen_now}
use Rattle.pcrlock_policy.proofs.Makes.{make_policy_makes}
use Rattle.pcrlock_policy.proofs.Valid.{foreseen_from, input_ok, inputs_have}
use Rattle.pcrlock_foretold.specs.Foretold.{HasForetold, MakesForetold, forecast_of}
use Rattle.pcrlock_foretold.proofs.Present.{asked_holds}

-- the values were there
were_present : (bank : Bank) (read : Option (List (List ℕ))) (now : List (List ℕ)) → values_or_absent bank read ≡ Ok now → read ≡ Some now
were_present bank (Some values) now e = let same : values ≡ now = cc in ap Some same
were_present bank None now e = absurd (cc e)

-- a table with a row has one in its plain form
some_plain : (rows : List Row) → rows ≢ [] → map plain_row rows ≢ []
some_plain [] some = λ none. some refl
some_plain (row ∷ rows) some = λ none. cc none

pub foretold_by : (asked : Asked) (target : Target) (m : Machine) (w : World) → HasMade asked target m w → HasForetold asked target m w
foretold_by asked target m w h =
    let values = input_ok (values_or_absent asked.bank (present_of asked.bank asked.pcrs h.state)) (foreseen_now asked h.inputs) h.foreseen h.is in
    let present = were_present asked.bank (present_of asked.bank asked.pcrs h.state) values.0 values.1 in
    let from = foreseen_from h.inputs.components asked.joint
    (protected_of asked.joint h.inputs.components asked.window asked.pcrs asked.bank (rows_of h.inputs.logs) (locality_in h.inputs.logs.firmware) values.0) h.foreseen values.2 in
    let table : TableOf (forecast_of asked h.inputs values.0) (plain_table h.foreseen.table) = record {
      variants = inputs_have m.files asked.firmware asked.user asked.folders h.inputs h.took;
      protection = from.0;
      given = from.1;
      is = ap plain_table (sym from.3);
    } in
    record {
      finds = record {
        found = h.found;
        read = h.read;
        inputs = h.inputs;
        took = h.took;
        state = h.state;
        stored = h.stored;
        now = values.0;
        holds = λ p asks. asked_holds asked.bank asked.pcrs h.state values.0 present p asks;
      };
      newest = record { pin = h.newest.pin; table = plain_table h.foreseen.table };
      live = h.newest.live;
      table = table;
      some = some_plain h.foreseen.table.rows (subst (λ (t : Table). t.rows ≢ []) from.3 from.2);
      current = h.current;
    }

pub makes_foretold : (state : List ℕ) (asked : Asked) (target : Target) (m : Machine) (w : World) → HoldsAt (IsOwnKept target.path) m w
    → Clean (act_world (make_policy_act asked target m w) m w) → Safe (act_world (make_policy_act asked target m w) m w) → MakesForetold state asked target m w
makes_foretold state asked target m w kept clean safe = λ out fine.
    foretold_by asked target m (act_world (make_policy_act asked target m w) m w) (make_policy_makes state asked target m w out fine kept clean safe)
