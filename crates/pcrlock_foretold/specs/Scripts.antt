-- A script that makes a policy and enrolls a key, lets anyone use the TPM, boots, and opens the key.
use Rattle.std.specs.Prelude.{◌≡◌, ◌↔◌, ℕ, List, [], ◌∷◌, Option, Some}
use Rattle.hash_bank.specs.declared.banks.Banks.{Banks}
use Rattle.pcr_replay.specs.Measured.{measured_in, replayed_in}
use Rattle.forecasts.specs.Forecast.{Forecast, Holds, IsProtected, PcrValues}
use Rattle.tpm_model.specs.World.{World}
use Rattle.pcrlock_answer.specs.Texts.{key_text}
use Rattle.pcrlock_line.specs.Machine.{Live, Machine, machine}
use Rattle.pcrlock_line.specs.Outcome.{Fine}
use Rattle.pcrlock_deeds.specs.Acts.{Act, act_outcome, act_world}
use Rattle.pcrlock_input.specs.Logs.{PlainLogs, rows_of}
use Rattle.pcrlock_tpm.specs.Acts.{boot_act}
use Rattle.pcrlock_tpm.specs.Boot.{boot_locality}
use Rattle.pcrlock_exec.specs.Acts.{exec_act}
use Rattle.pcrlock_seal.specs.Acts.{enroll_bound_act}
use Rattle.pcrlock_open.specs.Unseal.{unseal_line}
use Rattle.pcrlock_headline.specs.Enrolled.{IsEnrolledTo}
use Rattle.pcrlock_policy.specs.Acts.{make_policy_act}
use Rattle.pcrlock_policy.specs.Asked.{Asked, Target}
use Rattle.pcrlock_policy.specs.MakePolicy.{handle_for}
use Rattle.pcrlock_foretold.specs.Foretold.{HasForetold, forecast_of}

-- ---- lines one after the other

-- what a line does, by the machine and the world before it
abbrev pub LineAct : Type 0
LineAct = Machine → World → Act

-- the machine that lines leave, each on what those before it leave; the TPM's state stands at the path
abbrev pub lines_machine : List ℕ → List LineAct → Machine → World → Machine
lines_machine state [] m w = m
lines_machine state (line ∷ lines) m w = lines_machine state lines (act_outcome (line m w) state m).after (act_world (line m w) m w)

-- and the world
abbrev pub lines_world : List ℕ → List LineAct → Machine → World → World
lines_world state [] m w = w
lines_world state (line ∷ lines) m w = lines_world state lines (act_outcome (line m w) state m).after (act_world (line m w) m w)

-- ---- the script

-- the words of the five lines: the path of the TPM's state; what `make-policy` is asked for, and where it puts the policy
-- in force; the token and the key of `enroll`; the file of commands for `tpm-exec`; and the logs, the locality and the
-- banks of `tpm-boot`. `enroll` and `unseal` stand under the policy's path
pub record BootScript : Type 0 where
  pub state : List ℕ
  pub asked : Asked
  pub target : Target
  pub token : List ℕ
  pub key : Option (List ℕ)
  pub commands : List ℕ
  pub firmware : Option (List ℕ)
  pub user : Option (List ℕ)
  pub locality : Option ℕ
  pub banks : Banks

-- its lines up to the boot
abbrev pub before_boot : BootScript → List LineAct
before_boot script =
    make_policy_act script.asked script.target
    ∷ enroll_bound_act script.token script.target.path script.key
    ∷ exec_act script.commands
    ∷ []

-- and up to the last, which opens the key
abbrev pub before_unseal : BootScript → List LineAct
before_unseal script =
    make_policy_act script.asked script.target
    ∷ enroll_bound_act script.token script.target.path script.key
    ∷ exec_act script.commands
    ∷ boot_act script.firmware script.user script.locality script.banks
    ∷ []

-- the replays of the logs of a boot
abbrev pub booted_values : BootScript → PlainLogs → PcrValues
booted_values script logs p = replayed_in script.asked.bank p (boot_locality script.locality logs) (rows_of logs)

-- in these logs each record of a protected PCR has the bank
abbrev pub AreLogged : Forecast → PlainLogs → Type 0
AreLogged f logs = (p : ℕ) → IsProtected f p → (list : List (List ℕ)) × (measured_in f.bank p (rows_of logs) ≡ Some list)

-- the policy has foretold; and where the token's object, its index and a session slot remain at the last line, this
-- prints the key exactly where the replay of the booted logs is, for each protected PCR, a value that some choice of
-- variants at some cut measures; where they are taken together, one choice at one cut for all of them
pub record BootsAsForetold (script : BootScript) (logs : PlainLogs) (m : Machine) (w : World) (live : Live) : Type 0 where
  pub made : HasForetold script.asked script.target m (act_world (make_policy_act script.asked script.target m w) m w)
  pub opens : (handle : ℕ) (pin key : List ℕ)
      → IsEnrolledTo live (lines_world script.state (before_unseal script) m w) script.token handle (handle_for script.target made.finds.found) pin key
      → AreLogged (forecast_of script.asked made.finds.inputs made.finds.now) logs
      → ((unseal_line script.state script.token script.target.path (machine live)).ending ≡ Fine (key_text key))
      ↔ Holds (forecast_of script.asked made.finds.inputs made.finds.now) (booted_values script logs)
