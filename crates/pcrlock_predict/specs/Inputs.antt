-- What `log` and `predict` read from files.
use Rattle.std.specs.Prelude.{ℕ, List, Option, Result, Ok}
use Rattle.pl_base.specs.FileMap.{FileMap}
use Rattle.component_tree.specs.PlainTree.{PlainComponent, plain}
use Rattle.pcrlock_answer.specs.declared.answer.Answer.{Answer}
use Rattle.pcrlock_input.specs.Answering.{◌>>=◌}
use Rattle.pcrlock_input.specs.Components.{components_of}
use Rattle.pcrlock_input.specs.Logs.{PlainLogs, logs_of, plain_logs}
use Rattle.pcrlock_predict.specs.declared.inputs.Inputs.{Inputs}

-- both logs of a boot, and the components that a boot may measure
pub record PlainInputs : Type 0 where
  pub logs : PlainLogs
  pub components : List PlainComponent

-- inputs, without where they lie in memory
abbrev pub plain_inputs : Inputs → PlainInputs
plain_inputs inputs = record { logs = plain_logs inputs.logs; components = plain inputs.tree.components }

-- the logs at the paths that are named, or at the usual ones, and then the components in the folders
abbrev pub inputs_of : FileMap → Option (List ℕ) → Option (List ℕ) → List (List ℕ) → Result PlainInputs Answer
inputs_of files firmware user folders =
    logs_of files firmware user >>= λ logs. components_of files folders >>= λ components.
    Ok (record { logs = logs; components = components })
