-- The table that protects the asked PCRs.
use Rattle.std.specs.Prelude.{ℕ, Bool, List, [], ◌∷◌, Result, Ok, Err}
use Rattle.component_tree.specs.PlainTree.{PlainComponent}
use Rattle.policy_digest.specs.declared.table.Row.{Row}
use Rattle.policy_digest.specs.declared.table.Table.{Table}
use Rattle.predictor.specs.declared.error.ProtectError.{ProtectError}
use Rattle.predictor.specs.declared.protection.Protection.{Protection}
use Rattle.predictor.specs.Protected.{protected_of}
use Rattle.tpm_model.specs.declared.parts.Parts.{Parts}
use Rattle.pcrlock_answer.specs.declared.answer.Answer.{Answer}
use Rattle.pcrlock_answer.specs.declared.answer.Answer.TheVariants as said
use Rattle.pcrlock_words.specs.PredictText.{counts_text}
use Rattle.pcrlock_input.specs.Answering.{◌>>=◌}
use Rattle.pcrlock_input.specs.Logs.{locality_in, rows_of}
use Rattle.pcrlock_predict.specs.Inputs.{PlainInputs}
use Rattle.pcrlock_predict.specs.Predict.{protect_answer}
use Rattle.pcrlock_predict.specs.Present.{present_of, values_or_absent}
use Rattle.pcrlock_policy.specs.Asked.{Asked}
use Rattle.pcrlock_policy.specs.declared.foreseeing.Foreseen.{Foreseen as Lent}

-- the table, and the lines that tell how many values are foreseen of each PCR, or why it is left out
pub record Foreseen : Type 0 where
  pub table : Table
  pub text : List ℕ

-- what was foreseen, and the answer where nothing was, without where they lie in memory
abbrev pub foreseen_of : Lent → Foreseen
foreseen_of lent = record { table = lent.table; text = lent.text.items }

abbrev pub seen : Result Lent Answer → Result Foreseen Answer
seen (Ok lent) = Ok (foreseen_of lent)
seen (Err answer) = Err answer

-- a table without a row protects nothing
abbrev pub unless_empty : List Row → Foreseen → Result Foreseen Answer
unless_empty [] foreseen = Err said.NothingProtected
unless_empty (row ∷ rows) foreseen = Ok foreseen

-- what is protected of the asked PCRs, or why there is nothing
abbrev pub foreseen_by : List PlainComponent → Bool → Result Protection ProtectError → Result Foreseen Answer
foreseen_by components joint (Ok protection) =
    unless_empty protection.table.rows (record { table = protection.table; text = counts_text protection components joint })
foreseen_by components joint (Err error) = Err (protect_answer components error)

-- by the logs and the components, and by what the PCRs hold now; the replay begins at the locality that the
-- firmware announced
abbrev pub foreseen_now : Asked → PlainInputs → List (List ℕ) → Result Foreseen Answer
foreseen_now asked inputs now =
    foreseen_by inputs.components asked.joint
    (protected_of asked.joint inputs.components asked.window asked.pcrs asked.bank (rows_of inputs.logs) (locality_in inputs.logs.firmware) now)

-- on a state: each asked PCR is read first
abbrev pub foreseen_on : Asked → PlainInputs → Parts → Result Foreseen Answer
foreseen_on asked inputs s = values_or_absent asked.bank (present_of asked.bank asked.pcrs s) >>= foreseen_now asked inputs
