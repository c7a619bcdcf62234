-- What `predict` prints.
use Rattle.std.specs.Prelude.{ℕ, Bool, List, [], codes, slice_get, Option, None, Some, Result, Ok, Err}
use Rattle.hash_bank.specs.declared.bank.Bank.{Bank}
use Rattle.component_tree.specs.PlainTree.{PlainComponent, PlainVariant}
use Rattle.predictor.specs.declared.error.ProtectError.{ProtectError}
use Rattle.predictor.specs.declared.error.ProtectError.TheVariants as errors
use Rattle.predictor.specs.declared.protection.Protection.{Protection}
use Rattle.predictor.specs.declared.window.Window.{Window}
use Rattle.predictor.specs.Protected.{protected_of}
use Rattle.tpm_device.specs.Stored.{Stored}
use Rattle.pcrlock_answer.specs.declared.answer.Answer.{Answer}
use Rattle.pcrlock_answer.specs.declared.answer.Answer.TheVariants as said
use Rattle.pcrlock_words.specs.PredictText.{predict_text}
use Rattle.pcrlock_line.specs.Machine.{Machine}
use Rattle.pcrlock_line.specs.Outcome.{Outcome}
use Rattle.pcrlock_input.specs.Answering.{◌>>=◌}
use Rattle.pcrlock_input.specs.Logs.{locality_in, rows_of}
use Rattle.pcrlock_predict.specs.Inputs.{PlainInputs, inputs_of}
use Rattle.pcrlock_predict.specs.Present.{values_at}
use Rattle.pcrlock_line.specs.Printing.{printed_line}

-- a component's id and its variants, and a variant's name, where there is one
abbrev pub id_of : Option PlainComponent → List ℕ
id_of (Some c) = c.id
id_of None = []

abbrev pub variants_of : Option PlainComponent → List PlainVariant
variants_of (Some c) = c.variants
variants_of None = []

abbrev pub name_of : Option PlainVariant → List ℕ
name_of (Some v) = v.name
name_of None = []

-- the record at this place of this variant of this component has no digest of the bank
abbrev pub no_digest : List PlainComponent → ℕ → ℕ → ℕ → Answer
no_digest components i v n =
    said.NoDigest (id_of (slice_get components i)) (name_of (slice_get (variants_of (slice_get components i)) v)) n

-- why nothing is protected. No prediction ends for want of memory
abbrev pub protect_answer : List PlainComponent → ProtectError → Answer
protect_answer components (errors.NoDigest i v n) = no_digest components i v n
protect_answer components (errors.TooMany pcr count) = said.Limit (codes "values") 513
protect_answer components errors.Memory = said.Memory

-- the text of what is protected, or why there is none
abbrev pub protection_text : List PlainComponent → Bool → Result Protection ProtectError → Result (List ℕ) Answer
protection_text components joint (Ok protection) = Ok (predict_text protection components joint)
protection_text components joint (Err error) = Err (protect_answer components error)

-- what is foreseen of the asked PCRs that a policy can protect, whose values are those now; the replay
-- begins at the locality that the firmware announced
abbrev pub predicted : Window → ℕ → Bank → Bool → PlainInputs → List (List ℕ) → Result (List ℕ) Answer
predicted window asked bank joint inputs now =
    protection_text inputs.components joint
    (protected_of joint inputs.components window asked bank (rows_of inputs.logs) (locality_in inputs.logs.firmware) now)

-- by what is stored at the path
abbrev pub predicted_at : List ℕ → Window → ℕ → Bank → Bool → PlainInputs → Stored → Result (List ℕ) Answer
predicted_at path window asked bank joint inputs stored = values_at path bank asked stored >>= λ now. predicted window asked bank joint inputs now

-- the text, or the answer for which there is none
abbrev pub predict_of : List ℕ → Option (List ℕ) → Option (List ℕ) → List (List ℕ) → Window → ℕ → Bank → Bool → Machine → Result (List ℕ) Answer
predict_of path firmware user folders window asked bank joint m =
    inputs_of m.files firmware user folders >>= λ inputs. predicted_at path window asked bank joint inputs m.device

-- `predict` over what is stored at the path, of the logs at the paths that are named, or at the usual
-- ones, and the components in the folders
abbrev pub predict_line : List ℕ → Option (List ℕ) → Option (List ℕ) → List (List ℕ) → Window → ℕ → Bank → Bool → Machine → Outcome
predict_line path firmware user folders window asked bank joint m = printed_line (predict_of path firmware user folders window asked bank joint m) m
