-- Items behind their number of one byte that are read are spelled so, and what is spelled so is read.
use Rattle.std.proofs.Common.{ℕ, ◌<◌, List, Result}
use Rattle.pl_layout.proofs.Fields.{Grammar}
use Rattle.pl_layout.proofs.Repeats.{ListFits, list_grammar}
use Rattle.tpm_state.specs.declared.error.DecodeError.{DecodeError}
use Rattle.tpm_state.specs.Field.{fault, counted_at, counted_text}

pub counted_grammar : {A : Type 0} {item : List ℕ → Result (A × List ℕ) DecodeError} {text : A → List ℕ} {Fits : A → Type 0} → Grammar item text Fits → (all low high : ℕ) → high < 256
    → Grammar (counted_at all low high item) (counted_text text) (ListFits low high Fits)
counted_grammar g all low high short = list_grammar g low high (fault all) short
