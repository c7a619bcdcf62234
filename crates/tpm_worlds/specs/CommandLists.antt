-- What the TPM answers to commands that come one after the other.
use Rattle.std.specs.Prelude.{List, [], ◌∷◌}
use Rattle.tpm_model.specs.declared.command.Command.{Command}
use Rattle.tpm_model.specs.declared.response.Response.{Response}
use Rattle.tpm_model.specs.declared.parts.Parts.{Parts}
use Rattle.tpm_model.specs.Respond.{respond}

-- the state that a list of commands leaves
abbrev pub state_after : List Command → Parts → Parts
state_after [] s = s
state_after (command ∷ commands) s = state_after commands (respond command s).1

-- the answers, in order
abbrev pub responses_to : List Command → Parts → List Response
responses_to [] s = []
responses_to (command ∷ commands) s = (respond command s).0 ∷ responses_to commands (respond command s).1
