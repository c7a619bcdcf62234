-- Commands that only look at a state.
use Rattle.std.specs.Prelude.{Bool, true, false}
use Rattle.tpm_model.specs.declared.command.Command.{Command}
use Rattle.tpm_model.specs.declared.command.Command.TheVariants as command

-- every state stays as it is
abbrev pub looks_only : Command → Bool
looks_only (command.PcrRead bank pcr) = true
looks_only (command.PolicyGetDigest session) = true
looks_only (command.NvRead index) = true
looks_only (command.NvReadPublic index) = true
looks_only (command.Unseal session handle) = true
looks_only _ = false
