-- Which commands take memory.
use Rattle.std.specs.Prelude.{Bool, true, false}
use Rattle.tpm_model.specs.declared.command.Command.{Command}
use Rattle.tpm_model.specs.declared.command.Command.TheVariants as command

-- a session, an index or an object is made
abbrev pub takes_memory : Command → Bool
takes_memory (command.StartSession hash) = true
takes_memory (command.NvDefine public) = true
takes_memory (command.Seal policy secret) = true
takes_memory _ = false
