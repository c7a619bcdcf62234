-- The file of commands that `tpm-exec` reads.
use Rattle.std.specs.Prelude.{ℕ, List, codes, Result, Ok, Err}
use Rattle.pl_base.specs.FileMap.{FileMap}
use Rattle.tpm_model.specs.declared.command.Command.{Command}
use Rattle.tpm_commands.specs.declared.error.CommandsError.{CommandsError}
use Rattle.tpm_commands.specs.declared.error.CommandsError.TheVariants as errors
use Rattle.tpm_commands.specs.File.{commands_of}
use Rattle.pcrlock_answer.specs.declared.answer.Answer.{Answer}
use Rattle.pcrlock_answer.specs.declared.answer.Answer.TheVariants as said
use Rattle.pcrlock_answer.specs.declared.place.Place.TheVariants as place
use Rattle.pcrlock_line.specs.Content as content
use Rattle.pcrlock_line.specs.Content.{Content, content_of}
use Rattle.pcrlock_exec.specs.declared.input.Input.{Input}
use Rattle.pcrlock_exec.specs.declared.input.Input.TheVariants as input

-- the most bytes of a file of commands
abbrev pub commands_limit : ℕ
commands_limit = 4194304

-- the commands, or the answer for a file that has none: the line that is bad, or that there are too many
abbrev pub read_from : {A : Type 0} → List ℕ → Result A CommandsError → Result A Answer
read_from path (Ok commands) = Ok commands
read_from path (Err (errors.BadLine line)) = Err (said.Malformed path (place.At line))
read_from path (Err errors.TooMany) = Err (said.Limit (codes "lines") 65537)
read_from path (Err errors.Memory) = Err said.Memory

-- by what stands at the path, and by what bytes spell
abbrev pub commands_in : {A : Type 0} → (List ℕ → Result A CommandsError) → List ℕ → Content → Result A Answer
commands_in spell path content.Missing = Err (said.NoSuchFile path)
commands_in spell path (content.TooLarge size) = Err (said.Limit (codes "commands-bytes") size)
commands_in spell path (content.Bytes bytes) = read_from path (spell bytes)

-- the commands of the file at the path, or why there are none
unfoldable pub commands_at : FileMap → List ℕ → Result (List Command) Answer
commands_at files path = commands_in commands_of path (content_of files path commands_limit)

-- what was found, as a result
abbrev pub input_found : Input → Result (List Command) Answer
input_found (input.Commands commands) = Ok commands
input_found (input.Refused answer) = Err answer
