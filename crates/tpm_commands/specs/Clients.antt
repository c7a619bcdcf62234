-- Lines of several clients, which are counted from 0.
use Rattle.std.specs.Prelude.{ℕ, nat_lt, if◌then◌else◌, List, [], ◌∷◌, map, Option, Some, None, Result}
use Rattle.tpm_model.specs.declared.command.Command.{Command}
use Rattle.tpm_commands.specs.declared.error.CommandsError.{CommandsError}
use Rattle.tpm_commands.specs.CommandLine.{command_of_words}
use Rattle.tpm_commands.specs.File.{items_of, line_of, lines_of}
use Rattle.pl_text.specs.Parts.{parts_of}
use Rattle.pl_text.specs.Words.{◌>>=◌, number_up_to}

-- the client of a number below that of the clients
abbrev pub client_of : ℕ → List ℕ → Option ℕ
client_of clients word = do
  client ← number_up_to 0xFFFFFFFF word
  if nat_lt client clients then Some client else None

-- a client's number, and the words of its command
abbrev pub client_command_of_words : ℕ → List (List ℕ) → Option (ℕ × Command)
client_command_of_words clients [] = None
client_command_of_words clients (first ∷ words) = do
  client ← client_of clients first
  command ← command_of_words words
  Some (client, command)

-- the client and its command that a line spells, given without its line feed
unfoldable pub client_command_of : ℕ → List ℕ → Option (ℕ × Command)
client_command_of clients line = client_command_of_words clients (parts_of 32 line)

-- the commands of a file with their clients, or the first bad line, counted from 0 over all lines
unfoldable pub client_commands_in : ℕ → List ℕ → Result (List (ℕ × Command)) CommandsError
client_commands_in clients text = items_of (map (line_of (client_command_of clients)) (lines_of text))
