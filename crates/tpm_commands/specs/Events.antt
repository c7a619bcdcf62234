-- A file of the events of a race, one on each line.
use Rattle.std.specs.Prelude.{ℕ, zero, suc, ◌-◌, ◌==◌, if◌then◌else◌, List, [], ◌∷◌, length, map, codes, Option, Some, None, option_map, Result}
use Rattle.std.specs.Str.{bytes_eq, is_utf8}
use Rattle.tpm_commands.specs.declared.error.CommandsError.{CommandsError}
use Rattle.tpm_commands.specs.declared.event.EventLine.{EventLine}
use Rattle.tpm_commands.specs.declared.event.EventLine.TheVariants as event
use Rattle.tpm_commands.specs.Clients.{client_of}
use Rattle.tpm_commands.specs.CommandLine.{command_of_words}
use Rattle.tpm_commands.specs.File.{Line, PassedOver, Spelled, Bad, items_of, line_of, lines_of}
use Rattle.pl_text.specs.Parts.{parts_of, one_of, two_of}
use Rattle.pl_text.specs.Words.{◌>>=◌, bytes_of}

-- a path has at least one byte, and is UTF-8
abbrev pub path_of : List ℕ → Option (List ℕ)
path_of word = if length word == 0 then None else if is_utf8 word then Some word else None

-- `step CLIENT`
abbrev pub step_of : ℕ → List (List ℕ) → Option EventLine
step_of clients words = do
  word ← one_of words
  client ← client_of clients word
  Some (event.Step client)

-- `command LINE`
abbrev pub stranger_of : List (List ℕ) → Option EventLine
stranger_of words = option_map (λ command. event.Stranger command) (command_of_words words)

-- `update PIN PATH`, with a pin of 32 bytes
abbrev pub update_of : List (List ℕ) → Option EventLine
update_of words = do
  word ← two_of words
  pin ← bytes_of 32 word.0
  path ← path_of word.1
  Some (event.Update pin path)

-- the event of a line's words
abbrev pub event_of_words : ℕ → List (List ℕ) → Option EventLine
event_of_words clients [] = None
event_of_words clients (first ∷ words) =
    if bytes_eq first (codes "step") then step_of clients words
    else if bytes_eq first (codes "command") then stranger_of words
    else if bytes_eq first (codes "update") then update_of words
    else None

-- the event that a line spells, given without its line feed
unfoldable pub event_of : ℕ → List ℕ → Option EventLine
event_of clients line = event_of_words clients (parts_of 32 line)

-- how many updates a file may have
abbrev pub update_limit : ℕ
update_limit = 256

-- how many updates there may be behind a line, of so many
abbrev pub left_behind : ℕ → Line EventLine → ℕ
left_behind more PassedOver = more
left_behind more Bad = more
left_behind more (Spelled (event.Step client)) = more
left_behind more (Spelled (event.Stranger command)) = more
left_behind more (Spelled (event.Update pin path)) = more - 1

-- a line where there may be so many updates: where there may be none, that of one is bad
abbrev pub allowed : ℕ → Line EventLine → Line EventLine
allowed more PassedOver = PassedOver
allowed more Bad = Bad
allowed more (Spelled (event.Step client)) = Spelled (event.Step client)
allowed more (Spelled (event.Stranger command)) = Spelled (event.Stranger command)
allowed zero (Spelled (event.Update pin path)) = Bad
allowed (suc more) (Spelled (event.Update pin path)) = Spelled (event.Update pin path)

-- the lines, of which so many may be updates
abbrev pub within_updates : ℕ → List (Line EventLine) → List (Line EventLine)
within_updates more [] = []
within_updates more (line ∷ lines) = allowed more line ∷ within_updates (left_behind more line) lines

-- the events of a file, or the first bad line, counted from 0 over all lines
unfoldable pub events_in : ℕ → List ℕ → Result (List EventLine) CommandsError
events_in clients text = items_of (within_updates update_limit (map (line_of (event_of clients)) (lines_of text)))
