-- A file of lines, each of which is passed over or spells something: a file of commands has one on each line.
use Rattle.std.specs.Prelude.{ℕ, ◌==◌, Bool, true, false, nat_lt, if◌then◌else◌, List, [], ◌∷◌, take, map, length, position, Option, Some, None, Result, Ok, Err}
use Rattle.std.specs.List.{filter_map}
use Rattle.std.specs.Str.{is_utf8}
use Rattle.tpm_model.specs.declared.command.Command.{Command}
use Rattle.tpm_commands.specs.declared.error.CommandsError.{CommandsError}
use Rattle.tpm_commands.specs.declared.error.CommandsError.TheVariants.{BadLine, TooMany}
use Rattle.tpm_commands.specs.CommandLine.{command_of}
use Rattle.pl_text.specs.Parts.{parts_of}

-- all but an empty last part
abbrev pub without_last_empty : List (List ℕ) → List (List ℕ)
without_last_empty [] = []
without_last_empty ([] ∷ []) = []
without_last_empty (part ∷ parts) = part ∷ without_last_empty parts

-- the lines of a text; each ends in a line feed, which the last may lack
unfoldable pub lines_of : List ℕ → List (List ℕ)
lines_of text = without_last_empty (parts_of 10 text)

-- whether a line is passed over: it is empty, or begins with `#`
abbrev pub is_passed_over : List ℕ → Bool
is_passed_over [] = true
is_passed_over (first ∷ rest) = first == 35

-- what a line is: passed over, one that spells something, or neither
pub data Line (A : Type 0) : Type 0 where
  PassedOver : Line A
  Spelled : A → Line A
  Bad : Line A

-- a line of what it spells, or one that spells nothing
abbrev pub spelled : {A : Type 0} → Option A → Line A
spelled None = Bad
spelled (Some item) = Spelled item

-- what a line is, by what lines spell; one that is passed over is UTF-8 nevertheless
unfoldable pub line_of : {A : Type 0} → (List ℕ → Option A) → List ℕ → Line A
line_of spells text =
    if is_passed_over text then (if is_utf8 text then PassedOver else Bad)
    else spelled (spells text)

abbrev pub is_bad : {A : Type 0} → Line A → Bool
is_bad Bad = true
is_bad PassedOver = false
is_bad (Spelled item) = false

abbrev pub item_in : {A : Type 0} → Line A → Option A
item_in Bad = None
item_in PassedOver = None
item_in (Spelled item) = Some item

-- how many lines a file may have, those that are passed over among them
abbrev pub line_limit : ℕ
line_limit = 65536

-- what the lines spell, by the place of the first bad one among as many as there may be
abbrev pub items_by : {A : Type 0} → List (Line A) → Option ℕ → Result (List A) CommandsError
items_by lines (Some place) = Err (BadLine place)
items_by lines None =
    if nat_lt line_limit (length lines) then Err TooMany
    else Ok (filter_map item_in lines)

-- what the lines spell, or the first bad line, counted from 0 over all lines
abbrev pub items_of : {A : Type 0} → List (Line A) → Result (List A) CommandsError
items_of lines = items_by lines (position is_bad (take line_limit lines))

-- the commands of a file, or the first bad line
unfoldable pub commands_of : List ℕ → Result (List Command) CommandsError
commands_of text = items_of (map (line_of command_of) (lines_of text))
