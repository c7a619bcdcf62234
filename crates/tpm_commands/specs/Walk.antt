-- For private clauses: the lines of a file, one after the other.
use Rattle.std.specs.Prelude.{ℕ, zero, suc, ◌+◌, ◌-◌, if◌then◌else◌, List, [], ◌∷◌, ◌++◌, Option, None, Some, Result, Ok, Err}
use Rattle.tpm_commands.specs.declared.error.CommandsError.{CommandsError}
use Rattle.tpm_commands.specs.declared.error.CommandsError.TheVariants.{BadLine, TooMany}
use Rattle.tpm_commands.specs.declared.event.EventLine.{EventLine}
use Rattle.tpm_commands.specs.declared.event.EventLine.TheVariants as event
use Rattle.tpm_commands.specs.File.{Line, PassedOver, Spelled, Bad, is_passed_over, line_of}

infixl 10 ◌>>=◌
abbrev pub ◌>>=◌ : {A B : Type 0} → Result A CommandsError → (A → Result B CommandsError) → Result B CommandsError
(Ok x) >>= f = f x
(Err e) >>= f = Err e

-- the items before and that of a line, which has this place in the file
abbrev pub taken : {A : Type 0} → ℕ → List A → Line A → Result (List A) CommandsError
taken place before PassedOver = Ok before
taken place before (Spelled item) = Ok (before ++ item ∷ [])
taken place before Bad = Err (BadLine place)

-- the items before, and those of the lines, of which there may be this many more; the first of them
-- has this place in the file
unfoldable pub items_from : {A : Type 0} → ℕ → ℕ → List A → List (Line A) → Result (List A) CommandsError
items_from place more before [] = Ok before
items_from place zero before (line ∷ lines) = Err TooMany
items_from place (suc more) before (line ∷ lines) = do
  next ← taken place before line
  items_from (place + 1) more next lines

-- the grammar behind a line
abbrev pub behind_line : {G : Type 0} → (G → List ℕ → G) → G → List ℕ → G
behind_line behind grammar text = if is_passed_over text then grammar else behind grammar text

-- the lines by a grammar, which is another one behind each
unfoldable pub lines_by : {G A : Type 0} → (G → List ℕ → Option A) → (G → List ℕ → G) → G → List (List ℕ) → List (Line A)
lines_by spells behind grammar [] = []
lines_by spells behind grammar (text ∷ texts) =
    line_of (spells grammar) text ∷ lines_by spells behind (behind_line behind grammar text) texts

-- an event where there may be so many updates more: where there may be none, that of one is none
abbrev pub permitted : ℕ → Option EventLine → Option EventLine
permitted more None = None
permitted more (Some (event.Step client)) = Some (event.Step client)
permitted more (Some (event.Stranger command)) = Some (event.Stranger command)
permitted zero (Some (event.Update pin path)) = None
permitted (suc more) (Some (event.Update pin path)) = Some (event.Update pin path)

-- how many updates there may be behind it
abbrev pub left_after : ℕ → Option EventLine → ℕ
left_after more None = more
left_after more (Some (event.Step client)) = more
left_after more (Some (event.Stranger command)) = more
left_after more (Some (event.Update pin path)) = more - 1
