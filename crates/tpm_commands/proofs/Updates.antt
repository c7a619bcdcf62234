-- The updates of a file of events, counted.
use Rattle.std.proofs.Common.{◌≡◌, ℕ, zero, suc, Bool, true, false, cond, List, [], ◌∷◌, Option, None, Some, refl, ap, ◌∙◌}
use Rattle.std.specs.Prelude.{map}
use Rattle.std.specs.Str.{is_utf8}
use Rattle.tpm_commands.specs.declared.event.EventLine.{EventLine}
use Rattle.tpm_commands.specs.declared.event.EventLine.TheVariants as event
use Rattle.tpm_commands.specs.declared.events.EventLines.{EventLines}
use Rattle.tpm_commands.specs.Events.{allowed, event_of, left_behind, within_updates}
use Rattle.tpm_commands.specs.File.{Line, PassedOver, Spelled, Bad, is_passed_over, line_of, spelled}
use Rattle.tpm_commands.specs.Walk.{behind_line, left_after, lines_by, permitted}
use Rattle.tpm_commands.proofs.Walks.{first_by}

-- the grammar where there may be so many updates
abbrev lines_left : ℕ → ℕ → EventLines
lines_left clients more = record { clients = clients; updates = more }

abbrev spelled_by : EventLines → List ℕ → Option EventLine
spelled_by grammar line = permitted grammar.updates (event_of grammar.clients line)

abbrev behind_by : EventLines → List ℕ → EventLines
behind_by grammar line = record grammar { updates = left_after grammar.updates (event_of grammar.clients line) }

-- what a line is, whether it is passed over and is UTF-8
abbrev line_as : Bool → Bool → Option EventLine → Line EventLine
line_as over whole found = cond over (cond whole PassedOver Bad) (spelled found)

allowed_as : (over whole : Bool) (more : ℕ) (found : Option EventLine) → line_as over whole (permitted more found) ≡ allowed more (line_as over whole found)
allowed_as true true more found = refl
allowed_as true false more found = refl
allowed_as false whole more None = refl
allowed_as false whole more (Some (event.Step client)) = refl
allowed_as false whole more (Some (event.Stranger command)) = refl
allowed_as false whole zero (Some (event.Update pin path)) = refl
allowed_as false whole (suc more) (Some (event.Update pin path)) = refl

left_as : (over whole : Bool) (clients more : ℕ) (found : Option EventLine)
    → cond over (lines_left clients more) (lines_left clients (left_after more found)) ≡ lines_left clients (left_behind more (line_as over whole found))
left_as true true clients more found = refl
left_as true false clients more found = refl
left_as false whole clients more None = refl
left_as false whole clients more (Some (event.Step client)) = refl
left_as false whole clients more (Some (event.Stranger command)) = refl
left_as false whole clients more (Some (event.Update pin path)) = refl

allowed_line : (clients more : ℕ) (text : List ℕ) → line_of (spelled_by (lines_left clients more)) text ≡ allowed more (line_of (event_of clients) text)
unfolding line_of
allowed_line clients more text = allowed_as (is_passed_over text) (is_utf8 text) more (event_of clients text)

left_line : (clients more : ℕ) (text : List ℕ) → behind_line behind_by (lines_left clients more) text ≡ lines_left clients (left_behind more (line_of (event_of clients) text))
unfolding line_of
left_line clients more text = left_as (is_passed_over text) (is_utf8 text) clients more (event_of clients text)

-- the lines by the grammar are those of which so many may be updates
pub events_by : (clients more : ℕ) (texts : List (List ℕ)) → lines_by spelled_by behind_by (lines_left clients more) texts ≡ within_updates more (map (line_of (event_of clients)) texts)
unfolding lines_by
events_by clients more [] = refl
events_by clients more (text ∷ texts) =
    let line : Line EventLine = line_of (event_of clients) text in
    ap (λ l. l ∷ lines_by spelled_by behind_by (behind_line behind_by (lines_left clients more) text) texts) (allowed_line clients more text)
    ∙ ap (λ g. allowed more line ∷ lines_by spelled_by behind_by g texts) (left_line clients more text)
    ∙ ap (λ lines. allowed more line ∷ lines) (events_by clients (left_behind more line) texts)
