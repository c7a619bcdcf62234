-- Lists of commands, one after the other.
use Rattle.std.proofs.Common.{◌≡◌, ℕ, ◌+◌, ◌<◌, List, [], ◌∷◌, ◌++◌, length, get_or, take, refl, sym, ap, ◌∙◌, append_assoc, append-nil}
use Rattle.std.specs.Prelude.{flat_map, map}
use Rattle.std.proofs.lemmas.List.{take_more}
use Rattle.tpm_model.specs.declared.command.Command.{Command}
use Rattle.tpm_model.specs.declared.parts.Parts.{Parts}
use Rattle.tpm_model.specs.declared.response.Response.{Response}
use Rattle.tpm_model.specs.Events.{command_of}
use Rattle.tpm_model.specs.Respond.{respond}
use Rattle.tpm_worlds.specs.CommandLists.{responses_to, state_after}
use Rattle.tpm_worlds.proofs.CommandLists.{responses_push}
use Rattle.tpm_commands.specs.Responses.{response_text}
use Rattle.pcrlock_exec.specs.Exec.{events_of, exec_text}

text_push : (answers : List Response) (answer : Response) → flat_map response_text (answers ++ answer ∷ []) ≡ flat_map response_text answers ++ response_text answer
text_push [] answer = append-nil (response_text answer)
text_push (x ∷ answers) answer = ap (λ rest. response_text x ++ rest) (text_push answers answer) ∙ sym (append_assoc (response_text x) (flat_map response_text answers) (response_text answer))

-- the text with the line of one more answer
pub text_next : (commands : List Command) (i : ℕ) (item : Command) (s : Parts) (before after : List ℕ) → i < length commands → item ≡ get_or commands i item
    → before ≡ exec_text (take i commands) s → after ≡ before ++ response_text (respond item (state_after (take i commands) s)).0
    → after ≡ exec_text (take (i + 1) commands) s
text_next commands i item s before after within is so_far one =
    let more : take (i + 1) commands ≡ take i commands ++ item ∷ [] = take_more commands i item within ∙ ap (λ x. take i commands ++ x ∷ []) (sym is) in
    one
    ∙ ap (λ text. text ++ response_text (respond item (state_after (take i commands) s)).0) so_far
    ∙ sym (text_push (responses_to (take i commands) s) (respond item (state_after (take i commands) s)).0)
    ∙ ap (flat_map response_text) (sym (responses_push (take i commands) item s))
    ∙ ap (λ list. exec_text list s) (sym more)

-- the events of commands are those commands
pub commands_back : (commands : List Command) → map command_of (events_of commands) ≡ commands
commands_back [] = refl
commands_back (c ∷ commands) = ap (λ rest. c ∷ rest) (commands_back commands)
