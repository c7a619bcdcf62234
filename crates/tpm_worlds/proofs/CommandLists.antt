-- One more command at the end of a list.
use Rattle.std.proofs.Common.{◌≡◌, ℕ, ◌+◌, ◌<◌, List, [], ◌∷◌, ◌++◌, length, get_or, take, refl, sym, ap, ◌∙◌}
use Rattle.std.proofs.lemmas.List.{take_more}
use Rattle.tpm_model.specs.declared.command.Command.{Command}
use Rattle.tpm_model.specs.declared.parts.Parts.{Parts}
use Rattle.tpm_model.specs.declared.response.Response.{Response}
use Rattle.tpm_model.specs.Respond.{respond}
use Rattle.tpm_worlds.specs.CommandLists.{responses_to, state_after}

pub state_push : (commands : List Command) (c : Command) (s : Parts) → state_after (commands ++ c ∷ []) s ≡ (respond c (state_after commands s)).1
state_push [] c s = refl
state_push (x ∷ xs) c s = state_push xs c (respond x s).1

pub responses_push : (commands : List Command) (c : Command) (s : Parts) → responses_to (commands ++ c ∷ []) s ≡ responses_to commands s ++ (respond c (state_after commands s)).0 ∷ []
responses_push [] c s = refl
responses_push (x ∷ xs) c s = ap (λ rs. (respond x s).0 ∷ rs) (responses_push xs c (respond x s).1)

-- the first of the commands, and the next
pub next : (commands : List Command) (i : ℕ) (item : Command) → i < length commands → item ≡ get_or commands i item → take (i + 1) commands ≡ take i commands ++ item ∷ []
next commands i item within is = take_more commands i item within ∙ ap (λ x. take i commands ++ x ∷ []) (sym is)

pub state_next : (commands : List Command) (i : ℕ) (item : Command) (s now : Parts) → i < length commands → item ≡ get_or commands i item → now ≡ state_after (take i commands) s
    → (respond item now).1 ≡ state_after (take (i + 1) commands) s
state_next commands i item s now within is so_far =
    ap (λ x. (respond item x).1) so_far ∙ sym (ap (λ xs. state_after xs s) (next commands i item within is) ∙ state_push (take i commands) item s)

pub responses_next : (commands : List Command) (i : ℕ) (item : Command) (s now : Parts) (responses : List Response) → i < length commands → item ≡ get_or commands i item
    → now ≡ state_after (take i commands) s → responses ≡ responses_to (take i commands) s
    → responses ++ (respond item now).0 ∷ [] ≡ responses_to (take (i + 1) commands) s
responses_next commands i item s now responses within is so_far told =
    ap (λ rs. rs ++ (respond item now).0 ∷ []) told ∙ ap (λ x. responses_to (take i commands) s ++ (respond item x).0 ∷ []) so_far
    ∙ sym (ap (λ xs. responses_to xs s) (next commands i item within is) ∙ responses_push (take i commands) item s)
