-- One more command at the end of a list.
use Rattle.std.proofs.Common.{◌≡◌, ◌⊎◌, inl, ℕ, ◌+◌, ◌<◌, List, [], ◌∷◌, ◌++◌, length, get_or, take, refl, sym, ap, ◌∙◌}
use Rattle.std.specs.Prelude.{Option, Some, Err}
use Rattle.std.proofs.lemmas.List.{take_more}
use Rattle.tpm_model.specs.declared.command.Command.{Command}
use Rattle.tpm_model.specs.declared.parts.Parts.{Parts}
use Rattle.tpm_model.specs.declared.response.Response.{Response}
use Rattle.tpm_device.specs.Stored.{Stored, Holds}
use Rattle.tpm_device.specs.declared.device.ExecError.{ExecError}
use Rattle.tpm_device.specs.declared.device.ExecError.TheVariants.{Failed, Memory}
use Rattle.tpm_broker.specs.Clients.{Client}
use Rattle.tpm_broker.specs.Lists.{answers_to, clients_left, state_left}
use Rattle.tpm_broker.specs.Served.{Served, ServeGives, ServeStores, served}

pub memory_leaves : (out : Served) (s : Parts) (stop : ExecError) (clients : List Client) (live : Option Parts) → ServeGives out s (Err stop) clients live → stop ≡ Memory → live ≡ Some s
memory_leaves out s Failed clients live h e = cc
memory_leaves out s Memory clients live h e = h

-- what is left after the first commands, and the answers to them
pub record SoFar (asked : List (ℕ × Command)) (before : List Client) (s : Parts) (responses : List Response) (clients : List Client) (live : Option Parts) : Type 0 where
  pub answers : responses ≡ answers_to asked before s
  pub clients_are : clients ≡ clients_left asked before s
  pub state : live ≡ Some (state_left asked before s)

answers_push : (asked : List (ℕ × Command)) (one : ℕ × Command) (clients : List Client) (s : Parts)
    → answers_to (asked ++ one ∷ []) clients s ≡ answers_to asked clients s ++ (served one.0 one.1 (clients_left asked clients s) (state_left asked clients s)).answer ∷ []
answers_push [] one clients s = refl
answers_push (x ∷ xs) one clients s = let out = served x.0 x.1 clients s in ap (λ rs. out.answer ∷ rs) (answers_push xs one out.clients out.state)

clients_push : (asked : List (ℕ × Command)) (one : ℕ × Command) (clients : List Client) (s : Parts)
    → clients_left (asked ++ one ∷ []) clients s ≡ (served one.0 one.1 (clients_left asked clients s) (state_left asked clients s)).clients
clients_push [] one clients s = refl
clients_push (x ∷ xs) one clients s = let out = served x.0 x.1 clients s in clients_push xs one out.clients out.state

state_push : (asked : List (ℕ × Command)) (one : ℕ × Command) (clients : List Client) (s : Parts)
    → state_left (asked ++ one ∷ []) clients s ≡ (served one.0 one.1 (clients_left asked clients s) (state_left asked clients s)).state
state_push [] one clients s = refl
state_push (x ∷ xs) one clients s = let out = served x.0 x.1 clients s in state_push xs one out.clients out.state

-- the first commands and the next
next : (asked : List (ℕ × Command)) (i : ℕ) (one : ℕ × Command) → i < length asked → one ≡ get_or asked i one → take (i + 1) asked ≡ take i asked ++ one ∷ []
next asked i one within is = take_more asked i one within ∙ ap (λ x. take i asked ++ x ∷ []) (sym is)

pub clients_next : (asked : List (ℕ × Command)) (i : ℕ) (one : ℕ × Command) (before clients : List Client) (s : Parts) → i < length asked → one ≡ get_or asked i one
    → clients ≡ clients_left (take i asked) before s
    → (served one.0 one.1 clients (state_left (take i asked) before s)).clients ≡ clients_left (take (i + 1) asked) before s
clients_next asked i one before clients s within is e =
    ap (λ cs. (served one.0 one.1 cs (state_left (take i asked) before s)).clients) e
    ∙ sym (ap (λ xs. clients_left xs before s) (next asked i one within is) ∙ clients_push (take i asked) one before s)

pub state_next : (asked : List (ℕ × Command)) (i : ℕ) (one : ℕ × Command) (before clients : List Client) (s : Parts) → i < length asked → one ≡ get_or asked i one
    → clients ≡ clients_left (take i asked) before s
    → (served one.0 one.1 clients (state_left (take i asked) before s)).state ≡ state_left (take (i + 1) asked) before s
state_next asked i one before clients s within is e =
    ap (λ cs. (served one.0 one.1 cs (state_left (take i asked) before s)).state) e
    ∙ sym (ap (λ xs. state_left xs before s) (next asked i one within is) ∙ state_push (take i asked) one before s)

answers_next : (asked : List (ℕ × Command)) (i : ℕ) (one : ℕ × Command) (before clients : List Client) (s : Parts) (responses : List Response) → i < length asked → one ≡ get_or asked i one
    → clients ≡ clients_left (take i asked) before s → responses ≡ answers_to (take i asked) before s
    → responses ++ (served one.0 one.1 clients (state_left (take i asked) before s)).answer ∷ [] ≡ answers_to (take (i + 1) asked) before s
answers_next asked i one before clients s responses within is e f =
    ap (λ rs. rs ++ (served one.0 one.1 clients (state_left (take i asked) before s)).answer ∷ []) f
    ∙ ap (λ cs. answers_to (take i asked) before s ++ (served one.0 one.1 cs (state_left (take i asked) before s)).answer ∷ []) e
    ∙ sym (ap (λ xs. answers_to xs before s) (next asked i one within is) ∙ answers_push (take i asked) one before s)

pub so_far_next : (asked : List (ℕ × Command)) (i : ℕ) (one : ℕ × Command) (before clients now : List Client) (s : Parts) (responses more : List Response) (was live : Option Parts)
    → i < length asked → one ≡ get_or asked i one → SoFar (take i asked) before s responses clients was
    → let out = served one.0 one.1 clients (state_left (take i asked) before s) in
    (more ≡ responses ++ out.answer ∷ []) × (now ≡ out.clients) × (live ≡ Some out.state) → SoFar (take (i + 1) asked) before s more now live
so_far_next asked i one before clients now s responses more was live within is so_far out = record {
  answers = out.0 ∙ answers_next asked i one before clients s responses within is so_far.clients_are so_far.answers;
  clients_are = out.1 ∙ clients_next asked i one before clients s within is so_far.clients_are;
  state = out.2 ∙ ap Some (state_next asked i one before clients s within is so_far.clients_are);
}

pub either_stored : (out : Served) (s : Parts) (stop : ExecError) (stored : Option Stored) → ServeStores out s (Err stop) stored → (stored ≡ Some (Holds s)) ⊎ (stored ≡ Some (Holds out.state))
either_stored out s Failed stored h = h
either_stored out s Memory stored h = inl h
