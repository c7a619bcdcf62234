-- Clients that are served one after the other, and leave.
use Rattle.std.proofs.Common.{◌≡◌, ◌≢◌, ◌⊎◌, ℕ, ◌+◌, ◌<◌, ◌≤◌, List, [], ◌∷◌, ◌++◌, length, get_or, take, drop, inl, inr, refl, sym, ap, ◌∙◌, subst, arith, append-nil, append_assoc}
use Rattle.std.specs.Prelude.{Option, Some, Result, Ok, Err, IfOk, IfErr}
use Rattle.std.proofs.lemmas.List.{take_more}
use Rattle.tpm_model.specs.declared.command.Command.{Command}
use Rattle.tpm_model.specs.declared.parts.Parts.{Parts}
use Rattle.tpm_model.specs.declared.response.Response.{Response}
use Rattle.tpm_device.specs.Stored.{Stored, Holds}
use Rattle.tpm_device.specs.declared.device.ExecError.{ExecError}
use Rattle.tpm_device.specs.declared.device.ExecError.TheVariants.{Failed, Memory}
use Rattle.tpm_broker.specs.declared.rows.Handles.{Handles}
use Rattle.tpm_broker.specs.Clients.{Client, changed, client_at, without_all}
use Rattle.tpm_broker.specs.Leaving.{LeaveStores, after_flushes}
use Rattle.tpm_broker.specs.Lists.{clients_left, state_left}
use Rattle.tpm_broker.specs.Served.{Served, ServeStores, served}
use Rattle.tpm_broker.proofs.Beside.{at_other}
use Rattle.tpm_broker.proofs.InOrder.{clients_next, state_next}
use Rattle.pcrlock_line.specs.Running.{Keeps, Runs}
use Rattle.pcrlock_broker.specs.Broker.{answer_line, answers_text}
use Rattle.pcrlock_broker.specs.Serving.{IsServed, IsServedPartWay}

-- ---- one command

pub stored_either : (out : Served) (s : Parts) (stop : ExecError) (kept : Option Stored) → ServeStores out s (Err stop) kept → Keeps kept s ⊎ Keeps kept out.state
stored_either out s Failed kept (inl same) = inl (record { stored = same })
stored_either out s Failed kept (inr next) = inr (record { stored = next })
stored_either out s Memory kept same = inl (record { stored = same })

-- ---- one after the other

text_push : (asked : List (ℕ × Command)) (one : ℕ × Command) (clients : List Client) (s : Parts)
    → answers_text (asked ++ one ∷ []) clients s ≡ answers_text asked clients s ++ answer_line one.0 (served one.0 one.1 (clients_left asked clients s) (state_left asked clients s)).answer
text_push [] one clients s = append-nil (answer_line one.0 (served one.0 one.1 clients s).answer)
text_push (x ∷ xs) one clients s =
    let out = served x.0 x.1 clients s in
    ap (λ more. answer_line x.0 out.answer ++ more) (text_push xs one out.clients out.state)
    ∙ sym (append_assoc (answer_line x.0 out.answer) (answers_text xs out.clients out.state)
    (answer_line one.0 (served one.0 one.1 (clients_left xs out.clients out.state) (state_left xs out.clients out.state)).answer))

-- the text with the line of one more answer
pub text_next : (asked : List (ℕ × Command)) (i : ℕ) (one : ℕ × Command) (before clients : List Client) (s : Parts) (text more : List ℕ) → i < length asked → one ≡ get_or asked i one
    → clients ≡ clients_left (take i asked) before s → text ≡ answers_text (take i asked) before s
    → more ≡ text ++ answer_line one.0 (served one.0 one.1 clients (state_left (take i asked) before s)).answer → more ≡ answers_text (take (i + 1) asked) before s
text_next asked i one before clients s text more within is left so_far next =
    let list : take (i + 1) asked ≡ take i asked ++ one ∷ [] = take_more asked i one within ∙ ap (λ x. take i asked ++ x ∷ []) (sym is) in
    next
    ∙ ap (λ t. t ++ answer_line one.0 (served one.0 one.1 clients (state_left (take i asked) before s)).answer) so_far
    ∙ ap (λ cs. answers_text (take i asked) before s ++ answer_line one.0 (served one.0 one.1 cs (state_left (take i asked) before s)).answer) left
    ∙ sym (ap (λ xs. answers_text xs before s) list ∙ text_push (take i asked) one before s)

-- the device runs on with the state behind one command more
pub served_next : (now : Option Parts) (kept : Option Stored) (asked : List (ℕ × Command)) (i : ℕ) (one : ℕ × Command) (before clients : List Client) (s : Parts) → i < length asked
    → one ≡ get_or asked i one → clients ≡ clients_left (take i asked) before s
    → Runs now kept (served one.0 one.1 clients (state_left (take i asked) before s)).state → Runs now kept (state_left (take (i + 1) asked) before s)
served_next now kept asked i one before clients s within is left runs = subst (Runs now kept) (state_next asked i one before clients s within is left) runs

pub served_way : (kept : Option Stored) (asked : List (ℕ × Command)) (i : ℕ) (one : ℕ × Command) (before clients : List Client) (s : Parts) → i < length asked
    → one ≡ get_or asked i one → clients ≡ clients_left (take i asked) before s
    → Keeps kept (state_left (take i asked) before s) ⊎ Keeps kept (served one.0 one.1 clients (state_left (take i asked) before s)).state → IsServedPartWay kept asked before s
served_way kept asked i one before clients s within is left (inl same) = record { count = i; few = omega (arith, within); keeps = same }
served_way kept asked i one before clients s within is left (inr next) = record {
  count = i + 1;
  few = omega (arith, within);
  keeps = subst (Keeps kept) (state_next asked i one before clients s within is left) next;
}

-- ---- clients that leave

pub left_part : (sessions : List Handles) (s : Parts) (stop : ExecError) (kept : Option Stored) → LeaveStores sessions s (Err stop) kept
    → (n : ℕ) × (n ≤ length sessions) × Keeps kept (after_flushes (take n sessions) s)
left_part sessions s stop kept h = (h.0, h.1, record { stored = h.2 })

-- the clients behind the one that left are as they were
pub others_left : (before clients now : List Client) (i : ℕ) → ((j : ℕ) → i ≤ j → client_at j clients ≡ client_at j before) → now ≡ changed i without_all clients
    → (j : ℕ) → i + 1 ≤ j → client_at j now ≡ client_at j before
others_left before clients now i same is j behind =
    ap (client_at j) is ∙ at_other i j without_all clients (λ e. omega (arith, behind, e)) ∙ same j (omega (arith, behind))
