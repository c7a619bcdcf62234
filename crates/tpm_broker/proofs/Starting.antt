-- A start, on the TPM with all clients and for one of them alone.
use Rattle.std.proofs.Common.{◌≡◌, ℕ, ◌+◌, ◌<◌, ◌≤◌, ◌≢◌, true, false, not, ◌&&◌, List, [], ◌∷◌, ◌++◌, length, refl, sym, ap, ◌∙◌, subst, arith}
use Rattle.std.specs.Prelude.{nat_le}
use Rattle.std.proofs.lemmas.Bool.{and_from, and_left, and_right, cond-false, cond-true, cond_both, leb-false, lt-leb, not-false, not-true}
use Rattle.hash_bank.specs.declared.bank.Bank.{Bank}
use Rattle.tpm_model.specs.declared.command.Command.TheVariants as command
use Rattle.tpm_model.specs.declared.parts.Parts.{Parts}
use Rattle.tpm_model.specs.declared.response.Response.{Response}
use Rattle.tpm_model.specs.declared.response.Response.TheVariants as answer
use Rattle.tpm_model.specs.declared.response.Refusal.TheVariants as refusal
use Rattle.tpm_model.specs.declared.sessions.Session.{Session}
use Rattle.tpm_model.specs.Refusing.{refused}
use Rattle.tpm_model.specs.SessionCommands.{session_handle, start_session}
use Rattle.tpm_model.specs.Sessions.{fresh_session, is_session_hash}
use Rattle.tpm_broker.specs.declared.plan.Plan.{Plan}
use Rattle.tpm_broker.specs.Alone.{one_if_passed, start_of_four}
use Rattle.tpm_broker.specs.Clients.{Client, client_at, with_started}
use Rattle.tpm_broker.specs.Served.{served_by, settled, start_plan}
use Rattle.tpm_broker.proofs.Held.{held_length}
use Rattle.tpm_broker.proofs.Beside.{Beside, at_other, at_same, mine_starts, other_starts, room_for, rows_of}
use Rattle.tpm_broker.proofs.Alike.{alone_state}
use Rattle.tpm_broker.proofs.Steps.{Goes, Matches, alone_now, goes_on, goes_up, served_with}

-- a new session, and its handle
abbrev begun : Bank → Parts → Response × Parts
begun hash s = (
  answer.Session (session_handle s.next_session),
  record s { next_session = s.next_session + 1; sessions = s.sessions ++ fresh_session hash (session_handle s.next_session) ∷ [] },
)

accepts : (hash : Bank) (s : Parts) → not (is_session_hash hash) ≡ false → length s.sessions < 64 → s.next_session < 0x01000000 → start_session hash s ≡ begun hash s
accepts hash s right few low =
    cond-false (not (is_session_hash hash)) _ _ right ∙ cond-false (nat_le 64 (length s.sessions)) _ _ (lt-leb 64 (length s.sessions) few)
    ∙ cond-false (nat_le 0x01000000 s.next_session) _ _ (lt-leb 0x01000000 s.next_session low)

-- the four outcomes of a start on a TPM with room for four sessions
wrong_hash : (hash : Bank) (t : Parts) → not (is_session_hash hash) ≡ true → start_of_four hash t ≡ refused refusal.Value t
wrong_hash hash t wrong =
    cond-false (is_session_hash hash && nat_le 4 (length t.sessions)) _ _ (and_left (is_session_hash hash) _ (not-true _ wrong)) ∙ cond-true (not (is_session_hash hash)) _ _ wrong

full : (hash : Bank) (t : Parts) → not (is_session_hash hash) ≡ false → nat_le 4 (length t.sessions) ≡ true → start_of_four hash t ≡ refused refusal.SessionsFull t
full hash t right four = cond-true (is_session_hash hash && nat_le 4 (length t.sessions)) _ _ (and_from (is_session_hash hash) _ (not-false _ right) four)

not_full : (hash : Bank) (t : Parts) → nat_le 4 (length t.sessions) ≡ false → start_of_four hash t ≡ start_session hash t
not_full hash t few = cond-false (is_session_hash hash && nat_le 4 (length t.sessions)) _ _ (and_right (is_session_hash hash) _ few)

at_end : (hash : Bank) (t : Parts) → not (is_session_hash hash) ≡ false → length t.sessions < 64 → nat_le 0x01000000 t.next_session ≡ true → start_session hash t ≡ refused refusal.HandlesEnd t
at_end hash t right few all =
    cond-false (not (is_session_hash hash)) _ _ right ∙ cond-false (nat_le 64 (length t.sessions)) _ _ (lt-leb 64 (length t.sessions) few)
    ∙ cond-true (nat_le 0x01000000 t.next_session) _ _ all

-- nothing changes
same_refusal : (k n limit : ℕ) (why : Response) (clients : List Client) (s : Parts) (ts : List Session) (r : Response × Parts) → Beside k n clients s.sessions s.next_session ts
    → s.next_session ≤ limit → r ≡ (why, alone_now k clients ts s) → Matches k n limit (served_with why clients s) r
same_refusal k n limit why clients s ts r h low e =
    subst (Matches k n limit (served_with why clients s)) (sym e) (record { told = refl; goes = goes_up k n s.next_session limit _ _ low (goes_on k n why clients s s ts h refl refl) })

-- client k starts a session
pub mine_start : (k n : ℕ) (hash : Bank) (clients : List Client) (s : Parts) (ts : List Session) → Beside k n clients s.sessions s.next_session ts → k < n
    → s.next_session + one_if_passed (start_plan hash (client_at k clients)) ≤ 0x01000000
    → Matches k n (s.next_session + one_if_passed (start_plan hash (client_at k clients))) (served_by (start_plan hash (client_at k clients)) k (command.StartSession hash) clients s)
    (start_of_four hash (alone_now k clients ts s))
mine_start k n hash clients s ts h low limit =
    let client = client_at k clients in
    let t = alone_now k clients ts s in
    let P : Plan → Type 0 = λ p. s.next_session + one_if_passed p ≤ 0x01000000
    → Matches k n (s.next_session + one_if_passed p) (served_by p k (command.StartSession hash) clients s) (start_of_four hash t) in
    let as_many : length ts ≡ length client.sessions = held_length (rows_of k clients) s.sessions ts h.held in
    cond_both (not (is_session_hash hash)) _ _ P
    (λ wrong _. same_refusal k n (s.next_session + 0) (answer.Refused refusal.Value) clients s ts _ h (omega arith) (wrong_hash hash t wrong)) (λ right.
    cond_both (nat_le 4 (length client.sessions)) _ _ P
    (λ four _. same_refusal k n (s.next_session + 0) (answer.Refused refusal.SessionsFull) clients s ts _ h (omega arith) (full hash t right (ap (nat_le 4) as_many ∙ four))) (λ few.
    let less : length client.sessions < 4 = leb-false _ _ few in
    let open_alone : length ts < 64 = omega (arith, as_many) in
    let small : start_of_four hash t ≡ start_session hash t = not_full hash t (ap (nat_le 4) as_many ∙ few) in
    cond_both (nat_le 0x01000000 client.had) _ _ P
    (λ all _. same_refusal k n (s.next_session + 0) (answer.Refused refusal.HandlesEnd) clients s ts _ h (omega arith) (small ∙ at_end hash t right open_alone all)) (λ numbers ok.
    let within : k < length clients = omega (arith, h.count) in
    let here : start_session hash s ≡ begun hash s = accepts hash s right (room_for k clients s.sessions within less h.room) (omega (arith, ok)) in
    let there : start_of_four hash t ≡ begun hash t = small ∙ accepts hash t right open_alone (leb-false _ _ numbers) in
    let new = session_handle s.next_session in
    let x = fresh_session hash (session_handle client.had) in
    let after = (begun hash s).1 in
    subst (λ o. Matches k n (s.next_session + 1) (settled k (command.StartSession hash) o clients) (start_of_four hash t)) (sym here)
    (subst (Matches k n (s.next_session + 1) (settled k (command.StartSession hash) (begun hash s) clients)) (sym there)
    (record {
      told = refl;
      goes = record {
        sessions = ts ++ x ∷ [];
        beside = mine_starts k n x clients s.sessions s.next_session ts h low less refl;
        same = ap (λ (d : Client). alone_state d.had (ts ++ x ∷ []) after) (sym (at_same k (with_started new) clients within));
        number = omega arith;
      };
    }))))) limit

-- another client starts a session
pub other_start : (k n m : ℕ) (hash : Bank) (clients : List Client) (s : Parts) (ts : List Session) → Beside k n clients s.sessions s.next_session ts → m < n → m ≢ k
    → s.next_session + one_if_passed (start_plan hash (client_at m clients)) ≤ 0x01000000
    → Goes k n (s.next_session + one_if_passed (start_plan hash (client_at m clients))) (served_by (start_plan hash (client_at m clients)) m (command.StartSession hash) clients s)
    (alone_now k clients ts s)
other_start k n m hash clients s ts h low ne limit =
    let client = client_at m clients in
    let t = alone_now k clients ts s in
    let P : Plan → Type 0 = λ p. s.next_session + one_if_passed p ≤ 0x01000000
    → Goes k n (s.next_session + one_if_passed p) (served_by p m (command.StartSession hash) clients s) t in
    let stays : (why : Response) → Goes k n (s.next_session + 0) (served_with why clients s) t =
    λ why. goes_up k n s.next_session (s.next_session + 0) (served_with why clients s) t (omega arith) (goes_on k n why clients s s ts h refl refl) in
    cond_both (not (is_session_hash hash)) _ _ P (λ wrong _. stays (answer.Refused refusal.Value)) (λ right.
    cond_both (nat_le 4 (length client.sessions)) _ _ P (λ four _. stays (answer.Refused refusal.SessionsFull)) (λ few.
    cond_both (nat_le 0x01000000 client.had) _ _ P (λ all _. stays (answer.Refused refusal.HandlesEnd)) (λ numbers ok.
    let within : m < length clients = omega (arith, h.count) in
    let less : length client.sessions < 4 = leb-false _ _ few in
    let here : start_session hash s ≡ begun hash s = accepts hash s right (room_for m clients s.sessions within less h.room) (omega (arith, ok)) in
    let new = session_handle s.next_session in
    let after = (begun hash s).1 in
    subst (λ o. Goes k n (s.next_session + 1) (settled m (command.StartSession hash) o clients) t) (sym here)
    (record {
      sessions = ts;
      beside = other_starts k n m (fresh_session hash new) clients s.sessions s.next_session ts h low ne less refl;
      same = ap (λ (d : Client). alone_state d.had ts after) (sym (at_other m k (with_started new) clients (λ same. ne (sym same))));
      number = omega arith;
    })))) limit
