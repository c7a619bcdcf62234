-- Each client of the broker is answered as if it were alone.
use Rattle.std.proofs.Common.{◌≡◌, inl, inr, ℕ, zero, suc, ◌+◌, ◌*◌, ◌<◌, ◌≤◌, ◌≢◌, true, false, cond, List, [], ◌∷◌, length, map, replicate, refl, sym, ap, ◌∙◌, subst, arith}
use Rattle.std.specs.List.{AllByRecursion}
use Rattle.std.proofs.lemmas.Bool.Decides.{eqb_tells}
use Rattle.std.proofs.lemmas.List.{length-replicate}
use Rattle.tpm_model.specs.declared.command.Command.{Command}
use Rattle.tpm_model.specs.declared.command.Command.TheVariants as command
use Rattle.tpm_model.specs.declared.parts.Parts.{Parts}
use Rattle.tpm_model.specs.declared.sessions.Session.{Session}
use Rattle.tpm_model.specs.Respond.{respond}
use Rattle.tpm_model.specs.Rules.{HasRules}
use Rattle.tpm_model.specs.SessionCommands.{session_handle}
use Rattle.tpm_model.proofs.Handles.{AreHandles, handles_from_test}
use Rattle.tpm_broker.specs.Alone.{alone, at_places, is_session_command, respond_of_four, sessions_started, starts, without_sessions}
use Rattle.tpm_broker.specs.Clients.{Client, client_at, new_client}
use Rattle.tpm_broker.specs.Lists.{answers_to}
use Rattle.tpm_broker.specs.Served.{served}
use Rattle.tpm_broker.specs.declared.rows.Handles.{Handles}
use Rattle.tpm_broker.proofs.Held.{AreHeld, IsIn}
use Rattle.tpm_broker.proofs.Beside.{Beside, room_left}
use Rattle.tpm_broker.proofs.Alike.{alone_state}
use Rattle.tpm_broker.proofs.Steps.{Goes, Matches, alone_now, goes_up, matches_up, mine_digest, mine_flush, mine_nv, mine_or, mine_pcr, mine_unseal, plain_step}
use Rattle.tpm_broker.proofs.Starting.{mine_start, other_start}
use Rattle.tpm_broker.proofs.Others.{other_digest, other_flush, other_nv, other_or, other_pcr, other_unseal}

-- a command of client k
mine_step : (k n : ℕ) (c : Command) (clients : List Client) (s : Parts) (ts : List Session) → Beside k n clients s.sessions s.next_session ts → k < n
    → s.next_session + starts c (client_at k clients) ≤ 0x01000000
    → Matches k n (s.next_session + starts c (client_at k clients)) (served k c clients s) (respond_of_four c (alone_now k clients ts s))
mine_step k n (command.Restart locality banks) clients s ts h low limit = matches_up k n s.next_session (s.next_session + 0) _ _ (omega arith) (plain_step k n k (command.Restart locality banks) clients s ts h refl)
mine_step k n (command.PcrExtend pcr digests) clients s ts h low limit = matches_up k n s.next_session (s.next_session + 0) _ _ (omega arith) (plain_step k n k (command.PcrExtend pcr digests) clients s ts h refl)
mine_step k n (command.PcrRead bank pcr) clients s ts h low limit = matches_up k n s.next_session (s.next_session + 0) _ _ (omega arith) (plain_step k n k (command.PcrRead bank pcr) clients s ts h refl)
mine_step k n (command.StartSession hash) clients s ts h low limit = mine_start k n hash clients s ts h low limit
mine_step k n (command.PolicyPcr session bank pcrs) clients s ts h low limit = matches_up k n s.next_session (s.next_session + 0) _ _ (omega arith) (mine_pcr k n session bank pcrs clients s ts h)
mine_step k n (command.PolicyOr session list) clients s ts h low limit = matches_up k n s.next_session (s.next_session + 0) _ _ (omega arith) (mine_or k n session list clients s ts h)
mine_step k n (command.PolicyAuthorizeNv session index) clients s ts h low limit = matches_up k n s.next_session (s.next_session + 0) _ _ (omega arith) (mine_nv k n session index clients s ts h)
mine_step k n (command.PolicyGetDigest session) clients s ts h low limit = matches_up k n s.next_session (s.next_session + 0) _ _ (omega arith) (mine_digest k n session clients s ts h)
mine_step k n (command.FlushSession session) clients s ts h low limit = matches_up k n s.next_session (s.next_session + 0) _ _ (omega arith) (mine_flush k n session clients s ts h low)
mine_step k n (command.NvDefine public) clients s ts h low limit = matches_up k n s.next_session (s.next_session + 0) _ _ (omega arith) (plain_step k n k (command.NvDefine public) clients s ts h refl)
mine_step k n (command.NvUndefine index) clients s ts h low limit = matches_up k n s.next_session (s.next_session + 0) _ _ (omega arith) (plain_step k n k (command.NvUndefine index) clients s ts h refl)
mine_step k n (command.NvWrite index pin value) clients s ts h low limit = matches_up k n s.next_session (s.next_session + 0) _ _ (omega arith) (plain_step k n k (command.NvWrite index pin value) clients s ts h refl)
mine_step k n (command.NvRead index) clients s ts h low limit = matches_up k n s.next_session (s.next_session + 0) _ _ (omega arith) (plain_step k n k (command.NvRead index) clients s ts h refl)
mine_step k n (command.NvReadPublic index) clients s ts h low limit = matches_up k n s.next_session (s.next_session + 0) _ _ (omega arith) (plain_step k n k (command.NvReadPublic index) clients s ts h refl)
mine_step k n (command.Seal policy secret) clients s ts h low limit = matches_up k n s.next_session (s.next_session + 0) _ _ (omega arith) (plain_step k n k (command.Seal policy secret) clients s ts h refl)
mine_step k n (command.Evict object) clients s ts h low limit = matches_up k n s.next_session (s.next_session + 0) _ _ (omega arith) (plain_step k n k (command.Evict object) clients s ts h refl)
mine_step k n (command.Unseal session object) clients s ts h low limit = matches_up k n s.next_session (s.next_session + 0) _ _ (omega arith) (mine_unseal k n session object clients s ts h)

-- a command of another client, on sessions
other_step : (k n m : ℕ) (c : Command) (clients : List Client) (s : Parts) (ts : List Session) → Beside k n clients s.sessions s.next_session ts → m < n → m ≢ k
    → s.next_session + starts c (client_at m clients) ≤ 0x01000000 → is_session_command c ≡ true
    → Goes k n (s.next_session + starts c (client_at m clients)) (served m c clients s) (alone_now k clients ts s)
other_step k n m (command.Restart locality banks) clients s ts h low ne limit on = cc
other_step k n m (command.PcrExtend pcr digests) clients s ts h low ne limit on = cc
other_step k n m (command.PcrRead bank pcr) clients s ts h low ne limit on = cc
other_step k n m (command.StartSession hash) clients s ts h low ne limit on = other_start k n m hash clients s ts h low ne limit
other_step k n m (command.PolicyPcr session bank pcrs) clients s ts h low ne limit on = goes_up k n s.next_session (s.next_session + 0) _ _ (omega arith) (other_pcr k n m session bank pcrs clients s ts h ne)
other_step k n m (command.PolicyOr session list) clients s ts h low ne limit on = goes_up k n s.next_session (s.next_session + 0) _ _ (omega arith) (other_or k n m session list clients s ts h ne)
other_step k n m (command.PolicyAuthorizeNv session index) clients s ts h low ne limit on = goes_up k n s.next_session (s.next_session + 0) _ _ (omega arith) (other_nv k n m session index clients s ts h ne)
other_step k n m (command.PolicyGetDigest session) clients s ts h low ne limit on = goes_up k n s.next_session (s.next_session + 0) _ _ (omega arith) (other_digest k n m session clients s ts h)
other_step k n m (command.FlushSession session) clients s ts h low ne limit on = goes_up k n s.next_session (s.next_session + 0) _ _ (omega arith) (other_flush k n m session clients s ts h low ne)
other_step k n m (command.NvDefine public) clients s ts h low ne limit on = cc
other_step k n m (command.NvUndefine index) clients s ts h low ne limit on = cc
other_step k n m (command.NvWrite index pin value) clients s ts h low ne limit on = cc
other_step k n m (command.NvRead index) clients s ts h low ne limit on = cc
other_step k n m (command.NvReadPublic index) clients s ts h low ne limit on = cc
other_step k n m (command.Seal policy secret) clients s ts h low ne limit on = cc
other_step k n m (command.Evict object) clients s ts h low ne limit on = cc
other_step k n m (command.Unseal session object) clients s ts h low ne limit on = goes_up k n s.next_session (s.next_session + 0) _ _ (omega arith) (other_unseal k n m session object clients s ts h)

-- and one that isn't on sessions
starts_none : (c : Command) (client : Client) → is_session_command c ≡ false → starts c client ≡ 0
starts_none (command.Restart locality banks) client off = refl
starts_none (command.PcrExtend pcr digests) client off = refl
starts_none (command.PcrRead bank pcr) client off = refl
starts_none (command.StartSession hash) client off = cc
starts_none (command.PolicyPcr session bank pcrs) client off = cc
starts_none (command.PolicyOr session list) client off = cc
starts_none (command.PolicyAuthorizeNv session index) client off = cc
starts_none (command.PolicyGetDigest session) client off = cc
starts_none (command.FlushSession session) client off = cc
starts_none (command.NvDefine public) client off = refl
starts_none (command.NvUndefine index) client off = refl
starts_none (command.NvWrite index pin value) client off = refl
starts_none (command.NvRead index) client off = refl
starts_none (command.NvReadPublic index) client off = refl
starts_none (command.Seal policy secret) client off = refl
starts_none (command.Evict object) client off = refl
starts_none (command.Unseal session object) client off = cc

off_sessions : (k n m : ℕ) (c : Command) (clients : List Client) (s : Parts) (ts : List Session) → Beside k n clients s.sessions s.next_session ts → is_session_command c ≡ false
    → Goes k n (s.next_session + starts c (client_at m clients)) (served m c clients s) (respond c (alone_now k clients ts s)).1
off_sessions k n m c clients s ts h off =
    goes_up k n s.next_session (s.next_session + starts c (client_at m clients)) (served m c clients s) _ (omega (arith, starts_none c (client_at m clients) off))
    (plain_step k n m c clients s ts h off).goes

-- a command of client m, where that is client k
as_mine : (k n m : ℕ) (c : Command) (clients : List Client) (s : Parts) (ts : List Session) → Beside k n clients s.sessions s.next_session ts → k < n → m ≡ k
    → s.next_session + starts c (client_at m clients) ≤ 0x01000000
    → Matches k n (s.next_session + starts c (client_at m clients)) (served m c clients s) (respond_of_four c (alone_now k clients ts s))
as_mine k n m c clients s ts h low same =
    subst (λ j. s.next_session + starts c (client_at j clients) ≤ 0x01000000
    → Matches k n (s.next_session + starts c (client_at j clients)) (served j c clients s) (respond_of_four c (alone_now k clients ts s))) (sym same)
    (mine_step k n c clients s ts h low)

-- the answers at client k's places, from a state in which its sessions are those that it would have alone
pub answered_alone : (k n : ℕ) (asked : List (ℕ × Command)) (clients : List Client) (s : Parts) (ts : List Session) → Beside k n clients s.sessions s.next_session ts → k < n
    → AllByRecursion (λ (one : ℕ × Command). one.0 < n) asked → s.next_session + sessions_started asked clients s ≤ 0x01000000
    → at_places k asked (answers_to asked clients s) ≡ alone k asked (alone_now k clients ts s)
answered_alone k n [] clients s ts h low all limit = refl
answered_alone k n (x ∷ xs) clients s ts h low all limit =
    let out = served x.0 x.1 clients s in
    let t = alone_now k clients ts s in
    let r = respond_of_four x.1 t in
    let step : s.next_session + starts x.1 (client_at x.0 clients) ≤ 0x01000000 = omega arith in
    let rest : (u : Parts) → Goes k n (s.next_session + starts x.1 (client_at x.0 clients)) out u → at_places k xs (answers_to xs out.clients out.state) ≡ alone k xs u =
    λ u g. answered_alone k n xs out.clients out.state g.sessions g.beside low all.1 (omega (arith, g.number)) ∙ ap (alone k xs) (sym g.same) in
    elim (eqb_tells x.0 k) [
      | inl mine ↦
          let m = as_mine k n x.0 x.1 clients s ts h low mine.1 step in
          ap (λ b. cond b (out.answer ∷ at_places k xs (answers_to xs out.clients out.state)) (at_places k xs (answers_to xs out.clients out.state))) mine.0
          ∙ ap (λ a. a ∷ at_places k xs (answers_to xs out.clients out.state)) m.told
          ∙ ap (λ rs. r.0 ∷ rs) (rest r.1 m.goes)
          ∙ sym (ap (λ b. cond b (r.0 ∷ alone k xs r.1) (cond (is_session_command x.1) (alone k xs t) (alone k xs (respond x.1 t).1))) mine.0)
      | inr other ↦
          ap (λ b. cond b (out.answer ∷ at_places k xs (answers_to xs out.clients out.state)) (at_places k xs (answers_to xs out.clients out.state))) other.0
          ∙ elim (is_session_command x.1) as (λ b. is_session_command x.1 ≡ b
          → at_places k xs (answers_to xs out.clients out.state) ≡ cond b (alone k xs t) (alone k xs (respond x.1 t).1)) [
            | true ↦ λ on. rest t (other_step k n x.0 x.1 clients s ts h all.0 other.1 step on)
            | false ↦ λ off. rest (respond x.1 t).1 (off_sessions k n x.0 x.1 clients s ts h off)
          ] refl
          ∙ sym (ap (λ b. cond b (r.0 ∷ alone k xs r.1) (cond (is_session_command x.1) (alone k xs t) (alone k xs (respond x.1 t).1))) other.0)
    ]

-- from a new broker
at_new : (n i : ℕ) → client_at i (replicate n new_client) ≡ new_client
at_new zero i = refl
at_new (suc n) zero = refl
at_new (suc n) (suc i) = at_new n i

room_new : (n : ℕ) → room_left (replicate n new_client) ≡ 4 * n
room_new zero = refl
room_new (suc n) = let rest = room_new n in omega arith

below_end : (first end : ℕ) (xs : List Session) → AreHandles first end (map (λ (x : Session). x.handle) xs) → AllByRecursion (λ (x : Session). x.handle < end) xs
below_end first end [] h = tt
below_end first end (x ∷ xs) h = (h.1, below_end (x.handle + 1) end xs h.2)

beside_new : (k n : ℕ) (s : Parts) → HasRules s → length s.sessions + 4 * n ≤ 64 → Beside k n (replicate n new_client) s.sessions s.next_session []
beside_new k n s rules room =
    let none : (i : ℕ) (a : Handles) → IsIn a (client_at i (replicate n new_client)).sessions → ⊥ = λ i a is. subst (λ (c : Client). IsIn a c.sessions) (at_new n i) is in
    record {
      count = length-replicate n new_client;
      few = omega arith;
      held = subst (λ (c : Client). AreHeld c.sessions s.sessions []) (sym (at_new n k)) tt;
      apart = λ i a b ne is mine. absurd (none i a is);
      below = λ i a is. absurd (none i a is);
      lower = below_end 0x03000000 (session_handle s.next_session) s.sessions (handles_from_test 0x03000000 (session_handle s.next_session) _ rules.session_order);
      room = rw (room_new n) room;
    }

pub clients_alone : (k n : ℕ) (asked : List (ℕ × Command)) (s : Parts) → HasRules s → k < n → AllByRecursion (λ (one : ℕ × Command). one.0 < n) asked → length s.sessions + 4 * n ≤ 64
    → s.next_session + sessions_started asked (replicate n new_client) s ≤ 0x01000000
    → at_places k asked (answers_to asked (replicate n new_client) s) ≡ alone k asked (without_sessions s)
clients_alone k n asked s rules low all room limit =
    answered_alone k n asked (replicate n new_client) s [] (beside_new k n s rules room) low all limit
    ∙ ap (λ (c : Client). alone k asked (alone_state c.had [] s)) (at_new n k)
