-- One command, on the TPM with all clients and for one of them alone.
use Rattle.std.proofs.Common.{◌≡◌, ℕ, ◌<◌, ◌≤◌, false, cond, List, [], length, refl, sym, ap, ◌∙◌, subst, arith}
use Rattle.std.specs.Prelude.{Option, None, Some, remove}
use Rattle.std.specs.Option.{option_map}
use Rattle.std.proofs.lemmas.Bool.{eq-eqb, eqb-true}
use Rattle.std.proofs.lemmas.List.Folds.{find_at}
use Rattle.hash_bank.specs.declared.bank.Bank.{Bank}
use Rattle.tpm_model.specs.declared.command.Command.{Command}
use Rattle.tpm_model.specs.declared.command.Command.TheVariants as command
use Rattle.tpm_model.specs.declared.parts.Parts.{Parts}
use Rattle.tpm_model.specs.declared.response.Response.{Response}
use Rattle.tpm_model.specs.declared.response.Response.TheVariants as answer
use Rattle.tpm_model.specs.declared.response.Refusal.TheVariants as refusal
use Rattle.tpm_model.specs.declared.sessions.Session.{Session}
use Rattle.tpm_model.specs.Respond.{respond}
use Rattle.tpm_model.specs.SessionCommands.{digest_on, flush_on, policy_authorize_nv_on, policy_or_on, policy_pcr_on, with_session}
use Rattle.tpm_model.specs.ObjectCommands.{unseal_on}
use Rattle.tpm_model.specs.Sessions.{is_session, session_at, session_place}
use Rattle.tpm_broker.specs.declared.plan.Plan.{Plan}
use Rattle.tpm_broker.specs.declared.plan.Plan.TheVariants as plan
use Rattle.tpm_broker.specs.declared.rows.Handles.{Handles}
use Rattle.tpm_broker.specs.Alone.{is_session_command}
use Rattle.tpm_broker.specs.Clients.{Client, client_at, changed, is_own, tpm_handle, without}
use Rattle.tpm_broker.specs.Served.{Served, clients_after, clients_done, on_session, served, served_by, session_plan, settled, told}
use Rattle.tpm_broker.proofs.Firsts.{first_of, found_is, found_passes, with_is, with_of, without_is, without_of}
use Rattle.tpm_broker.proofs.Held.{held_found, held_missing, renamed}
use Rattle.tpm_broker.proofs.Beside.{Beside, all_end, at_all, at_same, mine_becomes, mine_ends, rows_of}
use Rattle.tpm_broker.proofs.Alike.{Becomes, Ends, Stays, alike_digest, alike_flush, alike_nv, alike_or, alike_pcr, alike_unseal, alone_state, with_sessions}
use Rattle.tpm_broker.proofs.Plain.{plain_content, plain_define, plain_evict, plain_extend, plain_public, plain_read, plain_restart, plain_seal, plain_undefine, plain_write, restarted}
use Rattle.tpm_broker.proofs.ToldPlain.{after_other, after_plain, told_other, told_plain}

-- the number of client k's next session
abbrev pub had_of : ℕ → List Client → ℕ
had_of k clients = (client_at k clients).had

-- the state of client k alone
abbrev pub alone_now : ℕ → List Client → List Session → Parts → Parts
alone_now k clients ts s = alone_state (had_of k clients) ts s

abbrev pub served_with : Response → List Client → Parts → Served
served_with response clients s = record { answer = response; clients = clients; state = s }

-- what is left, on the TPM and for client k alone, belongs together; the number of the TPM's next session
-- is at most the limit
pub record Goes (k n limit : ℕ) (out : Served) (t : Parts) : Type 0 where
  pub sessions : List Session
  pub beside : Beside k n out.clients out.state.sessions out.state.next_session sessions
  pub same : t ≡ alone_now k out.clients sessions out.state
  pub number : out.state.next_session ≤ limit

-- and the answers are the same
pub record Matches (k n limit : ℕ) (out : Served) (r : Response × Parts) : Type 0 where
  pub told : out.answer ≡ r.0
  pub goes : Goes k n limit out r.1

pub goes_up : (k n low limit : ℕ) (out : Served) (t : Parts) → low ≤ limit → Goes k n low out t → Goes k n limit out t
goes_up k n low limit out t h g = record { sessions = g.sessions; beside = g.beside; same = g.same; number = omega (arith, g.number) }

pub matches_up : (k n low limit : ℕ) (out : Served) (r : Response × Parts) → low ≤ limit → Matches k n low out r → Matches k n limit out r
matches_up k n low limit out r h g = record { told = g.told; goes = goes_up k n low limit out r.1 h g.goes }

-- the sessions stay
pub goes_on : (k n : ℕ) (response : Response) (clients : List Client) (s u : Parts) (ts : List Session) → Beside k n clients s.sessions s.next_session ts
    → u.sessions ≡ s.sessions → u.next_session ≡ s.next_session → Goes k n s.next_session (served_with response clients u) (alone_now k clients ts u)
goes_on k n response clients s u ts h e f = record {
  sessions = ts;
  beside = subst (λ ss. Beside k n clients ss u.next_session ts) (sym e) (subst (λ next. Beside k n clients s.sessions next ts) (sym f) h);
  same = refl;
  number = omega (arith, f);
}

leaves_step : (k n m : ℕ) (c : Command) (clients : List Client) (s u : Parts) (ts : List Session) (r : Response) → Beside k n clients s.sessions s.next_session ts
    → told c (client_at m clients) r ≡ r → clients_after m c r clients ≡ clients → u.sessions ≡ s.sessions → u.next_session ≡ s.next_session
    → Matches k n s.next_session (settled m c (r, u) clients) (r, alone_now k clients ts u)
leaves_step k n m c clients s u ts r h same after e f = record {
  told = same;
  goes = subst (λ cs. Goes k n s.next_session (served_with (told c (client_at m clients) r) cs u) (alone_now k clients ts u)) (sym after)
      (goes_on k n (told c (client_at m clients) r) clients s u ts h e f);
}

-- a command that isn't on sessions, of any client
pub plain_step : (k n m : ℕ) (c : Command) (clients : List Client) (s : Parts) (ts : List Session) → Beside k n clients s.sessions s.next_session ts → is_session_command c ≡ false
    → Matches k n s.next_session (served m c clients s) (respond c (alone_now k clients ts s))
plain_step k n m (command.Restart locality banks) clients s ts h other =
    let c = command.Restart locality banks in
    plain_restart (λ o r. Matches k n s.next_session (settled m c o clients) r) locality banks s (had_of k clients) ts
    (leaves_step k n m c clients s s ts (answer.Refused refusal.Value) h refl refl refl refl)
    (record {
      told = refl;
      goes = record {
        sessions = [];
        beside = all_end k n clients s.sessions s.next_session ts h;
        same = ap (λ (d : Client). alone_state d.had [] (restarted locality banks s)) (sym (at_all k clients));
        number = omega arith;
      };
    })
plain_step k n m (command.PcrExtend pcr digests) clients s ts h other =
    let c = command.PcrExtend pcr digests in
    plain_extend (λ o r. Matches k n s.next_session (settled m c o clients) r) pcr digests s (had_of k clients) ts (λ r u is e f.
    leaves_step k n m c clients s u ts r h (told_other c (client_at m clients) r (λ handle. refl) is) (after_other m c r clients refl is) e f)
plain_step k n m (command.PcrRead bank pcr) clients s ts h other =
    let c = command.PcrRead bank pcr in
    plain_read (λ o r. Matches k n s.next_session (settled m c o clients) r) bank pcr s (had_of k clients) ts (λ r u is e f.
    leaves_step k n m c clients s u ts r h (told_other c (client_at m clients) r (λ handle. refl) is) (after_other m c r clients refl is) e f)
plain_step k n m (command.StartSession hash) clients s ts h other = cc
plain_step k n m (command.PolicyPcr session bank pcrs) clients s ts h other = cc
plain_step k n m (command.PolicyOr session list) clients s ts h other = cc
plain_step k n m (command.PolicyAuthorizeNv session index) clients s ts h other = cc
plain_step k n m (command.PolicyGetDigest session) clients s ts h other = cc
plain_step k n m (command.FlushSession session) clients s ts h other = cc
plain_step k n m (command.NvDefine public) clients s ts h other =
    let c = command.NvDefine public in
    plain_define (λ o r. Matches k n s.next_session (settled m c o clients) r) public s (had_of k clients) ts (λ r u is e f.
    leaves_step k n m c clients s u ts r h (told_other c (client_at m clients) r (λ handle. refl) is) (after_other m c r clients refl is) e f)
plain_step k n m (command.NvUndefine index) clients s ts h other =
    let c = command.NvUndefine index in
    plain_undefine (λ o r. Matches k n s.next_session (settled m c o clients) r) index s (had_of k clients) ts (λ r u is e f.
    leaves_step k n m c clients s u ts r h (told_other c (client_at m clients) r (λ handle. refl) is) (after_other m c r clients refl is) e f)
plain_step k n m (command.NvWrite index pin value) clients s ts h other =
    let c = command.NvWrite index pin value in
    plain_write (λ o r. Matches k n s.next_session (settled m c o clients) r) index pin value s (had_of k clients) ts (λ r u is e f.
    leaves_step k n m c clients s u ts r h (told_other c (client_at m clients) r (λ handle. refl) is) (after_other m c r clients refl is) e f)
plain_step k n m (command.NvRead index) clients s ts h other =
    let c = command.NvRead index in
    plain_content (λ o r. Matches k n s.next_session (settled m c o clients) r) index s (had_of k clients) ts (λ r u is e f.
    leaves_step k n m c clients s u ts r h (told_other c (client_at m clients) r (λ handle. refl) is) (after_other m c r clients refl is) e f)
plain_step k n m (command.NvReadPublic index) clients s ts h other =
    let c = command.NvReadPublic index in
    plain_public (λ o r. Matches k n s.next_session (settled m c o clients) r) index s (had_of k clients) ts (λ r u is e f.
    leaves_step k n m c clients s u ts r h (told_other c (client_at m clients) r (λ handle. refl) is) (after_other m c r clients refl is) e f)
plain_step k n m (command.Seal policy secret) clients s ts h other =
    let c = command.Seal policy secret in
    plain_seal (λ o r. Matches k n s.next_session (settled m c o clients) r) policy secret s (had_of k clients) ts (λ r u is e f.
    leaves_step k n m c clients s u ts r h (told_other c (client_at m clients) r (λ handle. refl) is) (after_other m c r clients refl is) e f)
plain_step k n m (command.Evict object) clients s ts h other =
    let c = command.Evict object in
    plain_evict (λ o r. Matches k n s.next_session (settled m c o clients) r) object s (had_of k clients) ts (λ r u is e f.
    leaves_step k n m c clients s u ts r h (told_other c (client_at m clients) r (λ handle. refl) is) (after_other m c r clients refl is) e f)
plain_step k n m (command.Unseal session object) clients s ts h other = cc

-- a session that the client calls by this handle is among its rows, or not
pub by_rows : (m own : ℕ) (clients : List Client) (P : Plan → Type 0) → (first_of (is_own own) (rows_of m clients) ≡ None → P (plan.NoSession own))
    → ((a : Handles) → first_of (is_own own) (rows_of m clients) ≡ Some a → P (plan.PassOn a.tpm)) → P (session_plan own (tpm_handle own (client_at m clients)))
by_rows m own clients P none some =
    subst (λ o. P (session_plan own (option_map (λ (a : Handles). a.tpm) o))) (sym (find_at (is_own own) (rows_of m clients) ∙ found_is (is_own own) (rows_of m clients)))
    (by (first_of (is_own own) (rows_of m clients)) refl)
  where
    by : (o : Option Handles) → first_of (is_own own) (rows_of m clients) ≡ o → P (session_plan own (option_map (λ (a : Handles). a.tpm) o))
    by None e = none e
    by (Some a) e = some a e

-- a command that names a session, by what it does with the session that is found
abbrev pub OnFound : Type 0
OnFound = Option Session → ℕ → Parts → Response × Parts

-- such a command of client k, where it is alike under both handles
named_mine : (f : OnFound) (k n own : ℕ) (c : Command) (clients : List Client) (s : Parts) (ts : List Session) → Beside k n clients s.sessions s.next_session ts
    → ((tpm : ℕ) → respond (on_session tpm c) s ≡ f (session_at tpm s.sessions) tpm s)
    → f None own (alone_now k clients ts s) ≡ (answer.Refused (refusal.Handle own), alone_now k clients ts s)
    → ((a : Handles) (x : Session) → first_of (is_own own) (rows_of k clients) ≡ Some a → x.handle ≡ own → first_of (is_session a.tpm) s.sessions ≡ Some (renamed a.tpm x)
    → Matches k n s.next_session (settled k c (f (Some (renamed a.tpm x)) a.tpm s) clients) (f (Some x) own (alone_now k clients ts s)))
    → Matches k n s.next_session (served_by (session_plan own (tpm_handle own (client_at k clients))) k c clients s) (f (session_at own ts) own (alone_now k clients ts s))
named_mine f k n own c clients s ts h passes missing alike =
    let t = alone_now k clients ts s in
    let rows = rows_of k clients in
    by_rows k own clients (λ p. Matches k n s.next_session (served_by p k c clients s) (f (session_at own ts) own t))
    (λ none.
    let absent : session_at own ts ≡ None = found_is (is_session own) ts ∙ held_missing own rows s.sessions ts h.held none in
    subst (λ r. Matches k n s.next_session (served_with (answer.Refused (refusal.Handle own)) clients s) r) (sym (ap (λ o. f o own t) absent ∙ missing))
    (record { told = refl; goes = goes_on k n (answer.Refused (refusal.Handle own)) clients s s ts h refl refl }))
    (λ a found.
    let both = held_found own a rows s.sessions ts h.held found in
    let theirs : session_at a.tpm s.sessions ≡ Some (renamed a.tpm both.session) = found_is (is_session a.tpm) s.sessions ∙ both.theirs in
    let mine : session_at own ts ≡ Some both.session = found_is (is_session own) ts ∙ both.mine in
    subst (λ o. Matches k n s.next_session (settled k c o clients) (f (session_at own ts) own t)) (sym (passes a.tpm ∙ ap (λ o. f o a.tpm s) theirs))
    (subst (λ r. Matches k n s.next_session (settled k c (f (Some (renamed a.tpm both.session)) a.tpm s) clients) r) (sym (ap (λ o. f o own t) mine))
    (alike a both.session found (eqb-true both.session.handle own (found_passes (is_session own) both.session ts both.mine)) both.theirs)))

stays_mine : (k n : ℕ) (c : Command) (clients : List Client) (s : Parts) (ts : List Session) → Beside k n clients s.sessions s.next_session ts
    → Stays (λ o r. Matches k n s.next_session (settled k c o clients) r) s (had_of k clients) ts
stays_mine k n c clients s ts h = λ r is. leaves_step k n k c clients s s ts r h (told_plain c (client_at k clients) r is) (after_plain k c r clients is) refl refl

becomes_mine : (k n own : ℕ) (a : Handles) (x : Session) (c : Command) (clients : List Client) (s : Parts) (ts : List Session) → Beside k n clients s.sessions s.next_session ts
    → first_of (is_own own) (rows_of k clients) ≡ Some a → x.handle ≡ own → clients_done k c clients ≡ clients
    → Becomes (λ o r. Matches k n s.next_session (settled k c o clients) r) a.tpm own (Some x) s (had_of k clients) ts
becomes_mine k n own a x c clients s ts h found named done = λ z e y same.
    let its : y.handle ≡ own = same ∙ ap (λ (w : Session). w.handle) (let is : z ≡ x = cc in is) ∙ named in
    let ss = with_session a.tpm (renamed a.tpm y) s.sessions in
    let us = with_session own y ts in
    record {
      told = refl;
      goes = subst (λ cs. Goes k n s.next_session (served_with answer.Done cs (with_sessions ss s)) (alone_state (had_of k clients) us s)) (sym done)
          (record {
            sessions = us;
            beside = subst (λ vs. Beside k n clients vs s.next_session us) (sym (with_is (is_session a.tpm) (renamed a.tpm y) s.sessions))
                (subst (λ vs. Beside k n clients (with_of (is_session a.tpm) (renamed a.tpm y) s.sessions) s.next_session vs) (sym (with_is (is_session own) y ts)) (mine_becomes k n own a y clients s.sessions s.next_session ts h found its));
            same = refl;
            number = omega arith;
          });
    }

ends_mine : (k n own : ℕ) (a : Handles) (x : Session) (clients : List Client) (s : Parts) (ts : List Session) → Beside k n clients s.sessions s.next_session ts → k < n
    → first_of (is_own own) (rows_of k clients) ≡ Some a → first_of (is_session a.tpm) s.sessions ≡ Some (renamed a.tpm x)
    → Ends (λ o r. Matches k n s.next_session (settled k (command.FlushSession own) o clients) r) a.tpm own (Some x) s (had_of k clients) ts
ends_mine k n own a x clients s ts h low found theirs = λ z e.
    let ss = remove s.sessions (session_place a.tpm s.sessions) in
    let us = remove ts (session_place own ts) in
    let after = changed k (without own) clients in
    let within : k < length clients = omega (arith, h.count) in
    record {
      told = refl;
      goes = record {
        sessions = us;
        beside = subst (λ vs. Beside k n after vs s.next_session us) (sym (without_is (is_session a.tpm) s.sessions))
            (subst (λ vs. Beside k n after (without_of (is_session a.tpm) s.sessions) s.next_session vs) (sym (without_is (is_session own) ts)) (mine_ends k n own a (renamed a.tpm x) clients s.sessions s.next_session ts h low found theirs));
        same = ap (λ (d : Client). alone_state d.had us (with_sessions ss s)) (sym (at_same k (without own) clients within));
        number = omega arith;
      };
    }

-- a command of client k that names a session
pub mine_pcr : (k n own : ℕ) (bank : Bank) (pcrs : ℕ) (clients : List Client) (s : Parts) (ts : List Session) → Beside k n clients s.sessions s.next_session ts
    → Matches k n s.next_session (served k (command.PolicyPcr own bank pcrs) clients s) (respond (command.PolicyPcr own bank pcrs) (alone_now k clients ts s))
mine_pcr k n own bank pcrs clients s ts h =
    let c = command.PolicyPcr own bank pcrs in
    named_mine (λ o handle u. policy_pcr_on o handle bank pcrs u) k n own c clients s ts h (λ tpm. refl) refl (λ a x found named theirs.
    alike_pcr (λ o r. Matches k n s.next_session (settled k c o clients) r) a.tpm own bank pcrs s (had_of k clients) ts (Some x)
    (stays_mine k n c clients s ts h) (λ e. cc) (becomes_mine k n own a x c clients s ts h found named refl))

pub mine_or : (k n own : ℕ) (list : List (List ℕ)) (clients : List Client) (s : Parts) (ts : List Session) → Beside k n clients s.sessions s.next_session ts
    → Matches k n s.next_session (served k (command.PolicyOr own list) clients s) (respond (command.PolicyOr own list) (alone_now k clients ts s))
mine_or k n own list clients s ts h =
    let c = command.PolicyOr own list in
    named_mine (λ o handle u. policy_or_on o handle list u) k n own c clients s ts h (λ tpm. refl) refl (λ a x found named theirs.
    alike_or (λ o r. Matches k n s.next_session (settled k c o clients) r) a.tpm own list s (had_of k clients) ts (Some x)
    (stays_mine k n c clients s ts h) (λ e. cc) (becomes_mine k n own a x c clients s ts h found named refl))

pub mine_nv : (k n own index : ℕ) (clients : List Client) (s : Parts) (ts : List Session) → Beside k n clients s.sessions s.next_session ts
    → Matches k n s.next_session (served k (command.PolicyAuthorizeNv own index) clients s) (respond (command.PolicyAuthorizeNv own index) (alone_now k clients ts s))
mine_nv k n own index clients s ts h =
    let c = command.PolicyAuthorizeNv own index in
    named_mine (λ o handle u. policy_authorize_nv_on o handle index u) k n own c clients s ts h (λ tpm. refl) refl (λ a x found named theirs.
    alike_nv (λ o r. Matches k n s.next_session (settled k c o clients) r) a.tpm own index s (had_of k clients) ts (Some x)
    (stays_mine k n c clients s ts h) (λ e. cc) (becomes_mine k n own a x c clients s ts h found named refl))

pub mine_digest : (k n own : ℕ) (clients : List Client) (s : Parts) (ts : List Session) → Beside k n clients s.sessions s.next_session ts
    → Matches k n s.next_session (served k (command.PolicyGetDigest own) clients s) (respond (command.PolicyGetDigest own) (alone_now k clients ts s))
mine_digest k n own clients s ts h =
    let c = command.PolicyGetDigest own in
    named_mine (λ o handle u. digest_on o handle u) k n own c clients s ts h (λ tpm. refl) refl (λ a x found named theirs.
    alike_digest (λ o r. Matches k n s.next_session (settled k c o clients) r) a.tpm own s (had_of k clients) ts (Some x) (stays_mine k n c clients s ts h) (λ e. cc))

pub mine_flush : (k n own : ℕ) (clients : List Client) (s : Parts) (ts : List Session) → Beside k n clients s.sessions s.next_session ts → k < n
    → Matches k n s.next_session (served k (command.FlushSession own) clients s) (respond (command.FlushSession own) (alone_now k clients ts s))
mine_flush k n own clients s ts h low =
    let c = command.FlushSession own in
    named_mine (λ o handle u. flush_on o handle u) k n own c clients s ts h (λ tpm. refl) refl (λ a x found named theirs.
    alike_flush (λ o r. Matches k n s.next_session (settled k c o clients) r) a.tpm own s (had_of k clients) ts (Some x) (λ e. cc)
    (ends_mine k n own a x clients s ts h low found theirs))

pub mine_unseal : (k n own object : ℕ) (clients : List Client) (s : Parts) (ts : List Session) → Beside k n clients s.sessions s.next_session ts
    → Matches k n s.next_session (served k (command.Unseal own object) clients s) (respond (command.Unseal own object) (alone_now k clients ts s))
mine_unseal k n own object clients s ts h =
    let c = command.Unseal own object in
    named_mine (λ o handle u. unseal_on o handle object u) k n own c clients s ts h (λ tpm. refl) refl (λ a x found named theirs.
    alike_unseal (λ o r. Matches k n s.next_session (settled k c o clients) r) a.tpm own object s (had_of k clients) ts (Some x) (stays_mine k n c clients s ts h) (λ e. cc)
    (leaves_step k n k c clients s s ts (answer.Refused (refusal.Handle object)) h
    (ap (λ b. answer.Refused (refusal.Handle (cond b object own))) (eq-eqb object object refl)) refl refl refl))
