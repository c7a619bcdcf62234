-- A command on sessions of another client leaves those of client k.
use Rattle.std.proofs.Common.{◌≡◌, ℕ, ◌<◌, ◌≢◌, List, refl, sym, ap, ◌∙◌, subst, arith}
use Rattle.std.specs.Prelude.{Option, None, Some, remove}
use Rattle.std.specs.Option.{option_map}
use Rattle.std.proofs.lemmas.Bool.{eqb-true}
use Rattle.hash_bank.specs.declared.bank.Bank.{Bank}
use Rattle.tpm_model.specs.declared.command.Command.{Command}
use Rattle.tpm_model.specs.declared.command.Command.TheVariants as command
use Rattle.tpm_model.specs.declared.parts.Parts.{Parts}
use Rattle.tpm_model.specs.declared.response.Response.TheVariants as answer
use Rattle.tpm_model.specs.declared.response.Refusal.TheVariants as refusal
use Rattle.tpm_model.specs.declared.sessions.Session.{Session}
use Rattle.tpm_model.specs.Respond.{respond}
use Rattle.tpm_model.specs.SessionCommands.{digest_on, flush_on, policy_authorize_nv_on, policy_or_on, policy_pcr_on, with_session}
use Rattle.tpm_model.specs.ObjectCommands.{unseal_on}
use Rattle.tpm_model.specs.Sessions.{is_session, session_at, session_place}
use Rattle.tpm_broker.specs.declared.rows.Handles.{Handles}
use Rattle.tpm_broker.specs.Clients.{Client, client_at, changed, is_own, tpm_handle, without}
use Rattle.tpm_broker.specs.Served.{clients_done, on_session, served, served_by, session_plan, settled, told}
use Rattle.tpm_broker.proofs.Firsts.{first_of, found_is, found_passes, with_is, without_is}
use Rattle.tpm_broker.proofs.Held.{renamed}
use Rattle.tpm_broker.proofs.Beside.{Beside, at_other, other_becomes, other_ends, rows_of}
use Rattle.tpm_broker.proofs.Alike.{Becomes, Ends, Misses, Stays, alike_digest, alike_flush, alike_nv, alike_or, alike_pcr, alike_unseal, alone_state, with_sessions}
use Rattle.tpm_broker.proofs.ToldPlain.{after_plain}
use Rattle.tpm_broker.proofs.Steps.{Goes, OnFound, alone_now, by_rows, goes_on, served_with}

-- the session that was found has the handle
same_named : (h : ℕ) (ss : List Session) → option_map (renamed h) (session_at h ss) ≡ session_at h ss
same_named h ss = by (session_at h ss) refl
  where
    by : (o : Option Session) → session_at h ss ≡ o → option_map (renamed h) o ≡ o
    by None e = refl
    by (Some x) e =
        let named : x.handle ≡ h = eqb-true x.handle h (found_passes (is_session h) x ss (sym (found_is (is_session h) ss) ∙ e)) in
        ap (λ handle. Some (renamed handle x)) (sym named)

named_other : (f : OnFound) (k n m own : ℕ) (c : Command) (clients : List Client) (s : Parts) (ts : List Session) → Beside k n clients s.sessions s.next_session ts
    → ((tpm : ℕ) → respond (on_session tpm c) s ≡ f (session_at tpm s.sessions) tpm s)
    → ((a : Handles) → first_of (is_own own) (rows_of m clients) ≡ Some a
    → Goes k n s.next_session (settled m c (f (option_map (renamed a.tpm) (session_at a.tpm s.sessions)) a.tpm s) clients) (alone_now k clients ts s))
    → Goes k n s.next_session (served_by (session_plan own (tpm_handle own (client_at m clients))) m c clients s) (alone_now k clients ts s)
named_other f k n m own c clients s ts h passes alike =
    by_rows m own clients (λ p. Goes k n s.next_session (served_by p m c clients s) (alone_now k clients ts s))
    (λ none. goes_on k n (answer.Refused (refusal.Handle own)) clients s s ts h refl refl)
    (λ a found.
    subst (λ o. Goes k n s.next_session (settled m c o clients) (alone_now k clients ts s)) (ap (λ o. f o a.tpm s) (same_named a.tpm s.sessions) ∙ sym (passes a.tpm)) (alike a found))

other_stays : (k n m : ℕ) (c : Command) (clients : List Client) (s : Parts) (ts us : List Session) (next : ℕ) → Beside k n clients s.sessions s.next_session ts
    → Stays (λ o _. Goes k n s.next_session (settled m c o clients) (alone_now k clients ts s)) s next us
other_stays k n m c clients s ts us next h = λ r is.
    let told_is = told c (client_at m clients) r in
    subst (λ cs. Goes k n s.next_session (served_with told_is cs s) (alone_now k clients ts s)) (sym (after_plain m c r clients is)) (goes_on k n told_is clients s s ts h refl refl)

other_misses : (k n m : ℕ) (c : Command) (clients : List Client) (s : Parts) (ts us : List Session) (next : ℕ) (a : Handles) (o : Option Session) → Beside k n clients s.sessions s.next_session ts
    → Misses (λ o _. Goes k n s.next_session (settled m c o clients) (alone_now k clients ts s)) a.tpm a.tpm o s next us
other_misses k n m c clients s ts us next a o h = λ e. goes_on k n (told c (client_at m clients) (answer.Refused (refusal.Handle a.tpm))) clients s s ts h refl refl

other_changes : (k n m own : ℕ) (a : Handles) (o : Option Session) (c : Command) (clients : List Client) (s : Parts) (ts us : List Session) (next : ℕ)
    → Beside k n clients s.sessions s.next_session ts → m ≢ k → first_of (is_own own) (rows_of m clients) ≡ Some a → clients_done m c clients ≡ clients
    → Becomes (λ o _. Goes k n s.next_session (settled m c o clients) (alone_now k clients ts s)) a.tpm a.tpm o s next us
other_changes k n m own a o c clients s ts us next h ne found done = λ x e y same.
    let ss = with_session a.tpm (renamed a.tpm y) s.sessions in
    subst (λ cs. Goes k n s.next_session (served_with answer.Done cs (with_sessions ss s)) (alone_now k clients ts s)) (sym done)
    (record {
      sessions = ts;
      beside = subst (λ vs. Beside k n clients vs s.next_session ts) (sym (with_is (is_session a.tpm) (renamed a.tpm y) s.sessions))
          (other_becomes k n m own a (renamed a.tpm y) clients s.sessions s.next_session ts h ne found refl);
      same = refl;
      number = omega arith;
    })

other_gone : (k n m own : ℕ) (a : Handles) (clients : List Client) (s : Parts) (ts us : List Session) (next : ℕ) → Beside k n clients s.sessions s.next_session ts → m < n → m ≢ k
    → first_of (is_own own) (rows_of m clients) ≡ Some a
    → Ends (λ o _. Goes k n s.next_session (settled m (command.FlushSession own) o clients) (alone_now k clients ts s)) a.tpm a.tpm (session_at a.tpm s.sessions) s next us
other_gone k n m own a clients s ts us next h low ne found = λ x e.
    let ss = remove s.sessions (session_place a.tpm s.sessions) in
    let after = changed m (without own) clients in
    record {
      sessions = ts;
      beside = subst (λ vs. Beside k n after vs s.next_session ts) (sym (without_is (is_session a.tpm) s.sessions))
          (other_ends k n m own a x clients s.sessions s.next_session ts h low ne found (sym (found_is (is_session a.tpm) s.sessions) ∙ e));
      same = ap (λ (d : Client). alone_state d.had ts s) (sym (at_other m k (without own) clients (λ is. ne (sym is))));
      number = omega arith;
    }

pub other_pcr : (k n m own : ℕ) (bank : Bank) (pcrs : ℕ) (clients : List Client) (s : Parts) (ts : List Session) → Beside k n clients s.sessions s.next_session ts → m ≢ k
    → Goes k n s.next_session (served m (command.PolicyPcr own bank pcrs) clients s) (alone_now k clients ts s)
other_pcr k n m own bank pcrs clients s ts h ne =
    let c = command.PolicyPcr own bank pcrs in
    named_other (λ o handle u. policy_pcr_on o handle bank pcrs u) k n m own c clients s ts h (λ tpm. refl) (λ a found.
    let o = session_at a.tpm s.sessions in
    alike_pcr (λ o _. Goes k n s.next_session (settled m c o clients) (alone_now k clients ts s)) a.tpm a.tpm bank pcrs s 0 ts o
    (other_stays k n m c clients s ts ts 0 h) (other_misses k n m c clients s ts ts 0 a o h) (other_changes k n m own a o c clients s ts ts 0 h ne found refl))

pub other_or : (k n m own : ℕ) (list : List (List ℕ)) (clients : List Client) (s : Parts) (ts : List Session) → Beside k n clients s.sessions s.next_session ts → m ≢ k
    → Goes k n s.next_session (served m (command.PolicyOr own list) clients s) (alone_now k clients ts s)
other_or k n m own list clients s ts h ne =
    let c = command.PolicyOr own list in
    named_other (λ o handle u. policy_or_on o handle list u) k n m own c clients s ts h (λ tpm. refl) (λ a found.
    let o = session_at a.tpm s.sessions in
    alike_or (λ o _. Goes k n s.next_session (settled m c o clients) (alone_now k clients ts s)) a.tpm a.tpm list s 0 ts o
    (other_stays k n m c clients s ts ts 0 h) (other_misses k n m c clients s ts ts 0 a o h) (other_changes k n m own a o c clients s ts ts 0 h ne found refl))

pub other_nv : (k n m own index : ℕ) (clients : List Client) (s : Parts) (ts : List Session) → Beside k n clients s.sessions s.next_session ts → m ≢ k
    → Goes k n s.next_session (served m (command.PolicyAuthorizeNv own index) clients s) (alone_now k clients ts s)
other_nv k n m own index clients s ts h ne =
    let c = command.PolicyAuthorizeNv own index in
    named_other (λ o handle u. policy_authorize_nv_on o handle index u) k n m own c clients s ts h (λ tpm. refl) (λ a found.
    let o = session_at a.tpm s.sessions in
    alike_nv (λ o _. Goes k n s.next_session (settled m c o clients) (alone_now k clients ts s)) a.tpm a.tpm index s 0 ts o
    (other_stays k n m c clients s ts ts 0 h) (other_misses k n m c clients s ts ts 0 a o h) (other_changes k n m own a o c clients s ts ts 0 h ne found refl))

pub other_digest : (k n m own : ℕ) (clients : List Client) (s : Parts) (ts : List Session) → Beside k n clients s.sessions s.next_session ts
    → Goes k n s.next_session (served m (command.PolicyGetDigest own) clients s) (alone_now k clients ts s)
other_digest k n m own clients s ts h =
    let c = command.PolicyGetDigest own in
    named_other (λ o handle u. digest_on o handle u) k n m own c clients s ts h (λ tpm. refl) (λ a found.
    let o = session_at a.tpm s.sessions in
    alike_digest (λ o _. Goes k n s.next_session (settled m c o clients) (alone_now k clients ts s)) a.tpm a.tpm s 0 ts o
    (other_stays k n m c clients s ts ts 0 h) (other_misses k n m c clients s ts ts 0 a o h))

pub other_flush : (k n m own : ℕ) (clients : List Client) (s : Parts) (ts : List Session) → Beside k n clients s.sessions s.next_session ts → m < n → m ≢ k
    → Goes k n s.next_session (served m (command.FlushSession own) clients s) (alone_now k clients ts s)
other_flush k n m own clients s ts h low ne =
    let c = command.FlushSession own in
    named_other (λ o handle u. flush_on o handle u) k n m own c clients s ts h (λ tpm. refl) (λ a found.
    let o = session_at a.tpm s.sessions in
    alike_flush (λ o _. Goes k n s.next_session (settled m c o clients) (alone_now k clients ts s)) a.tpm a.tpm s 0 ts o
    (other_misses k n m c clients s ts ts 0 a o h) (other_gone k n m own a clients s ts ts 0 h low ne found))

pub other_unseal : (k n m own object : ℕ) (clients : List Client) (s : Parts) (ts : List Session) → Beside k n clients s.sessions s.next_session ts
    → Goes k n s.next_session (served m (command.Unseal own object) clients s) (alone_now k clients ts s)
other_unseal k n m own object clients s ts h =
    let c = command.Unseal own object in
    named_other (λ o handle u. unseal_on o handle object u) k n m own c clients s ts h (λ tpm. refl) (λ a found.
    let o = session_at a.tpm s.sessions in
    alike_unseal (λ o _. Goes k n s.next_session (settled m c o clients) (alone_now k clients ts s)) a.tpm a.tpm object s 0 ts o
    (other_stays k n m c clients s ts ts 0 h) (other_misses k n m c clients s ts ts 0 a o h)
    (goes_on k n (told c (client_at m clients) (answer.Refused (refusal.Handle object))) clients s s ts h refl refl))
