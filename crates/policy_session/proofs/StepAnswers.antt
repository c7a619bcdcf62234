-- What a client takes from each answer of the walk, and the state that the command leaves.
use Rattle.std.proofs.Common.{◌≡◌, ℕ, ◌+◌, ◌^◌, ◌<◌, ◌≤◌, ◌==◌, Bool, true, false, cond, not, List, [], ◌∷◌, ◌++◌, map, length, refl, sym, ap, ◌∙◌, subst, arith, inl, inr}
use Rattle.std.specs.Prelude.{slice_get, slice_set, remove, nat_le, nat_lt, Option, None, Some, Result, Ok, Err}
use Rattle.std.specs.Str.{bytes_eq}
use Rattle.std.proofs.lemmas.Bool.{eq-eqb}
use Rattle.std.proofs.lemmas.Nat.{pow_below}
use Rattle.hash_bank.specs.declared.bank.Bank.{Bank}
use Rattle.hash_bank.specs.Banks.{has_bank}
use Rattle.hash_bank.specs.Hash.{zeros_in, digest_in}
use Rattle.policy_digest.specs.Policies.{IsPolicyHash, policy_pcr_of, values_digest_of}
use Rattle.policy_file.specs.declared.token.Literal.{Literal}
use Rattle.policy_file.specs.TokenText.{IsLiteral}
use Rattle.tpm_model.specs.declared.response.Response.{Response}
use Rattle.tpm_model.specs.declared.response.Response.TheVariants as answer
use Rattle.tpm_model.specs.declared.response.Refusal.TheVariants as refusal
use Rattle.tpm_model.specs.declared.trail.TrailEntry.TheVariants as entry
use Rattle.tpm_model.specs.declared.sessions.Session.{Session}
use Rattle.tpm_model.specs.declared.object.Object.{Object}
use Rattle.tpm_model.specs.declared.parts.Parts.{Parts}
use Rattle.tpm_model.specs.Pcrs.{pcr_of}
use Rattle.tpm_model.specs.PcrCommands.{pcr_read, value_or_absent}
use Rattle.tpm_model.specs.Sessions.{is_session_hash, session_place, session_at, object_at}
use Rattle.tpm_model.specs.SessionCommands.{start_session, session_handle, policy_pcr, policy_pcr_on, policy_pcr_now, noted_before, with_pcrs, present_digest, policy_get_digest, digest_on, flush_session, flush_on, with_session}
use Rattle.tpm_model.specs.ObjectCommands.{unseal, unseal_on, unseal_of, unseal_noted, unseal_now}
use Rattle.tpm_model.specs.Rules.{HasRules}
use Rattle.tpm_model.proofs.Handles.{handles_from_test}
use Rattle.policy_session.specs.declared.error.UnsealError.{UnsealError}
use Rattle.policy_session.specs.declared.error.UnsealError.TheVariants as error
use Rattle.policy_session.specs.LiteralUnseal.{opened_by}
use Rattle.policy_session.specs.OpenSession.{with_open, closed, fresh_in, bound_in, IsOpen, start_answer, start_leaves, bind_answer, bind_leaves}
use Rattle.policy_session.specs.Responses.{started, bound, digest_read, value_read, unsealed, ended}
use Rattle.tpm_model.proofs.OnePcr.{there, absent}
use Rattle.policy_session.proofs.OneValue.{one_value}
use Rattle.policy_session.proofs.Sessions.{place_last, get_last, set_last, remove_last}

-- what a client takes from an answer, and the state after it
abbrev pub Means : {A : Type 0} → (Response → Result A UnsealError) → Response × Parts → Result A UnsealError → Parts → Type 0
Means view r taken after = (view r.0 ≡ taken) × (r.1 ≡ after)

-- StartSession
pub starts : (hash : Bank) (s : Parts) → IsPolicyHash hash → Means started (start_session hash s) (start_answer s) (start_leaves hash s)
unfolding with_open fresh_in
starts hash s p = by_tests (is_session_hash hash) (nat_le 64 (length s.sessions)) (nat_le 0x01000000 s.next_session) (allowed hash p)
  where
    allowed : (hash : Bank) → IsPolicyHash hash → is_session_hash hash ≡ true
    allowed hash (inl e) = ap is_session_hash e
    allowed hash (inr e) = ap is_session_hash e

    by_tests : (a b c : Bool) → a ≡ true
        → Means started
        (cond (not a) (answer.Refused refusal.Value, s) (cond b (answer.Refused refusal.SessionsFull, s) (cond c (answer.Refused refusal.HandlesEnd, s) (answer.Session (session_handle s.next_session), with_open (fresh_in hash s) s))))
        (cond b (Err error.SessionsFull) (cond c (Err error.HandlesEnd) (Ok (session_handle s.next_session)))) (cond b s (cond c s (with_open (fresh_in hash s) s)))
    by_tests true true c e = (refl, refl)
    by_tests true false true e = (refl, refl)
    by_tests true false false e = (refl, refl)
    by_tests false b c e = cc

-- the session that was started last is found
pub found : (x : Session) (s : Parts) → HasRules s → x.handle ≡ session_handle s.next_session → session_place (session_handle s.next_session) (s.sessions ++ x ∷ []) ≡ length s.sessions
found x s rules own = place_last 0x03000000 (session_handle s.next_session) s.sessions x
    (handles_from_test 0x03000000 (session_handle s.next_session) (map (λ (y : Session). y.handle) s.sessions) rules.session_order) own

pub found_at : (x : Session) (s : Parts) → HasRules s → x.handle ≡ session_handle s.next_session → session_at (session_handle s.next_session) (s.sessions ++ x ∷ []) ≡ Some x
found_at x s rules own = ap (slice_get (s.sessions ++ x ∷ [])) (found x s rules own) ∙ get_last s.sessions x

-- PolicyGetDigest
pub reads_digest : (handle : ℕ) (x : Session) (s : Parts) → IsOpen handle x s → Means digest_read (policy_get_digest handle (with_open x s)) (Ok x.digest) (with_open x s)
unfolding with_open
reads_digest handle x s h =
    let e : session_at handle (s.sessions ++ x ∷ []) ≡ Some x = ap (λ n. session_at n (s.sessions ++ x ∷ [])) h.number ∙ found_at x s h.rules h.own in
    (ap (λ o. digest_read (digest_on o handle (with_open x s)).0) e, ap (λ o. (digest_on o handle (with_open x s)).1) e)

-- FlushSession
pub flushes : (handle : ℕ) (x : Session) (s : Parts) → IsOpen handle x s → Means ended (flush_session handle (with_open x s)) (Ok tt) (closed s)
unfolding with_open closed
flushes handle x s h =
    let e : session_at handle (s.sessions ++ x ∷ []) ≡ Some x = ap (λ n. session_at n (s.sessions ++ x ∷ [])) h.number ∙ found_at x s h.rules h.own in
    let place : session_place handle (s.sessions ++ x ∷ []) ≡ length s.sessions = ap (λ n. session_place n (s.sessions ++ x ∷ [])) h.number ∙ found x s h.rules h.own in (
      ap (λ o. ended (flush_on o handle (with_open x s)).0) e,
      ap (λ o. (flush_on o handle (with_open x s)).1) e
          ∙ ap (λ xs. record s { next_session = s.next_session + 1; sessions = xs }) (ap (remove (s.sessions ++ x ∷ [])) place ∙ remove_last s.sessions x),
    )

-- PcrRead
pub reads_value : (bank : Bank) (pcr : ℕ) (now : List ℕ) (x : Session) (s : Parts) → pcr ≤ 23 → pcr_of s.banks s.pcrs bank pcr ≡ Some now → Means value_read (pcr_read bank pcr (with_open x s)) (Ok now) (with_open x s)
unfolding with_open
reads_value bank pcr now x s h e =
    let low : nat_lt 23 pcr ≡ false = low_enough pcr h in
    let r : pcr_read bank pcr (with_open x s) ≡ (answer.Pcr now, with_open x s) =
    ap (λ b. cond b (answer.Refused refusal.Value, with_open x s) (value_or_absent bank (pcr_of s.banks s.pcrs bank pcr) (with_open x s))) low
    ∙ ap (λ o. value_or_absent bank o (with_open x s)) e in
    (ap (λ q. value_read q.0) r, ap (λ q. q.1) r)
  where
    low_enough : (p : ℕ) → p ≤ 23 → nat_lt 23 p ≡ false
    low_enough p h = grind arith

pub same_noted : (n : ℕ) → noted_before (Some n) n ≡ None
same_noted n = ap (λ b. cond b None (Some n)) (eq-eqb n n refl)

same_handle : (n : ℕ) → (n == n) ≡ true
same_handle n = eq-eqb n n refl

-- Unseal
pub unseals : (handle object : ℕ) (x : Session) (s : Parts) → IsOpen handle x s → x.noted ≡ Some s.update_counter
    → Means (unsealed object) (unseal handle object (with_open x s)) (opened_by x.digest object (object_at object s.objects)) (with_open x s)
unfolding with_open
unseals handle object x s h noted =
    let e : session_at handle (s.sessions ++ x ∷ []) ≡ Some x = ap (λ n. session_at n (s.sessions ++ x ∷ [])) h.number ∙ found_at x s h.rules h.own in
    let r : unseal handle object (with_open x s) ≡ unseal_of (object_at object s.objects) x object (with_open x s) = ap (λ o. unseal_on o handle object (with_open x s)) e in
    let m = by_object (object_at object s.objects) in
    (ap (λ q. unsealed object q.0) r ∙ m.0, ap (λ q. q.1) r ∙ m.1)
  where
    nothing : noted_before x.noted s.update_counter ≡ None
    nothing = ap (λ o. noted_before o s.update_counter) noted ∙ same_noted s.update_counter

    by_test : (b : Bool) (o : Object) → Means (unsealed object)
        (cond b (answer.Secret o.secret, with_open x s) (answer.Refused (refusal.PolicyFail x.digest o.policy), with_open x s))
        (cond b (Ok o.secret) (Err (error.WrongBinding x.digest o.policy))) (with_open x s)
    by_test true o = (refl, refl)
    by_test false o = (refl, refl)

    by_object : (o : Option Object) → Means (unsealed object) (unseal_of o x object (with_open x s)) (opened_by x.digest object o) (with_open x s)
    by_object None = (ap (λ b. cond b (Err (error.NoObject object)) (Err error.Memory)) (same_handle object), refl)
    by_object (Some o) =
        let r : unseal_of (Some o) x object (with_open x s) ≡ unseal_now x o (with_open x s) = ap (λ n. unseal_noted n x o (with_open x s)) nothing in
        let m = by_test (bytes_eq x.digest o.policy) o in
        (ap (λ q. unsealed object q.0) r ∙ m.0, ap (λ q. q.1) r ∙ m.1)

small_mask : (p : ℕ) → p < 24 → nat_le (2 ^ 24) (2 ^ p) ≡ false
small_mask p h = let small : 2 ^ p < 2 ^ 24 = pow_below p 24 h in above (2 ^ p) small
  where
    above : (m : ℕ) → m < 2 ^ 24 → nat_le (2 ^ 24) m ≡ false
    above m h = grind arith

-- PolicyPCR
pub binds : (handle : ℕ) (literal : Literal) (s : Parts) → IsOpen handle (fresh_in literal.hash s) s → IsLiteral literal
    → Means bound (policy_pcr handle literal.bank (2 ^ literal.pcr) (with_open (fresh_in literal.hash s) s))
    (bind_answer literal.bank (pcr_of s.banks s.pcrs literal.bank literal.pcr)) (with_open (bind_leaves literal (pcr_of s.banks s.pcrs literal.bank literal.pcr) s) s)
unfolding with_open fresh_in bound_in
binds handle literal s h l = by_value (pcr_of s.banks s.pcrs literal.bank literal.pcr) refl
  where
    below : literal.pcr < 24
    below = omega (arith, l.pcr)

    small : nat_le (2 ^ 24) (2 ^ literal.pcr) ≡ false
    small = small_mask literal.pcr below

    on : policy_pcr handle literal.bank (2 ^ literal.pcr) (with_open (fresh_in literal.hash s) s)
        ≡ cond (not (has_bank s.banks literal.bank)) (answer.Refused (refusal.BankAbsent literal.bank), with_open (fresh_in literal.hash s) s)
        (policy_pcr_now handle (fresh_in literal.hash s) literal.bank (2 ^ literal.pcr) (with_open (fresh_in literal.hash s) s))
    on =
        let x = fresh_in literal.hash s in
        let w = with_open x s in
        let e : session_at handle (s.sessions ++ x ∷ []) ≡ Some x = ap (λ n. session_at n (s.sessions ++ x ∷ [])) h.number ∙ found_at x s h.rules h.own in
        ap (λ o. policy_pcr_on o handle literal.bank (2 ^ literal.pcr) w) e
        ∙ ap (λ b. cond b (answer.Refused refusal.Value, w) (cond (not (has_bank s.banks literal.bank)) (answer.Refused (refusal.BankAbsent literal.bank), w)
        (policy_pcr_now handle x literal.bank (2 ^ literal.pcr) w))) small

    by_value : (o : Option (List ℕ)) → pcr_of s.banks s.pcrs literal.bank literal.pcr ≡ o
        → Means bound (policy_pcr handle literal.bank (2 ^ literal.pcr) (with_open (fresh_in literal.hash s) s)) (bind_answer literal.bank o) (with_open (bind_leaves literal o s) s)
    by_value None e =
        let w = with_open (fresh_in literal.hash s) s in
        let no = absent s.banks s.pcrs literal.bank literal.pcr h.rules.shape.values below e in
        let r : policy_pcr handle literal.bank (2 ^ literal.pcr) w ≡ (answer.Refused (refusal.BankAbsent literal.bank), w) =
        on ∙ ap (λ b. cond (not b) (answer.Refused (refusal.BankAbsent literal.bank), w) (policy_pcr_now handle (fresh_in literal.hash s) literal.bank (2 ^ literal.pcr) w)) no in
        (ap (λ q. bound q.0) r, ap (λ q. q.1) r)
    by_value (Some now) e =
        let x = fresh_in literal.hash s in
        let w = with_open x s in
        let m = 2 ^ literal.pcr in
        let known = there s.banks s.pcrs literal.bank literal.pcr now below e in
        let r : policy_pcr handle literal.bank m w ≡ policy_pcr_now handle x literal.bank m w =
        on ∙ ap (λ b. cond (not b) (answer.Refused (refusal.BankAbsent literal.bank), w) (policy_pcr_now handle x literal.bank m w)) known.present in
        let value : present_digest literal.hash literal.bank m w ≡ digest_in literal.hash now = ap (values_digest_of literal.hash) known.chosen_alone ∙ one_value literal.hash now in
        let place : session_place handle (s.sessions ++ x ∷ []) ≡ length s.sessions = ap (λ n. session_place n (s.sessions ++ x ∷ [])) h.number ∙ found x s h.rules h.own in
        let sessions : with_session handle (bound_in literal now s) (s.sessions ++ x ∷ []) ≡ s.sessions ++ bound_in literal now s ∷ [] =
        ap (λ k. slice_set (s.sessions ++ x ∷ []) k (bound_in literal now s)) place ∙ set_last s.sessions x (bound_in literal now s) in (
          ap (λ q. bound q.0) r,
          ap (λ q. q.1) r
              ∙ ap (λ v. record w { sessions = with_session handle (with_pcrs (policy_pcr_of literal.hash (zeros_in literal.hash) literal.bank m v) s.update_counter (entry.Pcr literal.bank m v) x) (s.sessions ++ x ∷ []) }) value
              ∙ ap (λ xs. record w { sessions = xs }) sessions,
        )

-- and at a mask that is that number
pub binds_mask : (handle : ℕ) (literal : Literal) (mask : ℕ) (s : Parts) → IsOpen handle (fresh_in literal.hash s) s → IsLiteral literal → mask ≡ 2 ^ literal.pcr
    → Means bound (policy_pcr handle literal.bank mask (with_open (fresh_in literal.hash s) s))
    (bind_answer literal.bank (pcr_of s.banks s.pcrs literal.bank literal.pcr)) (with_open (bind_leaves literal (pcr_of s.banks s.pcrs literal.bank literal.pcr) s) s)
binds_mask handle literal mask s h l e =
    subst (λ m. Means bound (policy_pcr handle literal.bank m (with_open (fresh_in literal.hash s) s))
    (bind_answer literal.bank (pcr_of s.banks s.pcrs literal.bank literal.pcr)) (with_open (bind_leaves literal (pcr_of s.banks s.pcrs literal.bank literal.pcr) s) s))
    (sym e) (binds handle literal s h l)
