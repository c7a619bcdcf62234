-- What the walk's commands leave differs at most in sessions, and has the rules.
use Rattle.std.proofs.Common.{◌≡◌, ℕ, ◌+◌, ◌^◌, Bool, true, false, cond, ◌||◌, List, length, refl, sym, ap, ◌∙◌, subst}
use Rattle.std.specs.Prelude.{nat_le, Option, None, Some, Result, Ok, Err}
use Rattle.hash_bank.specs.declared.bank.Bank.{Bank}
use Rattle.policy_digest.specs.Policies.{IsPolicyHash}
use Rattle.policy_file.specs.declared.token.Literal.{Literal}
use Rattle.policy_file.specs.TokenText.{IsLiteral}
use Rattle.tpm_model.specs.declared.sessions.Session.{Session}
use Rattle.tpm_model.specs.declared.parts.Parts.{Parts}
use Rattle.tpm_model.specs.Pcrs.{pcr_of}
use Rattle.tpm_model.specs.SessionCommands.{session_handle}
use Rattle.tpm_model.specs.Rules.{HasRules}
use Rattle.tpm_model.proofs.KeepsRules.{keeps-start_session, keeps-policy_pcr, keeps-flush_session}
use Rattle.policy_session.specs.declared.error.UnsealError.{UnsealError}
use Rattle.policy_session.specs.declared.error.UnsealError.TheVariants as error
use Rattle.policy_session.specs.Kept.{IsKept}
use Rattle.tpm_device.specs.Running.{DiffersInSessions}
use Rattle.policy_session.specs.LiteralUnseal.{opened, opened_at, after_unseal}
use Rattle.policy_session.specs.OpenSession.{with_open, closed, fresh_in, bound_in, IsOpen, start_answer, start_leaves, bind_leaves}
use Rattle.policy_session.proofs.StepAnswers.{starts, binds, flushes}

alike : (s : Parts) → DiffersInSessions s s
alike s = record { banks = refl; pcrs = refl; update_counter = refl; write_counter = refl; next_object = refl; indices = refl; objects = refl }

pub open_alike : (x : Session) (s : Parts) → DiffersInSessions s (with_open x s)
unfolding with_open
open_alike x s = record { banks = refl; pcrs = refl; update_counter = refl; write_counter = refl; next_object = refl; indices = refl; objects = refl }

closed_alike : (s : Parts) → DiffersInSessions s (closed s)
unfolding closed
closed_alike s = record { banks = refl; pcrs = refl; update_counter = refl; write_counter = refl; next_object = refl; indices = refl; objects = refl }

start_alike : (hash : Bank) (s : Parts) → DiffersInSessions s (start_leaves hash s)
start_alike hash s = by_tests (nat_le 64 (length s.sessions)) (nat_le 0x01000000 s.next_session)
  where
    by_tests : (a b : Bool) → DiffersInSessions s (cond a s (cond b s (with_open (fresh_in hash s) s)))
    by_tests true b = alike s
    by_tests false true = alike s
    by_tests false false = open_alike (fresh_in hash s) s

pub kept_self : (s : Parts) → HasRules s → IsKept s s
kept_self s h = record { rules = h; differs = alike s }

pub kept_start : (hash : Bank) (s : Parts) → IsPolicyHash hash → HasRules s → IsKept s (start_leaves hash s)
kept_start hash s p h = record { rules = subst HasRules (starts hash s p).1 (keeps-start_session hash s h); differs = start_alike hash s }

pub kept_bind : (handle : ℕ) (literal : Literal) (s : Parts) → IsOpen handle (fresh_in literal.hash s) s → IsLiteral literal
    → IsKept s (with_open (bind_leaves literal (pcr_of s.banks s.pcrs literal.bank literal.pcr) s) s)
kept_bind handle literal s h l = record {
  rules = subst HasRules (binds handle literal s h l).1 (keeps-policy_pcr handle literal.bank (2 ^ literal.pcr) _ h.kept.rules);
  differs = open_alike _ s;
}

pub kept_closed : (handle : ℕ) (x : Session) (s : Parts) → IsOpen handle x s → IsKept s (closed s)
kept_closed handle x s h = record { rules = subst HasRules (flushes handle x s h).1 (keeps-flush_session handle _ h.kept.rules); differs = closed_alike s }

-- the session that PolicyPCR leaves is open
pub open_bound : (handle : ℕ) (literal : Literal) (s : Parts) → IsOpen handle (fresh_in literal.hash s) s → IsLiteral literal
    → IsOpen handle (bind_leaves literal (pcr_of s.banks s.pcrs literal.bank literal.pcr) s) s
unfolding fresh_in bound_in
open_bound handle literal s h l = record {
  number = h.number;
  own = own (pcr_of s.banks s.pcrs literal.bank literal.pcr);
  rules = h.rules;
  kept = kept_bind handle literal s h l;
}
  where
    own : (o : Option (List ℕ)) → (bind_leaves literal o s).handle ≡ session_handle s.next_session
    own None = refl
    own (Some now) = refl

abbrev pub started_with : ℕ → Result ℕ UnsealError
started_with handle = Ok handle

-- a state in which a session was started
pub record Starting (handle : ℕ) (literal : Literal) (object : ℕ) (s : Parts) : Type 0 where
  pub leaves : start_leaves literal.hash s ≡ with_open (fresh_in literal.hash s) s
  pub session : IsOpen handle (fresh_in literal.hash s) s
  pub answer : opened literal object s ≡ opened_at (pcr_of s.banks s.pcrs literal.bank literal.pcr) literal object s
  pub after : after_unseal s ≡ closed s

pub starting : (handle : ℕ) (literal : Literal) (object : ℕ) (s : Parts) → HasRules s → IsLiteral literal → started_with handle ≡ start_answer s → Starting handle literal object s
unfolding closed fresh_in
starting handle literal object s h l e = by_tests (nat_le 64 (length s.sessions)) (nat_le 0x01000000 s.next_session) refl refl e
  where
    by_tests : (a b : Bool) → nat_le 64 (length s.sessions) ≡ a → nat_le 0x01000000 s.next_session ≡ b
        → started_with handle ≡ cond a (Err error.SessionsFull) (cond b (Err error.HandlesEnd) (Ok (session_handle s.next_session))) → Starting handle literal object s
    by_tests true b p q e = cc
    by_tests false true p q e = cc
    by_tests false false p q e =
        let leaves : start_leaves literal.hash s ≡ with_open (fresh_in literal.hash s) s =
        ap (λ a. cond a s (cond (nat_le 0x01000000 s.next_session) s (with_open (fresh_in literal.hash s) s))) p
        ∙ ap (λ b. cond b s (with_open (fresh_in literal.hash s) s)) q in
        record {
          leaves = leaves;
          session = record { number = cc; own = refl; rules = h; kept = subst (IsKept s) leaves (kept_start literal.hash s l.hash h) };
          answer =
              ap (λ a. cond a (Err error.SessionsFull) (cond (nat_le 0x01000000 s.next_session) (Err error.HandlesEnd) (opened_at (pcr_of s.banks s.pcrs literal.bank literal.pcr) literal object s))) p
              ∙ ap (λ b. cond b (Err error.HandlesEnd) (opened_at (pcr_of s.banks s.pcrs literal.bank literal.pcr) literal object s)) q;
          after =
              ap (λ a. cond (a || nat_le 0x01000000 s.next_session) s (record s { next_session = s.next_session + 1 })) p
              ∙ ap (λ b. cond b s (record s { next_session = s.next_session + 1 })) q;
        }

abbrev pub refused_with : UnsealError → Result ℕ UnsealError
refused_with why = Err why

-- a state in which no session can start
pub record NotStarting (hash : Bank) (literal : Literal) (object : ℕ) (why : UnsealError) (s : Parts) : Type 0 where
  pub leaves : start_leaves hash s ≡ s
  pub answer : opened literal object s ≡ Err why
  pub after : after_unseal s ≡ s

pub not_starting : (hash : Bank) (literal : Literal) (object : ℕ) (why : UnsealError) (s : Parts) → refused_with why ≡ start_answer s → NotStarting hash literal object why s
not_starting hash literal object why s e = by_tests (nat_le 64 (length s.sessions)) (nat_le 0x01000000 s.next_session) refl refl e
  where
    by_tests : (a b : Bool) → nat_le 64 (length s.sessions) ≡ a → nat_le 0x01000000 s.next_session ≡ b
        → refused_with why ≡ cond a (Err error.SessionsFull) (cond b (Err error.HandlesEnd) (Ok (session_handle s.next_session))) → NotStarting hash literal object why s
    by_tests true b p q e =
        let same : error.SessionsFull ≡ why = cc in
        record {
          leaves = ap (λ a. cond a s (cond (nat_le 0x01000000 s.next_session) s (with_open (fresh_in hash s) s))) p;
          answer =
              ap (λ a. cond a (Err error.SessionsFull) (cond (nat_le 0x01000000 s.next_session) (Err error.HandlesEnd) (opened_at (pcr_of s.banks s.pcrs literal.bank literal.pcr) literal object s))) p
              ∙ ap Err same;
          after = ap (λ a. cond (a || nat_le 0x01000000 s.next_session) s (record s { next_session = s.next_session + 1 })) p;
        }
    by_tests false true p q e =
        let same : error.HandlesEnd ≡ why = cc in
        record {
          leaves =
              ap (λ a. cond a s (cond (nat_le 0x01000000 s.next_session) s (with_open (fresh_in hash s) s))) p
              ∙ ap (λ b. cond b s (with_open (fresh_in hash s) s)) q;
          answer =
              ap (λ a. cond a (Err error.SessionsFull) (cond (nat_le 0x01000000 s.next_session) (Err error.HandlesEnd) (opened_at (pcr_of s.banks s.pcrs literal.bank literal.pcr) literal object s))) p
              ∙ ap (λ b. cond b (Err error.HandlesEnd) (opened_at (pcr_of s.banks s.pcrs literal.bank literal.pcr) literal object s)) q
              ∙ ap Err same;
          after =
              ap (λ a. cond (a || nat_le 0x01000000 s.next_session) s (record s { next_session = s.next_session + 1 })) p
              ∙ ap (λ b. cond b s (record s { next_session = s.next_session + 1 })) q;
        }
    by_tests false false p q e = cc

-- the state after an unseal is kept
pub after_kept : (literal : Literal) (object : ℕ) (s : Parts) → HasRules s → IsLiteral literal → IsKept s (after_unseal s)
after_kept literal object s h l = by_start (start_answer s) refl
  where
    by_start : (r : Result ℕ UnsealError) → r ≡ start_answer s → IsKept s (after_unseal s)
    by_start (Ok handle) e = let st = starting handle literal object s h l e in subst (IsKept s) (sym st.after) (kept_closed handle (fresh_in literal.hash s) s st.session)
    by_start (Err why) e = let n = not_starting literal.hash literal object why s e in subst (IsKept s) (sym n.after) (kept_self s h)
