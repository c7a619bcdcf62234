-- The start of a session, and what it means for what follows.
use Rattle.std.proofs.Common.{◌≡◌, ℕ, ◌+◌, Bool, true, false, cond, ◌||◌, ◌⊎◌, inl, inr, length, refl, sym, ap, ◌∙◌, subst}
use Rattle.std.specs.Prelude.{nat_le, Option, Result, Ok, Err}
use Rattle.hash_bank.specs.declared.bank.Bank.{Bank}
use Rattle.policy_digest.specs.Policies.{IsPolicyHash}
use Rattle.tpm_model.specs.declared.parts.Parts.{Parts}
use Rattle.tpm_model.specs.Rules.{HasRules}
use Rattle.tpm_model.specs.SessionCommands.{session_handle}
use Rattle.policy_session.specs.declared.error.UnsealError.{UnsealError}
use Rattle.policy_session.specs.declared.error.UnsealError.TheVariants as error
use Rattle.policy_session.specs.Kept.{IsKept}
use Rattle.policy_session.specs.LiteralUnseal.{after_unseal}
use Rattle.policy_session.specs.OpenSession.{IsOpen, closed, fresh_in, start_answer, start_leaves, with_open}
use Rattle.policy_session.proofs.KeptStates.{kept_closed, kept_self, kept_start}

-- an answer that has the same tests before it as the start of a session
abbrev pub unless_full : {A : Type 0} → Parts → Result A UnsealError → Result A UnsealError
unless_full s answer =
    cond (nat_le 64 (length s.sessions)) (Err error.SessionsFull) (cond (nat_le 0x01000000 s.next_session) (Err error.HandlesEnd) answer)

-- a session can start
pub record CanStart (handle : ℕ) (hash : Bank) (s : Parts) : Type 0 where
  pub room : nat_le 64 (length s.sessions) ≡ false
  pub number : nat_le 0x01000000 s.next_session ≡ false
  pub leaves : start_leaves hash s ≡ with_open (fresh_in hash s) s
  pub session : IsOpen handle (fresh_in hash s) s
  pub after : after_unseal s ≡ closed s

-- none can
pub record CannotStart (why : UnsealError) (hash : Bank) (s : Parts) : Type 0 where
  pub leaves : start_leaves hash s ≡ s
  pub after : after_unseal s ≡ s
  pub tests : ((nat_le 64 (length s.sessions) ≡ true) × (why ≡ error.SessionsFull))
      ⊎ ((nat_le 64 (length s.sessions) ≡ false) × (nat_le 0x01000000 s.next_session ≡ true) × (why ≡ error.HandlesEnd))

abbrev pub begins : ℕ → Result ℕ UnsealError
begins handle = Ok handle

abbrev pub refuses : UnsealError → Result ℕ UnsealError
refuses why = Err why

pub can_start : (handle : ℕ) (hash : Bank) (s : Parts) → HasRules s → IsPolicyHash hash → begins handle ≡ start_answer s → CanStart handle hash s
unfolding closed fresh_in
can_start handle hash s rules policy e = by_tests (nat_le 64 (length s.sessions)) (nat_le 0x01000000 s.next_session) refl refl e
  where
    by_tests : (a b : Bool) → nat_le 64 (length s.sessions) ≡ a → nat_le 0x01000000 s.next_session ≡ b
        → begins handle ≡ cond a (Err error.SessionsFull) (cond b (Err error.HandlesEnd) (Ok (session_handle s.next_session))) → CanStart handle hash s
    by_tests true b p q e = cc
    by_tests false true p q e = cc
    by_tests false false p q e =
        let leaves : start_leaves hash s ≡ with_open (fresh_in hash s) s =
        ap (λ a. cond a s (cond (nat_le 0x01000000 s.next_session) s (with_open (fresh_in hash s) s))) p
        ∙ ap (λ b. cond b s (with_open (fresh_in hash s) s)) q in
        record {
          room = p;
          number = q;
          leaves = leaves;
          session = record { number = cc; own = refl; rules = rules; kept = subst (IsKept s) leaves (kept_start hash s policy rules) };
          after =
              ap (λ a. cond (a || nat_le 0x01000000 s.next_session) s (record s { next_session = s.next_session + 1 })) p
              ∙ ap (λ b. cond b s (record s { next_session = s.next_session + 1 })) q;
        }

pub cannot_start : (why : UnsealError) (hash : Bank) (s : Parts) → refuses why ≡ start_answer s → CannotStart why hash s
cannot_start why hash s e = by_tests (nat_le 64 (length s.sessions)) (nat_le 0x01000000 s.next_session) refl refl e
  where
    by_tests : (a b : Bool) → nat_le 64 (length s.sessions) ≡ a → nat_le 0x01000000 s.next_session ≡ b
        → refuses why ≡ cond a (Err error.SessionsFull) (cond b (Err error.HandlesEnd) (Ok (session_handle s.next_session))) → CannotStart why hash s
    by_tests true b p q e = record {
      leaves = ap (λ a. cond a s (cond (nat_le 0x01000000 s.next_session) s (with_open (fresh_in hash s) s))) p;
      after = ap (λ a. cond (a || nat_le 0x01000000 s.next_session) s (record s { next_session = s.next_session + 1 })) p;
      tests = inl (p, cc);
    }
    by_tests false true p q e = record {
      leaves =
          ap (λ a. cond a s (cond (nat_le 0x01000000 s.next_session) s (with_open (fresh_in hash s) s))) p
          ∙ ap (λ b. cond b s (with_open (fresh_in hash s) s)) q;
      after =
          ap (λ a. cond (a || nat_le 0x01000000 s.next_session) s (record s { next_session = s.next_session + 1 })) p
          ∙ ap (λ b. cond b s (record s { next_session = s.next_session + 1 })) q;
      tests = inr (p, q, cc);
    }
    by_tests false false p q e = cc

-- what is answered where one can start, and where none can
pub unless_room : {A : Type 0} (handle : ℕ) (hash : Bank) (s : Parts) (answer : Result A UnsealError) → CanStart handle hash s → unless_full s answer ≡ answer
unless_room handle hash s answer c =
    ap (λ a. cond a (Err error.SessionsFull) (cond (nat_le 0x01000000 s.next_session) (Err error.HandlesEnd) answer)) c.room
    ∙ ap (λ b. cond b (Err error.HandlesEnd) answer) c.number

pub unless_why : {A : Type 0} (why : UnsealError) (hash : Bank) (s : Parts) (answer : Result A UnsealError) → CannotStart why hash s → unless_full s answer ≡ Err why
unless_why why hash s answer c = by_tests c.tests
  where
    by_tests : ((nat_le 64 (length s.sessions) ≡ true) × (why ≡ error.SessionsFull))
        ⊎ ((nat_le 64 (length s.sessions) ≡ false) × (nat_le 0x01000000 s.next_session ≡ true) × (why ≡ error.HandlesEnd)) → unless_full s answer ≡ Err why
    by_tests (inl t) =
        ap (λ a. cond a (Err error.SessionsFull) (cond (nat_le 0x01000000 s.next_session) (Err error.HandlesEnd) answer)) t.0 ∙ ap Err (sym t.1)
    by_tests (inr t) =
        ap (λ a. cond a (Err error.SessionsFull) (cond (nat_le 0x01000000 s.next_session) (Err error.HandlesEnd) answer)) t.0
        ∙ ap (λ b. cond b (Err error.HandlesEnd) answer) t.1 ∙ ap Err (sym t.2)

-- the state after an unseal is kept
pub kept_after : (hash : Bank) (s : Parts) → HasRules s → IsPolicyHash hash → IsKept s (after_unseal s)
kept_after hash s rules policy = by_start (start_answer s) refl
  where
    by_start : (r : Result ℕ UnsealError) → r ≡ start_answer s → IsKept s (after_unseal s)
    by_start (Ok handle) e = let c = can_start handle hash s rules policy e in subst (IsKept s) (sym c.after) (kept_closed handle (fresh_in hash s) s c.session)
    by_start (Err why) e = let c = cannot_start why hash s e in subst (IsKept s) (sym c.after) (kept_self s rules)
