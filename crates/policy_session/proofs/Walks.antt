-- How the steps of a walk join.
use Rattle.std.proofs.Common.{◌≡◌, ℕ, Bool, true, false, cond, List, refl, sym, ap, ◌∙◌}
use Rattle.std.specs.Prelude.{Option, None, Some, Result, Ok, Err}
use Rattle.std.specs.Str.{bytes_eq}
use Rattle.hash_bank.specs.declared.bank.Bank.{Bank}
use Rattle.policy_file.specs.declared.token.Literal.{Literal}
use Rattle.tpm_model.specs.declared.parts.Parts.{Parts}
use Rattle.tpm_model.specs.Sessions.{object_at}
use Rattle.policy_session.specs.declared.error.UnsealError.{UnsealError}
use Rattle.policy_session.specs.declared.error.UnsealError.TheVariants as error
use Rattle.tpm_device.specs.Stored.{Stored, Holds}
use Rattle.policy_session.specs.Answers.{is_answer, Told}
use Rattle.policy_session.specs.Kept.{IsKept, Stores}
use Rattle.tpm_model.specs.Binding.{literal_policy}
use Rattle.policy_session.specs.LiteralUnseal.{opened_at, opened_by}
use Rattle.policy_session.specs.OpenSession.{bind_answer, compare_answer}

abbrev pub passed : Result (Unit {0}) UnsealError
passed = Ok tt

abbrev pub refused_unit : UnsealError → Result (Unit {0}) UnsealError
refused_unit why = Err why

abbrev pub policy_at : Literal → List ℕ → List ℕ
policy_at literal value = literal_policy literal.hash literal.bank literal.pcr value

-- the value that a session was bound to
pub bound_value : (bank : Bank) (o : Option (List ℕ)) (r : Result (Unit {0}) UnsealError) → r ≡ Ok tt → r ≡ bind_answer bank o → (now : List ℕ) × (o ≡ Some now)
bound_value bank None r p q = cc
bound_value bank (Some now) r p q = (now, refl)

-- where it could not be bound, that is the answer
pub bind_refused : (literal : Literal) (object : ℕ) (s : Parts) (o : Option (List ℕ)) (r : Result (Unit {0}) UnsealError) (why : UnsealError) → r ≡ Err why → r ≡ bind_answer literal.bank o → Err why ≡ opened_at o literal object s
bind_refused literal object s None r why p q = cc
bind_refused literal object s (Some now) r why p q = cc

-- the comparison of two policies that are the present one and the asked one
pub compared : (literal : Literal) (now : List ℕ) (d p : List ℕ) (b : Bool) → d ≡ policy_at literal now → p ≡ policy_at literal literal.value → bytes_eq d p ≡ b
    → compare_answer literal now ≡ cond b (Ok tt) (Err (error.NotLiteral now))
compared literal now d p b e f t =
    ap (λ c. cond c (Ok tt) (Err (error.NotLiteral now))) (ap (λ x. bytes_eq x (policy_at literal literal.value)) (sym e) ∙ ap (bytes_eq d) (sym f) ∙ t)

-- where it refused, that is the answer
pub compare_refused : (literal : Literal) (object : ℕ) (s : Parts) (now : List ℕ) (r : Result (Unit {0}) UnsealError) (why : UnsealError) → r ≡ Err why → r ≡ compare_answer literal now → Err why ≡ opened_at (Some now) literal object s
compare_refused literal object s now r why p q = by_test (bytes_eq (policy_at literal now) (policy_at literal literal.value)) (sym p ∙ q)
  where
    by_test : (b : Bool) → refused_unit why ≡ cond b passed (Err (error.NotLiteral now)) → Err why ≡ cond b (opened_by (policy_at literal now) object (object_at object s.objects)) (Err (error.NotLiteral now))
    by_test true e = cc
    by_test false e = cc

-- where it passed, the object decides
pub compare_passed : (literal : Literal) (object : ℕ) (s : Parts) (now : List ℕ) (r : Result (Unit {0}) UnsealError) → r ≡ Ok tt → r ≡ compare_answer literal now → opened_by (policy_at literal now) object (object_at object s.objects) ≡ opened_at (Some now) literal object s
compare_passed literal object s now r p q = by_test (bytes_eq (policy_at literal now) (policy_at literal literal.value)) (sym p ∙ q)
  where
    by_test : (b : Bool) → passed ≡ cond b passed (Err (error.NotLiteral now)) → opened_by (policy_at literal now) object (object_at object s.objects) ≡ cond b (opened_by (policy_at literal now) object (object_at object s.objects)) (Err (error.NotLiteral now))
    by_test true e = refl
    by_test false e = cc

-- what a step told is what the walk tells
pub told_then : {A B : Type 0} (before : Result A UnsealError) (answer : Result B UnsealError) (left after : Parts) (asked : Result A UnsealError) (result : Result B UnsealError) (ready : Bool) (live : Option Parts)
    → is_answer result ≡ is_answer asked → (asked ≡ before → result ≡ answer) → left ≡ after → Told before left asked ready live → Told answer after result ready live
told_then before answer left after asked result ready live same f e h = λ is.
    let t = h (sym same ∙ is) in
    (f t.0, t.1 ∙ ap Some e, t.2)

pub same_refusal : {A B : Type 0} (asked : Result A UnsealError) (result : Result B UnsealError) (why : UnsealError) → asked ≡ Err why → result ≡ Err why → is_answer result ≡ is_answer asked
same_refusal asked result why was now = ap is_answer now ∙ sym (ap is_answer was)

pub stores_then : {A B : Type 0} (s left after : Parts) (asked : Result A UnsealError) (result : Result B UnsealError) (stored : Option Stored)
    → is_answer result ≡ is_answer asked → (is_answer asked ≡ true → left ≡ after) → Stores s left asked stored → Stores s after result stored
stores_then s left after asked result stored same f h = record {
  answered = λ is. let was : is_answer asked ≡ true = sym same ∙ is in h.answered was ∙ ap (λ p. Some (Holds p)) (f was);
  stopped = λ is. h.stopped (sym same ∙ is);
}

pub stores_passed : {A B : Type 0} (s left after : Parts) (asked : Result A UnsealError) (value : A) (result : Result B UnsealError) (stored : Option Stored)
    → left ≡ after → asked ≡ Ok value → Stores s left asked stored → IsKept s after → Stores s after result stored
stores_passed s left after asked value result stored e was h kept =
    let holds : stored ≡ Some (Holds after) = h.answered (ap is_answer was) ∙ ap (λ p. Some (Holds p)) e in
    record { answered = λ is. holds; stopped = λ is. record { state = after; holds = holds; kept = kept } }
