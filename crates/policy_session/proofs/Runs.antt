-- From what a device told and stores to what a client's functions tell and store.
use Rattle.std.proofs.Common.{◌≡◌, Bool, true, refl, sym, ap, ◌∙◌, subst, true≢false}
use Rattle.std.specs.Prelude.{Option, Some, Result, Ok, Err}
use Rattle.tpm_device.specs.Stored.{Stored, Holds}
use Rattle.tpm_model.specs.declared.command.Command.{Command}
use Rattle.tpm_model.specs.declared.response.Response.{Response}
use Rattle.tpm_model.specs.declared.parts.Parts.{Parts}
use Rattle.tpm_model.specs.Respond.{respond}
use Rattle.policy_session.specs.declared.error.UnsealError.{UnsealError}
use Rattle.policy_session.specs.Answers.{Told, is_answer}
use Rattle.policy_session.specs.Kept.{IsKept, Stores}
use Rattle.policy_session.specs.Ran.{Gives, Ran}
use Rattle.tpm_device.specs.Running.{IsLive}

-- the answer is that of the state, and the next state stands after it
abbrev pub AsksSo : Command → Parts → Result Response UnsealError → Parts → Type 0
AsksSo command s result after = (result ≡ Ok (respond command s).0) × (after ≡ (respond command s).1)

pub ran_of : (command asked : Command) (base s : Parts) (keeps : Bool) (result : Result Response UnsealError) (ready : Bool) (live : Option Parts) (stored : Option Stored)
    → asked ≡ command → Told (Ok (respond asked s).0) (respond asked s).1 result ready live → (keeps ≡ true → Stores base (respond asked s).1 result stored)
    → Ran base keeps (AsksSo command s) result ready live stored
ran_of command asked base s keeps result ready live stored e told stores = record {
  answered = λ is.
      let t = told is in
      record {
        after = (respond command s).1;
        is = record {
          now = t.1 ∙ ap (λ k. Some (respond k s).1) e;
          same = λ k. (stores k).answered is ∙ ap (λ q. Some (Holds (respond q s).1)) e;
        };
        readiness = t.2;
        good = (t.0 ∙ ap (λ k. Ok (respond k s).0) e, refl);
      };
  stopped = λ is_none k. (stores k).stopped is_none;
}

-- an answer that is known
abbrev pub answers_with : Response → Result Response UnsealError
answers_with response = Ok response

pub ran_known : (command asked : Command) (answer : Response) (left base s : Parts) (keeps : Bool) (result : Result Response UnsealError) (ready : Bool) (live : Option Parts) (stored : Option Stored)
    → asked ≡ command → respond command s ≡ (answer, left) → Told (Ok (respond asked s).0) (respond asked s).1 result ready live → (keeps ≡ true → Stores base (respond asked s).1 result stored)
    → Ran base keeps (Gives (answers_with answer) left) result ready live stored
ran_known command asked answer left base s keeps result ready live stored e is told stores =
    let h = ran_of command asked base s keeps result ready live stored e told stores in
    record {
      answered = λ is_one.
          let a = h.answered is_one in
          record {
            after = a.after;
            is = a.is;
            readiness = a.readiness;
            good = (a.good.0 ∙ ap (λ (r : Response × Parts). Ok r.0) is, a.good.1 ∙ ap (λ (r : Response × Parts). r.1) is);
          };
      stopped = h.stopped;
    }

-- a step behind an answer, and behind none
pub ran_ok : {A B : Type 0} (base : Parts) (keeps : Bool) (Good : Result A UnsealError → Parts → Type 0) (Next : Result B UnsealError → Parts → Type 0) (v : A) (w : B)
    (ready : Bool) (live : Option Parts) (stored : Option Stored)
    → Ran base keeps Good (Ok v) ready live stored → ((after : Parts) → Good (Ok v) after → Next (Ok w) after) → Ran base keeps Next (Ok w) ready live stored
ran_ok base keeps Good Next v w ready live stored h f = record {
  answered = λ is. let a = h.answered is in record { after = a.after; is = a.is; readiness = a.readiness; good = f a.after a.good };
  stopped = λ is_none. h.stopped is_none;
}

pub ran_err : {A B : Type 0} (base : Parts) (keeps : Bool) (Good : Result A UnsealError → Parts → Type 0) (Next : Result B UnsealError → Parts → Type 0) (e : UnsealError)
    (ready : Bool) (live : Option Parts) (stored : Option Stored)
    → Ran base keeps Good (Err e) ready live stored → ((after : Parts) → Good (Err e) after → Next (Err e) after) → Ran base keeps Next (Err e) ready live stored
ran_err base keeps Good Next e ready live stored h f = record {
  answered = λ is. let a = h.answered is in record { after = a.after; is = a.is; readiness = a.readiness; good = f a.after a.good };
  stopped = λ is_none. h.stopped is_none;
}

-- what a client takes from a known answer
pub ran_view : {A B : Type 0} (base : Parts) (keeps : Bool) (Good : Result A UnsealError → Parts → Type 0) (v : A) (answer result : Result B UnsealError) (left : Parts)
    (ready : Bool) (live : Option Parts) (stored : Option Stored)
    → Ran base keeps Good (Ok v) ready live stored → ((after : Parts) → Good (Ok v) after → Gives answer left result after) → is_answer answer ≡ true
    → Ran base keeps (Gives answer left) result ready live stored
ran_view base keeps Good v answer result left ready live stored h f one = record {
  answered = λ is. let a = h.answered refl in record { after = a.after; is = a.is; readiness = a.readiness; good = f a.after a.good };
  stopped = λ is_none k.
      let a = h.answered refl in
      let same : result ≡ answer = (f a.after a.good).0 in
      absurd (true≢false (sym one ∙ sym (ap is_answer same) ∙ is_none));
}

-- behind the end of a session stands what the walk came to
pub ran_closed : {A B : Type 0} (base left : Parts) (keeps : Bool) (ended : Result A UnsealError) (v : A) (answer : Result B UnsealError) (ready : Bool) (live : Option Parts) (stored : Option Stored)
    → Ran base keeps (Gives ended left) (Ok v) ready live stored → IsKept base left → Ran base keeps (Gives answer left) answer ready live stored
ran_closed base left keeps ended v answer ready live stored h kept = record {
  answered = λ is. let a = h.answered refl in record { after = a.after; is = a.is; readiness = a.readiness; good = (refl, a.good.1) };
  stopped = λ is_none k.
      let a = h.answered refl in
      record { state = left; holds = a.is.same k ∙ ap (λ n. Some (Holds n)) a.good.1; kept = kept };
}

-- another name of the answer
pub ran_same : {A : Type 0} (base left : Parts) (keeps : Bool) (a b result : Result A UnsealError) (ready : Bool) (live : Option Parts) (stored : Option Stored)
    → Ran base keeps (Gives a left) result ready live stored → a ≡ b → Ran base keeps (Gives b left) result ready live stored
ran_same base left keeps a b result ready live stored h e = subst (λ q. Ran base keeps (Gives q left) result ready live stored) e h

pub live_as : (keeps : Bool) (s t : Parts) (live : Option Parts) (stored : Option Stored) → IsLive keeps s live stored → s ≡ t → IsLive keeps t live stored
live_as keeps s t live stored h e = subst (λ q. IsLive keeps q live stored) e h

-- another name of the state after it
pub ran_left : {A : Type 0} (base left after : Parts) (keeps : Bool) (answer result : Result A UnsealError) (ready : Bool) (live : Option Parts) (stored : Option Stored)
    → Ran base keeps (Gives answer left) result ready live stored → left ≡ after → Ran base keeps (Gives answer after) result ready live stored
ran_left base left after keeps answer result ready live stored h e = subst (λ q. Ran base keeps (Gives answer q) result ready live stored) e h
