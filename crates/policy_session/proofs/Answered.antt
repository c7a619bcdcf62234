-- From what the device told and stores to what a client's step tells and stores.
use Rattle.std.proofs.Common.{◌≡◌, Bool, refl, sym, ap, ◌∙◌, subst, ◌⊎◌, inl, inr}
use Rattle.std.specs.Prelude.{Option, Some, Result, Ok, Err}
use Rattle.tpm_model.specs.declared.command.Command.{Command}
use Rattle.tpm_model.specs.Respond.{respond}
use Rattle.tpm_device.specs.declared.device.ExecError.{ExecError}
use Rattle.tpm_device.specs.declared.device.ExecError.TheVariants as exec
use Rattle.policy_session.specs.declared.error.UnsealError.TheVariants as error
use Rattle.tpm_model.specs.declared.response.Response.{Response}
use Rattle.tpm_model.specs.declared.parts.Parts.{Parts}
use Rattle.tpm_device.specs.Stored.{Stored, Holds, ExecuteStores}
use Rattle.policy_session.specs.declared.error.UnsealError.{UnsealError}
use Rattle.policy_session.specs.Answers.{is_answer, Told}
use Rattle.policy_session.specs.Kept.{IsKept, Kept, Stores}
use Rattle.policy_session.proofs.StepAnswers.{Means}

pub told_ok : {A : Type 0} (view : Response → Result A UnsealError) (r : Response × Parts) (answer : Result A UnsealError) (after : Parts) (response : Response) (result : Result A UnsealError) (ready : Bool) (live : Option Parts)
    → Means view r answer after → Told (Ok r.0) r.1 (Ok response) ready live → result ≡ view response → Told answer after result ready live
told_ok view r answer after response result ready live m t e = λ is.
    let told = t refl in
    let same : response ≡ r.0 = cc in
    (e ∙ ap view same ∙ m.0, told.1 ∙ ap Some m.1, told.2)

pub told_err : {A B : Type 0} (value : A) (told_answer : Result B UnsealError) (left after : Parts) (asked : Result A UnsealError) (result : Result B UnsealError) (why : UnsealError) (ready : Bool) (live : Option Parts)
    → asked ≡ Err why → result ≡ Err why → Told (Ok value) left asked ready live → Told told_answer after result ready live
told_err value told_answer left after asked result why ready live was now t = λ is.
    let told = t (ap is_answer was ∙ sym (ap is_answer now) ∙ is) in cc

pub kept_left : (s : Parts) (r : Response × Parts) (after : Parts) → r.1 ≡ after → IsKept s after → IsKept s r.1
kept_left s r after e kept = subst (IsKept s) (sym e) kept

pub stores_ok : {A : Type 0} (s : Parts) (r : Response × Parts) (after : Parts) (asked : Result Response UnsealError) (response : Response) (result : Result A UnsealError) (stored : Option Stored)
    → r.1 ≡ after → asked ≡ Ok response → Stores s r.1 asked stored → IsKept s after → Stores s after result stored
stores_ok s r after asked response result stored e was h kept =
    let holds : stored ≡ Some (Holds after) = h.answered (ap is_answer was) ∙ ap (λ p. Some (Holds p)) e in
    record { answered = λ is. holds; stopped = λ is. record { state = after; holds = holds; kept = kept } }

pub stores_err : {A B : Type 0} (s : Parts) (r : Response × Parts) (after : Parts) (asked : Result A UnsealError) (result : Result B UnsealError) (why : UnsealError) (stored : Option Stored)
    → r.1 ≡ after → asked ≡ Err why → result ≡ Err why → Stores s r.1 asked stored → Stores s after result stored
stores_err s r after asked result why stored e was now h =
    let same : is_answer result ≡ is_answer asked = ap is_answer now ∙ sym (ap is_answer was) in
    record { answered = λ is. h.answered (sym same ∙ is) ∙ ap (λ p. Some (Holds p)) e; stopped = λ is. h.stopped (sym same ∙ is) }

-- what is stored after a failure, and after want of memory
pub failed_stores : (command : Command) (base s : Parts) (why : ExecError) (stored : Option Stored) → why ≡ exec.Failed
    → ExecuteStores command s (Err why) stored → IsKept base s → IsKept base (respond command s).1 → Stores {A = Response} base (respond command s).1 (Err error.Failed) stored
failed_stores command base s why stored e t before next =
    let h : (stored ≡ Some (Holds s)) ⊎ (stored ≡ Some (Holds (respond command s).1)) = subst (λ w. ExecuteStores command s (Err w) stored) e t in
    record { answered = λ is. cc; stopped = λ is. either h }
  where
    either : (stored ≡ Some (Holds s)) ⊎ (stored ≡ Some (Holds (respond command s).1)) → Kept base stored
    either (inl p) = record { state = s; holds = p; kept = before }
    either (inr p) = record { state = (respond command s).1; holds = p; kept = next }

pub memory_stores : (command : Command) (base s : Parts) (why : ExecError) (stored : Option Stored) → why ≡ exec.Memory
    → ExecuteStores command s (Err why) stored → IsKept base s → Stores {A = Response} base (respond command s).1 (Err error.Memory) stored
memory_stores command base s why stored e t before =
    let h : stored ≡ Some (Holds s) = subst (λ w. ExecuteStores command s (Err w) stored) e t in
    record { answered = λ is. cc; stopped = λ is. record { state = s; holds = h; kept = before } }
