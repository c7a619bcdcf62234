-- What a device tells around a client's commands, its live state and what it stores at once.
use Rattle.std.specs.Prelude.{◌≡◌, Bool, true, false, Option, Result}
use Rattle.tpm_model.specs.declared.parts.Parts.{Parts}
use Rattle.tpm_device.specs.Running.{IsLive}
use Rattle.tpm_device.specs.Stored.{Stored}
use Rattle.policy_session.specs.declared.error.UnsealError.{UnsealError}
use Rattle.policy_session.specs.Answers.{is_answer}
use Rattle.policy_session.specs.Kept.{Kept}

-- an answer and the state after it: the state is live, and the device ready
pub record Answered {A : Type 0} (keeps : Bool) (Good : Result A UnsealError → Parts → Type 0) (result : Result A UnsealError) (ready : Bool) (live : Option Parts) (stored : Option Stored) : Type 0 where
  pub after : Parts
  pub is : IsLive keeps after live stored
  pub readiness : ready ≡ true
  pub good : Good result after

-- an answer is a good one; else what is stored differs at most in sessions from the state before
pub record Ran {A : Type 0} (base : Parts) (keeps : Bool) (Good : Result A UnsealError → Parts → Type 0) (result : Result A UnsealError) (ready : Bool) (live : Option Parts) (stored : Option Stored) : Type 0 where
  pub answered : is_answer result ≡ true → Answered keeps Good result ready live stored
  pub stopped : is_answer result ≡ false → keeps ≡ true → Kept base stored

-- this answer, and this state after it
abbrev pub Gives : {A : Type 0} → Result A UnsealError → Parts → Result A UnsealError → Parts → Type 0
Gives answer left result after = (result ≡ answer) × (after ≡ left)
