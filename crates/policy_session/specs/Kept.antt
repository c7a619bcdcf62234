-- What is stored after some of the commands of an unseal.
use Rattle.std.specs.Prelude.{◌≡◌, true, false, Result, Option, Some}
use Rattle.tpm_model.specs.declared.parts.Parts.{Parts}
use Rattle.tpm_model.specs.Rules.{HasRules}
use Rattle.tpm_device.specs.Stored.{Stored, Holds}
pub use Rattle.tpm_device.specs.Running.{DiffersInSessions}
use Rattle.policy_session.specs.declared.error.UnsealError.{UnsealError}
use Rattle.policy_session.specs.Answers.{is_answer}

-- the second state differs from the first at most in its sessions, and has the rules of a state
pub record IsKept (before now : Parts) : Type 0 where
  pub rules : HasRules now
  pub differs : DiffersInSessions before now

-- such a state is stored
pub record Kept (before : Parts) (stored : Option Stored) : Type 0 where
  pub state : Parts
  pub holds : stored ≡ Some (Holds state)
  pub kept : IsKept before state

-- after an answer this state is stored, else one that differs at most in sessions from the one before
pub record Stores {A : Type 0} (before after : Parts) (result : Result A UnsealError) (stored : Option Stored) : Type 0 where
  pub answered : is_answer result ≡ true → stored ≡ Some (Holds after)
  pub stopped : is_answer result ≡ false → Kept before stored
