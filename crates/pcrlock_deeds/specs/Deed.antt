-- What a command does to a machine whose device stores a state, step by step.
use Rattle.std.specs.Prelude.{ℕ, List, Option}
use Rattle.hash_bank.specs.HashedString.{HashedString}
use Rattle.tpm_model.specs.declared.parts.Parts.{Parts}
use Rattle.tpm_model.specs.declared.response.Response.{Response}
use Rattle.tpm_model.specs.Events.{Event}
use Rattle.tpm_model.specs.World.{FiledPolicy}
use Rattle.pcrlock_line.specs.Machine.{Live}
use Rattle.pcrlock_line.specs.Outcome.{Ending}

-- what a change of a file does to what the policy file states: nothing, or from now on it states this
pub data Filing : Type 0 where
  keeps : Filing
  files : Option FiledPolicy → Filing

pub data Deed : Type 0 where
  -- no more steps
  ends : Ending → Deed
  -- strings are hashed
  hashes : List HashedString → Deed → Deed
  -- one command of the TPM with its author, and how it goes on by the answer
  sends : Event → (Response → Deed) → Deed
  -- a look at the machine
  sees : (Live → Deed) → Deed
  -- a session of one's own, started and ended
  walks : Deed → Deed
  -- a restart of the TPM's machine, or a measurement after it, by the state that it leaves
  boots : Parts → Deed → Deed
  -- the next random word; or what is done where none is left
  draws : (List ℕ → Deed) → Deed → Deed
  -- a file is written
  writes : (path : List ℕ) → (bytes : List ℕ) → Filing → Deed → Deed
  -- a file is removed
  removes : (path : List ℕ) → Filing → Deed → Deed
