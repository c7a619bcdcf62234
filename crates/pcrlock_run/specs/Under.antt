-- The policy path that is in force for a run, and what is kept under it.
use Rattle.std.specs.Prelude.{◌≡◌, ℕ, List, Option, None, Some}
use Rattle.tpm_model.specs.World.{World}
use Rattle.pcrlock_words.specs.declared.request.Request.{Request}
use Rattle.pcrlock_words.specs.Requests.{request_of}
use Rattle.pcrlock_words.specs.ProperRequest.{NamesPolicy, SparesPolicy}
use Rattle.pcrlock_line.specs.Machine.{Machine}
use Rattle.pcrlock_deeds.specs.Acts.{HoldsAt}
use Rattle.pcrlock_deeds.specs.Kept.{IsOwnKept, IsKept}
use Rattle.pcrlock_run.specs.Whole.{Scripted, script_in}

-- it looks at no other policy file than that at the path, and makes no file there but as a policy
pub record IsUnderPath (path : List ℕ) (request : Request) : Type 0 where
  pub names : NamesPolicy path request
  pub spares : SparesPolicy path request

-- so does a request that runs no script; a script is run under this path
abbrev pub RequestUnder : List ℕ → Option Scripted → Request → Type 0
RequestUnder path None request = IsUnderPath path request
RequestUnder path (Some script) request = script.policy ≡ path

abbrev pub SpelledUnder : List ℕ → Option Request → Type 0
SpelledUnder path None = Unit {0}
SpelledUnder path (Some request) = RequestUnder path (script_in request) request

-- the policy path in force for a run
unfoldable pub IsUnder : List (List ℕ) → List ℕ → Type 0
IsUnder words path = SpelledUnder path (request_of words None)

-- a state is stored, and all that is kept of it, of the policy file and of the world hangs together: but for
-- sessions, and with them
abbrev pub IsOwnKeptAt : List ℕ → Machine → World → Type 0
IsOwnKeptAt path m w = HoldsAt (IsOwnKept path) m w

abbrev pub IsKeptAt : List ℕ → Machine → World → Type 0
IsKeptAt path m w = HoldsAt (IsKept path) m w
