-- What each command keeps of files, state and world, where the policy file stands at a path.
use Rattle.std.specs.Prelude.{◌≡◌, ℕ, List, Option}
use Rattle.tpm_model.specs.Events.{filed_world}
use Rattle.tpm_model.specs.Orderly.{Orderly}
use Rattle.tpm_model.specs.WholeTie.{IsFiledHashed}
use Rattle.tpm_model.specs.World.{FiledPolicy, World}
use Rattle.tpm_worlds.specs.SteadySessions.{SteadySessions}
use Rattle.tpm_worlds.specs.WholeEvents.{OwnTie}
use Rattle.pcrlock_line.specs.Machine.{Live}
use Rattle.pcrlock_deeds.specs.Deed.{keeps, files}
use Rattle.pcrlock_deeds.specs.Filed.{Filed, HasNumber}
use Rattle.pcrlock_deeds.specs.Sound.{FileRule}

-- the state is in order, it hangs together with the world in all that sessions don't touch, and what the
-- policy file states is filed
pub record IsOwnKept (policy : List ℕ) (m : Live) (w : World) : Type 0 where
  pub orderly : Orderly m.state
  pub own : OwnTie m.state w
  pub filed : Filed m.files policy w
  pub number : HasNumber m.state w

-- and so do the sessions with what they read
pub record IsKept (policy : List ℕ) (m : Live) (w : World) : Type 0 where
  pub own : IsOwnKept policy m w
  pub sessions : SteadySessions m.state w

-- from now on the policy file states this
pub record IsNewlyFiled (policy : List ℕ) (filed : Option FiledPolicy) (m : Live) (w : World) : Type 0 where
  pub states : Filed m.files policy (filed_world filed w)
  pub number : HasNumber m.state (filed_world filed w)
  pub strings : IsFiledHashed w filed

-- a change of another file; or of the policy file, which is filed afterwards
abbrev pub LeavesFiled : List ℕ → FileRule
LeavesFiled policy path keeps m w = path ≡ policy → ⊥
LeavesFiled policy path (files filed) m w = IsNewlyFiled policy filed m w
