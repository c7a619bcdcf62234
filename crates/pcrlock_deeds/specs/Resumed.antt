-- What a stopped command leaves, to go on from.
use Rattle.std.specs.Prelude.{◌≡◌, ℕ, List, Contains, Option, Some}
use Rattle.pl_base.specs.FileMap.{FileMap}
use Rattle.tpm_device.specs.Stored.{Stored}
use Rattle.pcrlock_line.specs.Machine.{Machine}
use Rattle.pcrlock_line.specs.Stopped.{StandsAt}
use Rattle.pcrlock_deeds.specs.Acts.{HoldsAt}
use Rattle.pcrlock_deeds.specs.Doings.{Stage, stage_machine}
use Rattle.pcrlock_deeds.specs.Kept.{IsOwnKept}

-- one of the stages stands, and in its world all is kept by the files and the state that stand, whatever sessions
-- are open and whatever is drawn next
pub record StandsKept (policy : List ℕ) (held : Option FileMap) (kept : Option Stored) (stages : List Stage) : Type 0 where
  pub stage : Stage
  pub among : Contains stages stage
  pub stands : StandsAt held kept (stage_machine stage)
  pub keeps : (now : Machine) → held ≡ Some now.files → kept ≡ Some now.device → HoldsAt (IsOwnKept policy) now stage.world
