-- What a run leaves in the objects that were lent to it.
use Rattle.std.specs.Prelude.{◌≡◌, ℕ, List, ◌++◌, Option, None, Some}
use Rattle.std.specs.List.{Contains}
use Rattle.pl_base.specs.FileMap.{FileMap}
use Rattle.hash_bank.specs.HashedString.{HashedString, NoClash}
use Rattle.tpm_device.specs.Stored.{Stored}
use Rattle.pcrlock_words.specs.declared.request.Request.{Request}
use Rattle.pcrlock_line.specs.Machine.{Tells}
use Rattle.pcrlock_run.specs.Says.{Says}
use Rattle.pcrlock_run.specs.Script.{Whole}
use Rattle.pcrlock_run.specs.Whole.{script_in}

-- none of the listed strings clash
abbrev pub Safe : List HashedString → Type 0
Safe hashed = NoClash (Contains hashed)

-- the status is the whole's, its texts stand behind what was written before (the one on standard error
-- where its count of faults didn't rise), and the objects tell the machine afterwards
pub record Leaves (held : Option FileMap) (stored : Option Stored) (words : Option (List (List ℕ))) (out_before out_now : Option (List ℕ)) (faults_before : ℕ) (err_before : Option (List ℕ)) (faults_now : ℕ) (err_now : Option (List ℕ)) (number : ℕ) (whole : Whole) : Type 0 where
  pub status : number ≡ whole.status
  pub out : (before : List ℕ) → out_before ≡ Some before → out_now ≡ Some (before ++ whole.out)
  pub err : Says faults_before err_before faults_now err_now whole.err
  pub tells : Tells held stored words whole.after

-- the words are no script's
abbrev pub IsNoScript : Option Request → Type 0
IsNoScript None = Unit {0}
IsNoScript (Some request) = script_in request ≡ None
