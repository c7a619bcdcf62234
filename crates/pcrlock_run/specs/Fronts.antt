-- How far a command came that stopped: what it had printed and said, and where files and stored state stand.
use Rattle.std.specs.Prelude.{◌≡◌, ◌⊎◌, ℕ, false, List, [], ◌++◌, Option, Some}
use Rattle.pl_base.specs.FileMap.{FileMap}
use Rattle.pl_base.specs.Faults.{Rose}
use Rattle.tpm_device.specs.Stored.{Stored}
use Rattle.pcrlock_answer.specs.Texts.{answer_text, status_text}
use Rattle.pcrlock_line.specs.declared.stop.Stop.{Stop}
use Rattle.pcrlock_line.specs.Outcome.{Ending, Outcome, is_stop}
use Rattle.pcrlock_line.specs.Stopped.{StandsAt, StandsAmong}
use Rattle.pcrlock_run.specs.Status.{status_of, out_of, err_of, stop_number, stop_answer}
use Rattle.pcrlock_run.specs.Says.{Says}

-- a front of a text
pub record IsFront (front text : List ℕ) : Type 0 where
  pub rest : List ℕ
  pub whole : text ≡ front ++ rest

-- what standard output gained by a write that failed: a front of the text, and none of it where its count of faults didn't rise
pub record Gains (before now : ℕ) (out_before out_now : Option (List ℕ)) (text : List ℕ) : Type 0 where
  pub gained : List ℕ
  pub front : IsFront gained text
  pub exact : ¬ Rose before now → gained ≡ []
  pub out : (written : List ℕ) → out_before ≡ Some written → out_now ≡ Some (written ++ gained)

-- a stop as a command's text is printed: a front of it stands, and nothing where the output's count of faults didn't rise
pub record IsWriting (before now : ℕ) (ending : Ending) (printed spoken : List ℕ) : Type 0 where
  pub front : IsFront printed (out_of ending)
  pub exact : ¬ Rose before now → printed ≡ []
  pub quiet : spoken ≡ []

-- a stop as a line's mark is printed: its text or its answer stands whole, and of its mark a front, and nothing where the
-- output's count of faults didn't rise
pub record IsMarking (before now : ℕ) (ending : Ending) (printed spoken : List ℕ) : Type 0 where
  pub mark : List ℕ
  pub text : printed ≡ out_of ending ++ mark
  pub front : IsFront mark (status_text (status_of ending))
  pub exact : ¬ Rose before now → mark ≡ []
  pub answer : spoken ≡ err_of ending

-- a stop as a line's text or its mark is printed
abbrev pub IsShowing : ℕ → ℕ → Ending → List ℕ → List ℕ → Type 0
IsShowing before now ending printed spoken = IsWriting before now ending printed spoken ⊎ IsMarking before now ending printed spoken

-- a stop among a command's changes: nothing is printed or said yet
pub record IsChanging (held : Option FileMap) (stored : Option Stored) (outcome : Outcome) (printed spoken : List ℕ) : Type 0 where
  pub stands : StandsAmong held stored outcome.stops
  pub silent : printed ≡ []
  pub quiet : spoken ≡ []

-- a stop with all of a command's changes done
pub record IsPast (held : Option FileMap) (stored : Option Stored) (outcome : Outcome) : Type 0 where
  pub goes : is_stop outcome.ending ≡ false
  pub stands : StandsAt held stored outcome.after

-- how a command stops that stands alone, and one that is a line of a script
abbrev pub CommandHalts : Option FileMap → Option Stored → ℕ → ℕ → Outcome → List ℕ → List ℕ → Type 0
CommandHalts held stored before now outcome printed spoken =
    IsChanging held stored outcome printed spoken ⊎ (IsPast held stored outcome × IsWriting before now outcome.ending printed spoken)

abbrev pub LineHalts : Option FileMap → Option Stored → ℕ → ℕ → Outcome → List ℕ → List ℕ → Type 0
LineHalts held stored before now outcome printed spoken =
    IsChanging held stored outcome printed spoken ⊎ (IsPast held stored outcome × IsShowing before now outcome.ending printed spoken)

-- what was printed and said of it stands behind what was written before
pub record Halted (So : List ℕ → List ℕ → Type 0) (out_before out_now : Option (List ℕ)) (faults_before : ℕ) (err_before : Option (List ℕ)) (faults_now : ℕ) (err_now : Option (List ℕ)) : Type 0 where
  pub printed : List ℕ
  pub spoken : List ℕ
  pub so : So printed spoken
  pub out : (written : List ℕ) → out_before ≡ Some written → out_now ≡ Some (written ++ printed)
  pub err : Says faults_before err_before faults_now err_now spoken

-- the stop is told by its line, behind what was said before it, and by its status; or, where memory is short for that
-- line, by the status of that alone
abbrev pub TellsStop : Stop → ℕ → List ℕ → ℕ → Option (List ℕ) → ℕ → Option (List ℕ) → Type 0
TellsStop stop status spoken faults_before err_before faults_now err_now =
    ((status ≡ stop_number stop) × Says faults_before err_before faults_now err_now (spoken ++ answer_text (stop_answer stop)))
    ⊎ ((status ≡ 6) × Says faults_before err_before faults_now err_now spoken)
