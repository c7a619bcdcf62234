-- How far a run came that stopped: in which line of a script, and what it had printed.
use Rattle.std.specs.Prelude.{◌≡◌, ◌⊎◌, ℕ, false, List, [], ◌∷◌, ◌++◌, Option, None, Some}
use Rattle.pl_base.specs.FileMap.{FileMap}
use Rattle.tpm_device.specs.Stored.{Stored}
use Rattle.pcrlock_answer.specs.declared.answer.Answer.TheVariants as answers
use Rattle.pcrlock_answer.specs.Texts.{status_text}
use Rattle.pcrlock_words.specs.declared.request.Request.{Request}
use Rattle.pcrlock_words.specs.Requests.{request_of}
use Rattle.pcrlock_words.specs.Lines.{words_of}
use Rattle.pcrlock_line.specs.declared.stop.Stop.{Stop}
use Rattle.pcrlock_line.specs.Causes.{Counts, IsCaused}
use Rattle.pcrlock_line.specs.Machine.{Machine}
use Rattle.pcrlock_line.specs.Outcome.{Ending, is_stop, refused_line}
use Rattle.pcrlock_line.specs.Stopped.{StandsAt}
use Rattle.pcrlock_run.specs.Fronts.{CommandHalts, IsFront, LineHalts, TellsStop}
use Rattle.pcrlock_run.specs.ScriptText.{script_text}
use Rattle.pcrlock_run.specs.Setting.{Setting, outside}
use Rattle.pcrlock_run.specs.Script.{command_line, line}
use Rattle.pcrlock_run.specs.Status.{status_of, out_of, err_of}
use Rattle.pcrlock_run.specs.Whole.{Scripted, run_line, script_in, script_setting}
use Rattle.pcrlock_run.specs.Worlds.{lines_read}

-- a stop where no line is left: nothing more is changed, printed or said
pub record IsResting (held : Option FileMap) (stored : Option Stored) (m : Machine) (printed spoken : List ℕ) : Type 0 where
  pub stands : StandsAt held stored m
  pub silent : printed ≡ []
  pub quiet : spoken ≡ []

-- a stop behind a line that is done: its text and its mark, or its answer, stand before what was printed and said of those behind it
pub record IsBehind (Rest : List ℕ → List ℕ → Type 0) (ending : Ending) (printed spoken : List ℕ) : Type 0 where
  pub goes : is_stop ending ≡ false
  pub more : List ℕ
  pub later : List ℕ
  pub text : printed ≡ (out_of ending ++ status_text (status_of ending)) ++ more
  pub errors : spoken ≡ err_of ending ++ later
  pub so : Rest more later

-- the lines of a script stop in the first of them, or behind it: no line runs behind the one that stops
abbrev pub LinesHalt : Option FileMap → Option Stored → ℕ → ℕ → Setting → List (List ℕ) → Machine → List ℕ → List ℕ → Type 0
LinesHalt held stored before now setting [] m printed spoken = IsResting held stored m printed spoken
LinesHalt held stored before now setting (text ∷ texts) m printed spoken =
    LineHalts held stored before now (line setting (words_of text) m) printed spoken
    ⊎ IsBehind (λ more later. LinesHalt held stored before now setting texts (line setting (words_of text) m).after more later)
    (line setting (words_of text) m).ending printed spoken

-- a request that runs no script, and one that runs this script
abbrev pub RequestHalts : Option FileMap → Option Stored → ℕ → ℕ → Setting → Option Scripted → Request → Machine → List ℕ → List ℕ → Type 0
RequestHalts held stored before now setting None request m printed spoken = CommandHalts held stored before now (command_line setting request m) printed spoken
RequestHalts held stored before now setting (Some script) request m printed spoken =
    LinesHalt held stored before now (script_setting setting script) (lines_read (script_text m.files script.file)) m printed spoken

-- words that spell a request, or none
abbrev pub SpelledHalts : Option FileMap → Option Stored → ℕ → ℕ → Setting → Option Request → Machine → List ℕ → List ℕ → Type 0
SpelledHalts held stored before now setting None m printed spoken = CommandHalts held stored before now (refused_line answers.BadWords m) printed spoken
SpelledHalts held stored before now setting (Some request) m printed spoken = RequestHalts held stored before now setting (script_in request) request m printed spoken

-- a whole run
unfoldable pub RunHalts : Option FileMap → Option Stored → ℕ → ℕ → List (List ℕ) → Machine → List ℕ → List ℕ → Type 0
RunHalts held stored before now [] m printed spoken = CommandHalts held stored before now (refused_line answers.BadWords m) printed spoken
RunHalts held stored before now (state ∷ words) m printed spoken =
    SpelledHalts held stored before now (outside state) (request_of (state ∷ words) None) m printed spoken

-- what a stopped run has printed: a front of what the whole run prints, as far as it came; the stop has its cause and is told
pub record HasPrinted (held : Option FileMap) (stored : Option Stored) (before now : Counts) (out_before out_now : Option (List ℕ)) (faults_before : ℕ) (err_before : Option (List ℕ)) (faults_now : ℕ) (err_now : Option (List ℕ)) (words : List (List ℕ)) (m : Machine) (status : ℕ) : Type 0 where
  pub stop : Stop
  pub cause : IsCaused before now stop
  pub printed : List ℕ
  pub spoken : List ℕ
  pub halts : RunHalts held stored before.3 now.3 words m printed spoken
  pub front : IsFront printed (run_line words m).out
  pub out : (written : List ℕ) → out_before ≡ Some written → out_now ≡ Some (written ++ printed)
  pub told : TellsStop stop status spoken faults_before err_before faults_now err_now
