-- What the program does with its words.
use Rattle.std.specs.Prelude.{ℕ, List, [], ◌∷◌, Option, None, Some, Result, Ok, Err}
use Rattle.pcrlock_answer.specs.declared.answer.Answer.{Answer}
use Rattle.pcrlock_answer.specs.declared.answer.Answer.TheVariants as answers
use Rattle.pcrlock_words.specs.declared.request.Request.{Request}
use Rattle.pcrlock_words.specs.declared.request.Request.TheVariants as requests
use Rattle.pcrlock_words.specs.Requests.{request_of}
use Rattle.pcrlock_line.specs.Machine.{Machine}
use Rattle.pcrlock_line.specs.Outcome.{Outcome, refused_line}
use Rattle.pcrlock_run.specs.Lines.{lines_of}
use Rattle.pcrlock_run.specs.ScriptText.{script_text}
use Rattle.pcrlock_run.specs.declared.setting.Script.{Script}
use Rattle.pcrlock_run.specs.Setting.{Setting, outside, inside}
use Rattle.pcrlock_run.specs.Script.{Whole, script, command_line}
use Rattle.pcrlock_run.specs.Status.{status_of, out_of, err_of}

-- a single command outside a script
abbrev pub alone : Outcome → Whole
alone outcome = record {
  out = out_of outcome.ending;
  err = err_of outcome.ending;
  status = status_of outcome.ending;
  after = outcome.after;
  hashed = outcome.hashed;
  stops = outcome.stops;
}

-- the script of a text, or why there is none
abbrev pub script_read : Setting → Result (List ℕ) Answer → Machine → Whole
script_read setting (Err answer) m = alone (refused_line answer m)
script_read setting (Ok text) m = script setting (lines_of text) m

-- the script in a file
abbrev pub run_script : Setting → List ℕ → Machine → Whole
run_script setting file m = script_read setting (script_text m.files file) m

-- the script that a request runs, and the policy path and the NV index for its lines
pub record Scripted : Type 0 where
  pub file : List ℕ
  pub policy : List ℕ
  pub index : ℕ

abbrev pub script_in : Request → Option Scripted
script_in (requests.Script file policy index) = Some (record { file = file; policy = policy; index = index })
script_in _ = None

-- the script that was lent
abbrev pub scripted : Option Script → Option Scripted
scripted None = None
scripted (Some lent) = Some (record { file = lent.file.now; policy = lent.policy.now; index = lent.index })

-- what is in force for the lines of a script
abbrev pub script_setting : Setting → Scripted → Setting
script_setting setting script = inside setting.state script.policy script.index

-- what a request does that runs this script, or none
abbrev pub run_as : Setting → Option Scripted → Request → Machine → Whole
run_as setting None request m = alone (command_line setting request m)
run_as setting (Some script) request m = run_script (script_setting setting script) script.file m

-- what a request does
abbrev pub run_request : Setting → Request → Machine → Whole
run_request setting request m = run_as setting (script_in request) request m

-- what words do that spell a request, or none
abbrev pub run_spelled : Setting → Option Request → Machine → Whole
run_spelled setting None m = alone (refused_line answers.BadWords m)
run_spelled setting (Some request) m = run_request setting request m

-- what the program does with its words, the first of which is the path of the TPM's state
unfoldable pub run_line : List (List ℕ) → Machine → Whole
run_line [] m = alone (refused_line answers.BadWords m)
run_line (state ∷ words) m = run_spelled (outside state) (request_of (state ∷ words) None) m
