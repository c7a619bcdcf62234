-- What a run adds to the world that is tied to the TPM's state.
use Rattle.std.specs.Prelude.{ℕ, if◌then◌else◌, List, [], ◌∷◌, Option, None, Some, Result, Ok, Err}
use Rattle.tpm_model.specs.World.{World}
use Rattle.pcrlock_answer.specs.declared.answer.Answer.{Answer}
use Rattle.pcrlock_words.specs.declared.request.Request.{Request}
use Rattle.pcrlock_words.specs.Requests.{request_of}
use Rattle.pcrlock_words.specs.Lines.{words_of}
use Rattle.pcrlock_line.specs.Machine.{Machine}
use Rattle.pcrlock_line.specs.Outcome.{is_stop}
use Rattle.pcrlock_deeds.specs.Acts.{act_world}
use Rattle.pcrlock_run.specs.Lines.{lines_of}
use Rattle.pcrlock_run.specs.ScriptText.{script_text}
use Rattle.pcrlock_run.specs.Setting.{Setting, outside}
use Rattle.pcrlock_run.specs.Script.{line}
use Rattle.pcrlock_run.specs.Acts.{act_of}
use Rattle.pcrlock_run.specs.Whole.{Scripted, script_in, script_setting}

-- the world after a command is that of its act
abbrev pub command_world : Setting → Request → Machine → World → World
command_world setting request m w = act_world (act_of setting request m w) m w

-- the world after words that spell a request, or none
abbrev pub answered_world : Setting → Option Request → Machine → World → World
answered_world setting None m w = w
answered_world setting (Some request) m w = command_world setting request m w

-- the world after a line of a script
unfoldable pub line_world : Setting → List (List ℕ) → Machine → World → World
line_world setting words m w = answered_world setting (request_of words setting.policy) m w

-- the world after the lines of a script, up to one that stops
abbrev pub script_world : Setting → List (List ℕ) → Machine → World → World
script_world setting [] m w = w
script_world setting (text ∷ texts) m w =
    if is_stop (line setting (words_of text) m).ending then line_world setting (words_of text) m w
    else script_world setting texts (line setting (words_of text) m).after (line_world setting (words_of text) m w)

-- the lines of a script that may run: none where it has no text
abbrev pub lines_read : Result (List ℕ) Answer → List (List ℕ)
lines_read (Ok text) = lines_of text
lines_read (Err answer) = []

-- the world after a request that runs this script, or none
abbrev pub world_as : Setting → Option Scripted → Request → Machine → World → World
world_as setting None request m w = command_world setting request m w
world_as setting (Some script) request m w = script_world (script_setting setting script) (lines_read (script_text m.files script.file)) m w

-- the world after a request
abbrev pub request_world : Setting → Request → Machine → World → World
request_world setting request m w = world_as setting (script_in request) request m w

abbrev pub spelled_world : Setting → Option Request → Machine → World → World
spelled_world setting None m w = w
spelled_world setting (Some request) m w = request_world setting request m w

-- the world after a run
unfoldable pub run_world : List (List ℕ) → Machine → World → World
run_world [] m w = w
run_world (state ∷ words) m w = spelled_world (outside state) (request_of (state ∷ words) None) m w
