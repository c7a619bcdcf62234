-- What stands between the changes of a run, with the world at each.
use Rattle.std.specs.Prelude.{ℕ, if◌then◌else◌, List, [], ◌∷◌, ◌++◌, Option, None, Some}
use Rattle.tpm_model.specs.World.{World}
use Rattle.pcrlock_words.specs.declared.request.Request.{Request}
use Rattle.pcrlock_words.specs.Requests.{request_of}
use Rattle.pcrlock_words.specs.Lines.{words_of}
use Rattle.pcrlock_line.specs.Machine.{Machine}
use Rattle.pcrlock_line.specs.Outcome.{Fine, is_stop}
use Rattle.pcrlock_deeds.specs.Acts.{act_stages, says}
use Rattle.pcrlock_deeds.specs.Doings.{Stage}
use Rattle.pcrlock_run.specs.ScriptText.{script_text}
use Rattle.pcrlock_run.specs.Setting.{Setting, outside}
use Rattle.pcrlock_run.specs.Script.{line}
use Rattle.pcrlock_run.specs.Acts.{act_of}
use Rattle.pcrlock_run.specs.Whole.{Scripted, script_in, script_setting}
use Rattle.pcrlock_run.specs.Worlds.{line_world, lines_read}

-- the machine as it stands, where a state is stored
abbrev pub unmoved : Machine → World → List Stage
unmoved m w = act_stages (says (Fine [])) m w

-- of words that spell a request, those of its act
abbrev pub answered_stages : Setting → Option Request → Machine → World → List Stage
answered_stages setting None m w = unmoved m w
answered_stages setting (Some request) m w = act_stages (act_of setting request m w) m w

unfoldable pub line_stages : Setting → List (List ℕ) → Machine → World → List Stage
line_stages setting words m w = answered_stages setting (request_of words setting.policy) m w

-- of the lines of a script, up to one that stops
abbrev pub script_stages : Setting → List (List ℕ) → Machine → World → List Stage
script_stages setting [] m w = unmoved m w
script_stages setting (text ∷ texts) m w =
    line_stages setting (words_of text) m w
    ++ (if is_stop (line setting (words_of text) m).ending then [] else script_stages setting texts (line setting (words_of text) m).after (line_world setting (words_of text) m w))

abbrev pub stages_as : Setting → Option Scripted → Request → Machine → World → List Stage
stages_as setting None request m w = act_stages (act_of setting request m w) m w
stages_as setting (Some script) request m w = script_stages (script_setting setting script) (lines_read (script_text m.files script.file)) m w

abbrev pub spelled_stages : Setting → Option Request → Machine → World → List Stage
spelled_stages setting None m w = unmoved m w
spelled_stages setting (Some request) m w = stages_as setting (script_in request) request m w

-- of a whole run
unfoldable pub run_stages : List (List ℕ) → Machine → World → List Stage
run_stages [] m w = unmoved m w
run_stages (state ∷ words) m w = spelled_stages (outside state) (request_of (state ∷ words) None) m w
