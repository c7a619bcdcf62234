-- What holds of each request that a run carries out.
use Rattle.std.specs.Prelude.{Bool, true, false, ℕ, List, [], ◌∷◌, Option, None, Some}
use Rattle.tpm_model.specs.World.{World}
use Rattle.pcrlock_words.specs.declared.request.Request.{Request}
use Rattle.pcrlock_words.specs.Requests.{request_of}
use Rattle.pcrlock_words.specs.Lines.{words_of}
use Rattle.pcrlock_line.specs.Machine.{Machine}
use Rattle.pcrlock_line.specs.Outcome.{is_stop}
use Rattle.pcrlock_run.specs.ScriptText.{script_text}
use Rattle.pcrlock_run.specs.Setting.{Setting, outside}
use Rattle.pcrlock_run.specs.Script.{line}
use Rattle.pcrlock_run.specs.Whole.{Scripted, script_in, script_setting}
use Rattle.pcrlock_run.specs.Worlds.{line_world, lines_read}

-- what may hold of a request under what is in force, at the machine and the world before it
abbrev pub OfRequest : Type 1
OfRequest = Setting → Request → Machine → World → Type 0

-- of the request that words spell, or none
abbrev pub SpelledHas : OfRequest → Setting → Option Request → Machine → World → Type 0
SpelledHas P setting None m w = Unit {0}
SpelledHas P setting (Some request) m w = P setting request m w

-- nothing is asked behind a line that stops
abbrev pub Unless : Bool → Type 0 → Type 0
Unless true P = Unit {0}
Unless false P = P

-- of each line of a script that runs, at the machine and the world that the lines before it leave
abbrev pub LinesHave : OfRequest → Setting → List (List ℕ) → Machine → World → Type 0
LinesHave P setting [] m w = Unit {0}
LinesHave P setting (text ∷ texts) m w =
    SpelledHas P setting (request_of (words_of text) setting.policy) m w
    × Unless (is_stop (line setting (words_of text) m).ending) (LinesHave P setting texts (line setting (words_of text) m).after (line_world setting (words_of text) m w))

-- of a request that runs no script, else of each line of its script
abbrev pub RequestHas : OfRequest → Setting → Option Scripted → Request → Machine → World → Type 0
RequestHas P setting None request m w = P setting request m w
RequestHas P setting (Some script) request m w = LinesHave P (script_setting setting script) (lines_read (script_text m.files script.file)) m w

abbrev pub WordsHave : OfRequest → Setting → Option Request → Machine → World → Type 0
WordsHave P setting None m w = Unit {0}
WordsHave P setting (Some request) m w = RequestHas P setting (script_in request) request m w

-- of each request of a whole run
unfoldable pub RunHas : OfRequest → List (List ℕ) → Machine → World → Type 0
RunHas P [] m w = Unit {0}
RunHas P (state ∷ words) m w = WordsHave P (outside state) (request_of (state ∷ words) None) m w
