-- The strings that a run hashes stand among those of the world that it leaves.
use Rattle.std.proofs.Common.{ℕ, Bool, true, false, cond, List, [], ◌∷◌, inl, inr, arith}
use Rattle.std.specs.Prelude.{Option, None, Some, Result, Ok, Err, IfSome}
use Rattle.std.specs.List.{Contains}
use Rattle.std.proofs.lemmas.List.Elements.{Contains-append_cases}
use Rattle.hash_bank.specs.HashedString.{HashedString}
use Rattle.tpm_model.specs.World.{World, AreHashed}
use Rattle.pcrlock_answer.specs.declared.answer.Answer.{Answer}
use Rattle.pcrlock_words.specs.declared.request.Request.{Request}
use Rattle.pcrlock_words.specs.Requests.{request_of}
use Rattle.pcrlock_words.specs.Lines.{words_of}
use Rattle.pcrlock_words.specs.ProperRequest.{IsProperRequest}
use Rattle.pcrlock_words.proofs.Proper.{spelled_proper}
use Rattle.pcrlock_line.specs.Machine.{Machine}
use Rattle.pcrlock_line.specs.Outcome.{Outcome, is_stop}
use Rattle.pcrlock_run.specs.Lines.{lines_of}
use Rattle.pcrlock_run.specs.Leaves.{Safe}
use Rattle.pcrlock_run.specs.Setting.{Setting, outside}
use Rattle.pcrlock_run.specs.ScriptText.{script_text}
use Rattle.pcrlock_run.specs.Status.{status_of}
use Rattle.pcrlock_run.specs.Script.{Whole, marked_before, stopped_at, answered, line, script_from}
use Rattle.pcrlock_run.specs.Whole.{script_read, Scripted, script_in, script_setting, run_as, run_spelled, run_line}
use Rattle.pcrlock_run.specs.Worlds.{answered_world, line_world, script_world, lines_read, world_as, spelled_world, run_world}
use Rattle.pcrlock_run.proofs.Acts.{command_hashed}
use Rattle.pcrlock_run.proofs.Exact.{among}
use Rattle.pcrlock_run.proofs.Kept.{script_grows}

-- where nothing is hashed
none_hashed : (w : World) → AreHashed w []
none_hashed w = λ x h. absurd (omega (arith, h.1))

answered_hashed : (setting : Setting) (o : Option Request) (m : Machine) (w : World) → IfSome o IsProperRequest → AreHashed (answered_world setting o m w) (answered setting o m).hashed
answered_hashed setting None m w proper = none_hashed w
answered_hashed setting (Some request) m w proper = command_hashed setting request m w proper

line_hashed : (setting : Setting) (words : List (List ℕ)) (m : Machine) (w : World) → AreHashed (line_world setting words m w) (line setting words m).hashed
unfolding line line_world
line_hashed setting words m w = answered_hashed setting (request_of words setting.policy) m w (spelled_proper words setting.policy)

-- the strings of a line that stops, else those of a line and of what stands behind it
then_hashed : (test : Bool) (m : Machine) (o : Outcome) (rest : Whole) (v w : World) → AreHashed v o.hashed → ((x : HashedString) → Contains v.hashed x → Contains w.hashed x) → AreHashed w rest.hashed
    → AreHashed (cond test v w) (cond test (stopped_at m o) (marked_before m o rest)).hashed
then_hashed true m o rest v w first grows later = first
then_hashed false m o rest v w first grows later = λ x h.
    elim (Contains-append_cases o.hashed rest.hashed x h) [
      | inl here ↦ grows x (first x here)
      | inr there ↦ later x there
    ]

-- what a line hashed is still there after the lines behind it
script_hashed : (setting : Setting) (lines : List (List ℕ)) (status : ℕ) (m : Machine) (w : World)
    → AreHashed (script_world setting lines m w) (script_from setting lines status m).hashed
script_hashed setting [] status m w = none_hashed w
script_hashed setting (text ∷ texts) status m w =
    let o : Outcome = line setting (words_of text) m in
    let v : World = line_world setting (words_of text) m w in
    then_hashed (is_stop o.ending) m o (script_from setting texts (status_of o.ending) o.after) v (script_world setting texts o.after v)
    (line_hashed setting (words_of text) m w) (script_grows setting texts o.after v).strings (script_hashed setting texts (status_of o.ending) o.after v)

read_hashed : (setting : Setting) (read : Result (List ℕ) Answer) (m : Machine) (w : World) → AreHashed (script_world setting (lines_read read) m w) (script_read setting read m).hashed
read_hashed setting (Err answer) m w = none_hashed w
read_hashed setting (Ok text) m w = script_hashed setting (lines_of text) 0 m w

as_hashed : (setting : Setting) (o : Option Scripted) (request : Request) (m : Machine) (w : World) → IsProperRequest request
    → AreHashed (world_as setting o request m w) (run_as setting o request m).hashed
as_hashed setting None request m w proper = command_hashed setting request m w proper
as_hashed setting (Some script) request m w proper = read_hashed (script_setting setting script) (script_text m.files script.file) m w

spelled_hashed : (setting : Setting) (o : Option Request) (m : Machine) (w : World) → IfSome o IsProperRequest → AreHashed (spelled_world setting o m w) (run_spelled setting o m).hashed
spelled_hashed setting None m w proper = none_hashed w
spelled_hashed setting (Some request) m w proper = as_hashed setting (script_in request) request m w proper

pub run_hashed : (words : List (List ℕ)) (m : Machine) (w : World) → AreHashed (run_world words m w) (run_line words m).hashed
unfolding run_line run_world
run_hashed [] m w = none_hashed w
run_hashed (state ∷ words) m w = spelled_hashed (outside state) (request_of (state ∷ words) None) m w (spelled_proper (state ∷ words) None)

-- so where no strings of the world clash, none of the run's do
pub run_safe : (words : List (List ℕ)) (m : Machine) (w : World) → Safe (run_world words m w).hashed → Safe (run_line words m).hashed
run_safe words m w safe = among (run_line words m).hashed (run_world words m w).hashed (run_hashed words m w) safe
