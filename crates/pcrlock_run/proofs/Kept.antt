-- What each command keeps is kept by a run.
use Rattle.std.proofs.Common.{◌≡◌, ℕ, Bool, true, false, cond, List, [], ◌∷◌, sym, ap, subst, arith}
use Rattle.std.specs.Prelude.{Option, None, Some, Result, Ok, Err, IfSome}
use Rattle.tpm_model.specs.Events.{Clean}
use Rattle.tpm_model.specs.World.{World}
use Rattle.tpm_worlds.proofs.EachUnseal.{safe_before}
use Rattle.tpm_worlds.proofs.TrailReads.{GrowsAll}
use Rattle.tpm_worlds.proofs.WholeLists.{clean_before, joined}
use Rattle.pcrlock_answer.specs.declared.answer.Answer.{Answer}
use Rattle.pcrlock_words.specs.declared.request.Request.{Request}
use Rattle.pcrlock_words.specs.Requests.{request_of}
use Rattle.pcrlock_words.specs.Lines.{words_of}
use Rattle.pcrlock_words.specs.declared.request.Request.TheVariants as requests
use Rattle.pcrlock_words.specs.ProperRequest.{IsIndex, IsProperRequest}
use Rattle.pcrlock_words.proofs.Proper.{spelled_proper}
use Rattle.pcrlock_line.specs.Machine.{Live, Machine}
use Rattle.pcrlock_line.specs.Outcome.{Outcome, is_stop}
use Rattle.pcrlock_deeds.specs.Acts.{HoldsAt}
use Rattle.pcrlock_deeds.specs.Deed.{keeps}
use Rattle.pcrlock_deeds.specs.Kept.{LeavesFiled}
use Rattle.pcrlock_deeds.specs.Sound.{IsTie}
use Rattle.pcrlock_deeds.proofs.Growing.{grows_filing}
use Rattle.pcrlock_run.specs.Leaves.{Safe}
use Rattle.pcrlock_run.specs.Lines.{lines_of}
use Rattle.pcrlock_run.specs.Setting.{Setting, outside}
use Rattle.pcrlock_run.specs.ScriptText.{script_text}
use Rattle.pcrlock_run.specs.Status.{status_of}
use Rattle.pcrlock_run.specs.Script.{Whole, marked_before, stopped_at, answered, line, script_from}
use Rattle.pcrlock_run.specs.Whole.{script_read, Scripted, script_in, script_setting, run_as, run_spelled, run_line}
use Rattle.pcrlock_run.specs.Under.{IsUnder, IsUnderPath, RequestUnder, SpelledUnder}
use Rattle.pcrlock_run.specs.Worlds.{answered_world, line_world, script_world, lines_read, world_as, spelled_world, run_world}
use Rattle.pcrlock_run.proofs.Acts.{OwnsKept, command_grows, command_kept}
use Rattle.pcrlock_run.proofs.NamesPolicy.{line_under}

-- ---- the world grows

answered_grows : (setting : Setting) (o : Option Request) (m : Machine) (w : World) → GrowsAll w (answered_world setting o m w)
answered_grows setting None m w = grows_filing keeps w
answered_grows setting (Some request) m w = command_grows setting request m w

pub line_grows : (setting : Setting) (words : List (List ℕ)) (m : Machine) (w : World) → GrowsAll w (line_world setting words m w)
unfolding line_world
line_grows setting words m w = answered_grows setting (request_of words setting.policy) m w

-- where a line stops, its own world is the last one
grows_then : (test : Bool) (w v u : World) → GrowsAll w v → GrowsAll v u → GrowsAll w (cond test v u)
grows_then true w v u first later = first
grows_then false w v u first later = joined w v u first later

pub script_grows : (setting : Setting) (lines : List (List ℕ)) (m : Machine) (w : World) → GrowsAll w (script_world setting lines m w)
script_grows setting [] m w = grows_filing keeps w
script_grows setting (text ∷ texts) m w =
    let o : Outcome = line setting (words_of text) m in
    let v : World = line_world setting (words_of text) m w in
    grows_then (is_stop o.ending) w v (script_world setting texts o.after v) (line_grows setting (words_of text) m w) (script_grows setting texts o.after v)

-- ---- the request of each line is proper, and stands under the script's policy path

pub line_asks : (path : List ℕ) (setting : Setting) → setting.policy ≡ Some path → (words : List (List ℕ)) → IfSome (request_of words setting.policy) (IsUnderPath path)
line_asks path setting same words = subst (λ (o : Option (List ℕ)). IfSome (request_of words o) (IsUnderPath path)) (sym same) (line_under path words)

-- what is in force for the lines of a script: its policy path, and the handle of an index
pub record IsInside (path : List ℕ) (setting : Setting) : Type 0 where
  pub policy : setting.policy ≡ Some path
  pub index : IsIndex setting.index

pub script_inside : (path : List ℕ) (setting : Setting) (script : Scripted) → script.policy ≡ path → IsIndex script.index → IsInside path (script_setting setting script)
script_inside path setting script same index = record { policy = ap Some same; index = index }

pub script_index : (request : Request) → IsProperRequest request → IfSome (script_in request) (λ script. IsIndex script.index)
script_index (requests.Script file policy index) proper = proper
script_index other proper = tt

-- ---- what each command keeps

module _ (path : List ℕ) (T : Live → World → Type 0) (laws : IsTie T (LeavesFiled path)) (owns : OwnsKept path T) where
  answered_kept : (setting : Setting) (o : Option Request) (m : Machine) (w : World) → IsIndex setting.index → IfSome o IsProperRequest → IfSome o (IsUnderPath path)
      → Clean (answered_world setting o m w) → Safe (answered_world setting o m w).hashed → HoldsAt T m w → HoldsAt T (answered setting o m).after (answered_world setting o m w)
  answered_kept setting None m w index proper under clean safe holds = holds
  answered_kept setting (Some request) m w index proper under clean safe holds = command_kept path T laws owns setting request m w index proper under clean safe holds

  pub line_kept : (setting : Setting) → IsInside path setting → (words : List (List ℕ)) (m : Machine) (w : World)
      → Clean (line_world setting words m w) → Safe (line_world setting words m w).hashed → HoldsAt T m w → HoldsAt T (line setting words m).after (line_world setting words m w)
  unfolding line line_world
  line_kept setting same words m w clean safe holds =
      answered_kept setting (request_of words setting.policy) m w same.index (spelled_proper words setting.policy) (line_asks path setting same.policy words) clean safe holds

  -- what a line leaves, where it stops, else what those behind it leave
  then_kept : (test : Bool) (m : Machine) (o : Outcome) (rest : Whole) (v u : World) → GrowsAll v u → Clean (cond test v u) → Safe (cond test v u).hashed
      → (Clean v → Safe v.hashed → HoldsAt T o.after v) → (Clean u → Safe u.hashed → HoldsAt T o.after v → HoldsAt T rest.after u)
      → HoldsAt T (cond test (stopped_at m o) (marked_before m o rest)).after (cond test v u)
  then_kept true m o rest v u grows clean safe first later = first clean safe
  then_kept false m o rest v u grows clean safe first later = later clean safe (first (clean_before v u grows clean) (safe_before v u grows.strings safe))

  script_kept : (setting : Setting) → IsInside path setting → (lines : List (List ℕ)) (status : ℕ) (m : Machine) (w : World)
      → Clean (script_world setting lines m w) → Safe (script_world setting lines m w).hashed → HoldsAt T m w
      → HoldsAt T (script_from setting lines status m).after (script_world setting lines m w)
  script_kept setting same [] status m w clean safe holds = holds
  script_kept setting same (text ∷ texts) status m w clean safe holds =
      let o : Outcome = line setting (words_of text) m in
      let v : World = line_world setting (words_of text) m w in
      then_kept (is_stop o.ending) m o (script_from setting texts (status_of o.ending) o.after) v (script_world setting texts o.after v)
      (script_grows setting texts o.after v) clean safe
      (λ c s. line_kept setting same (words_of text) m w c s holds)
      (λ c s kept. script_kept setting same texts (status_of o.ending) o.after v c s kept)

  read_kept : (setting : Setting) → IsInside path setting → (read : Result (List ℕ) Answer) (m : Machine) (w : World)
      → Clean (script_world setting (lines_read read) m w) → Safe (script_world setting (lines_read read) m w).hashed → HoldsAt T m w
      → HoldsAt T (script_read setting read m).after (script_world setting (lines_read read) m w)
  read_kept setting same (Err answer) m w clean safe holds = holds
  read_kept setting same (Ok text) m w clean safe holds = script_kept setting same (lines_of text) 0 m w clean safe holds

  as_kept : (setting : Setting) (o : Option Scripted) (request : Request) (m : Machine) (w : World) → IsIndex setting.index → IfSome o (λ script. IsIndex script.index) → IsProperRequest request → RequestUnder path o request
      → Clean (world_as setting o request m w) → Safe (world_as setting o request m w).hashed → HoldsAt T m w → HoldsAt T (run_as setting o request m).after (world_as setting o request m w)
  as_kept setting None request m w index inner proper under clean safe holds = command_kept path T laws owns setting request m w index proper under clean safe holds
  as_kept setting (Some script) request m w index inner proper under clean safe holds =
      read_kept (script_setting setting script) (script_inside path setting script under inner) (script_text m.files script.file) m w clean safe holds

  spelled_kept : (setting : Setting) (o : Option Request) (m : Machine) (w : World) → IsIndex setting.index → IfSome o IsProperRequest → SpelledUnder path o
      → Clean (spelled_world setting o m w) → Safe (spelled_world setting o m w).hashed → HoldsAt T m w → HoldsAt T (run_spelled setting o m).after (spelled_world setting o m w)
  spelled_kept setting None m w index proper under clean safe holds = holds
  spelled_kept setting (Some request) m w index proper under clean safe holds = as_kept setting (script_in request) request m w index (script_index request proper) proper under clean safe holds

  -- so what is kept holds of what a run leaves
  pub run_kept : (words : List (List ℕ)) (m : Machine) (w : World) → IsUnder words path → Clean (run_world words m w) → Safe (run_world words m w).hashed
      → HoldsAt T m w → HoldsAt T (run_line words m).after (run_world words m w)
  unfolding run_line run_world IsUnder
  run_kept [] m w under clean safe holds = holds
  run_kept (state ∷ words) m w under clean safe holds =
      spelled_kept (outside state) (request_of (state ∷ words) None) m w (omega arith, omega arith) (spelled_proper (state ∷ words) None) under clean safe holds
