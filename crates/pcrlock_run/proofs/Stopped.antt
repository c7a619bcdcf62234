-- After a stop one of the stages of the run stands, and all is kept there.
use Rattle.std.proofs.Common.{◌≡◌, ◌⊎◌, ℕ, Bool, true, false, cond, List, [], ◌∷◌, ◌++◌, inl, inr, arith}
use Rattle.std.specs.Prelude.{Contains, Option, None, Some, Result, Ok, Err, IfSome}
use Rattle.std.proofs.lemmas.List.Elements.{Contains-append_left, Contains-append_right}
use Rattle.pl_base.specs.FileMap.{FileMap}
use Rattle.tpm_model.specs.Events.{Clean}
use Rattle.tpm_model.specs.World.{World}
use Rattle.tpm_device.specs.Stored.{Stored}
use Rattle.tpm_worlds.proofs.EachUnseal.{safe_before}
use Rattle.tpm_worlds.proofs.TrailReads.{GrowsAll}
use Rattle.tpm_worlds.proofs.WholeLists.{clean_before}
use Rattle.pcrlock_answer.specs.declared.answer.Answer.{Answer}
use Rattle.pcrlock_words.specs.declared.request.Request.{Request}
use Rattle.pcrlock_words.specs.Requests.{request_of}
use Rattle.pcrlock_words.specs.Lines.{words_of}
use Rattle.pcrlock_words.specs.ProperRequest.{IsIndex, IsProperRequest}
use Rattle.pcrlock_words.proofs.Proper.{spelled_proper}
use Rattle.pcrlock_line.specs.Machine.{Live, Machine}
use Rattle.pcrlock_line.specs.Outcome.{Fine, Outcome, is_stop}
use Rattle.pcrlock_line.specs.Stopped.{StandsAt, StandsAmong}
use Rattle.pcrlock_deeds.specs.Acts.{HoldsAt, says}
use Rattle.pcrlock_deeds.specs.Doings.{Stage}
use Rattle.pcrlock_deeds.specs.Kept.{IsOwnKept, LeavesFiled}
use Rattle.pcrlock_deeds.specs.Resumed.{StandsKept}
use Rattle.pcrlock_deeds.specs.Sound.{IsTie, StandsTied}
use Rattle.pcrlock_deeds.proofs.Acting.{act_stopped}
use Rattle.pcrlock_deeds.proofs.Resuming.{stands_kept}
use Rattle.pcrlock_deeds.proofs.Tying.{own_tie}
use Rattle.pcrlock_run.specs.Leaves.{Safe}
use Rattle.pcrlock_run.specs.Lines.{lines_of}
use Rattle.pcrlock_run.specs.ScriptText.{script_text}
use Rattle.pcrlock_run.specs.Setting.{Setting, outside}
use Rattle.pcrlock_run.specs.Status.{status_of}
use Rattle.pcrlock_run.specs.Script.{Whole, answered, line, line_before, marked_before, script_from, stopped_at}
use Rattle.pcrlock_run.specs.Stages.{answered_stages, line_stages, run_stages, script_stages, spelled_stages, stages_as, unmoved}
use Rattle.pcrlock_run.specs.Whole.{Scripted, run_as, run_line, run_spelled, script_in, script_read, script_setting}
use Rattle.pcrlock_run.specs.Under.{IsOwnKeptAt, IsUnder, IsUnderPath, RequestUnder, SpelledUnder}
use Rattle.pcrlock_run.specs.Worlds.{answered_world, line_world, lines_read, run_world, script_world, spelled_world, world_as}
use Rattle.pcrlock_run.proofs.Acts.{OwnsKept, command_first, command_stopped}
use Rattle.pcrlock_run.proofs.Kept.{IsInside, line_asks, line_kept, script_grows, script_index, script_inside}

-- what stands in one of two lists stands in the first or in the second
among_cases : (held : Option FileMap) (stored : Option Stored) (xs ys : List Machine) → StandsAmong held stored (xs ++ ys) → StandsAmong held stored xs ⊎ StandsAmong held stored ys
among_cases held stored [] ys stands = inr stands
among_cases held stored (x ∷ xs) ys (inl at) = inl (inl at)
among_cases held stored (x ∷ xs) ys (inr more) = later (among_cases held stored xs ys more)
  where
    later : StandsAmong held stored xs ⊎ StandsAmong held stored ys → StandsAmong held stored (x ∷ xs) ⊎ StandsAmong held stored ys
    later (inl first) = inl (inr first)
    later (inr second) = inr second

-- a stage of some is one of more
among_more : (T : Live → World → Type 0) (held : Option FileMap) (stored : Option Stored) (xs ys : List Stage) → ((x : Stage) → Contains xs x → Contains ys x)
    → StandsTied T held stored xs → StandsTied T held stored ys
among_more T held stored xs ys inside tied = record { stage = tied.stage; among = inside tied.stage tied.among; stands = tied.stands; tied = tied.tied }

module _ (path : List ℕ) (T : Live → World → Type 0) (laws : IsTie T (LeavesFiled path)) (owns : OwnsKept path T) (held : Option FileMap) (stored : Option Stored) where
  -- where nothing was done yet
  unmoved_stopped : (m : Machine) (w : World) → Clean w → Safe w.hashed → HoldsAt T m w → StandsAmong held stored (m ∷ []) → StandsTied T held stored (unmoved m w)
  unmoved_stopped m w clean safe holds stands = act_stopped T (LeavesFiled path) laws held stored (says (Fine [])) [] m w tt clean safe holds stands

  answered_stopped : (setting : Setting) (o : Option Request) (m : Machine) (w : World) → IsIndex setting.index → IfSome o IsProperRequest → IfSome o (IsUnderPath path)
      → Clean (answered_world setting o m w) → Safe (answered_world setting o m w).hashed → HoldsAt T m w → StandsAmong held stored (answered setting o m).stops
      → StandsTied T held stored (answered_stages setting o m w)
  answered_stopped setting None m w index proper under clean safe holds stands = unmoved_stopped m w clean safe holds stands
  answered_stopped setting (Some request) m w index proper under clean safe holds stands =
      command_stopped path T laws owns held stored setting request m w index proper under clean safe holds stands

  line_stopped : (setting : Setting) → IsInside path setting → (words : List (List ℕ)) (m : Machine) (w : World)
      → Clean (line_world setting words m w) → Safe (line_world setting words m w).hashed → HoldsAt T m w → StandsAmong held stored (line setting words m).stops
      → StandsTied T held stored (line_stages setting words m w)
  unfolding line line_world line_stages
  line_stopped setting same words m w clean safe holds stands =
      answered_stopped setting (request_of words setting.policy) m w same.index (spelled_proper words setting.policy) (line_asks path setting same.policy words) clean safe holds stands

  -- the machine before a line is the first that stands in it
  answered_begins : (setting : Setting) (o : Option Request) (m : Machine) → IfSome o IsProperRequest → StandsAt held stored m → StandsAmong held stored (answered setting o m).stops
  answered_begins setting None m proper at = inl at
  answered_begins setting (Some request) m proper at = command_first held stored setting request m proper at

  line_begins : (setting : Setting) (words : List (List ℕ)) (m : Machine) → StandsAt held stored m → StandsAmong held stored (line setting words m).stops
  unfolding line
  line_begins setting words m at = answered_begins setting (request_of words setting.policy) m (spelled_proper words setting.policy) at

  -- of a line and those behind it, which run unless it stops
  then_stopped : (test : Bool) (m : Machine) (o : Outcome) (rest : Whole) (v u : World) (own more : List Stage) → GrowsAll v u → Clean (cond test v u) → Safe (cond test v u).hashed
      → (StandsAt held stored m → StandsAmong held stored o.stops)
      → (Clean v → Safe v.hashed → StandsAmong held stored o.stops → StandsTied T held stored own)
      → (Clean v → Safe v.hashed → Clean u → Safe u.hashed → StandsAmong held stored rest.stops → StandsTied T held stored more)
      → StandsAmong held stored (cond test (stopped_at m o) (marked_before m o rest)).stops → StandsTied T held stored (own ++ cond test [] more)
  then_stopped true m o rest v u own more grows clean safe begins first later (inl at) = among_more T held stored own (own ++ []) (λ x k. Contains-append_left own [] x k) (first clean safe (begins at))
  then_stopped true m o rest v u own more grows clean safe begins first later (inr among) = among_more T held stored own (own ++ []) (λ x k. Contains-append_left own [] x k) (first clean safe among)
  then_stopped false m o rest v u own more grows clean safe begins first later (inl at) =
      among_more T held stored own (own ++ more) (λ x k. Contains-append_left own more x k) (first (clean_before v u grows clean) (safe_before v u grows.strings safe) (begins at))
  then_stopped false m o rest v u own more grows clean safe begins first later (inr among) = by (among_cases held stored o.stops rest.stops among)
    where
      by : StandsAmong held stored o.stops ⊎ StandsAmong held stored rest.stops → StandsTied T held stored (own ++ more)
      by (inl one) = among_more T held stored own (own ++ more) (λ x k. Contains-append_left own more x k) (first (clean_before v u grows clean) (safe_before v u grows.strings safe) one)
      by (inr behind) = among_more T held stored more (own ++ more) (λ x k. Contains-append_right own more x k)
          (later (clean_before v u grows clean) (safe_before v u grows.strings safe) clean safe behind)

  script_stopped : (setting : Setting) → IsInside path setting → (lines : List (List ℕ)) (status : ℕ) (m : Machine) (w : World)
      → Clean (script_world setting lines m w) → Safe (script_world setting lines m w).hashed → HoldsAt T m w → StandsAmong held stored (script_from setting lines status m).stops
      → StandsTied T held stored (script_stages setting lines m w)
  script_stopped setting same [] status m w clean safe holds stands = unmoved_stopped m w clean safe holds stands
  script_stopped setting same (text ∷ texts) status m w clean safe holds stands =
      let o : Outcome = line setting (words_of text) m in
      let v : World = line_world setting (words_of text) m w in
      then_stopped (is_stop o.ending) m o (script_from setting texts (status_of o.ending) o.after) v (script_world setting texts o.after v)
      (line_stages setting (words_of text) m w) (script_stages setting texts o.after v) (script_grows setting texts o.after v) clean safe
      (line_begins setting (words_of text) m)
      (λ c s among. line_stopped setting same (words_of text) m w c s holds among)
      (λ c s d t among. script_stopped setting same texts (status_of o.ending) o.after v d t (line_kept path T laws owns setting same (words_of text) m w c s holds) among)
      stands

  read_stopped : (setting : Setting) → IsInside path setting → (read : Result (List ℕ) Answer) (m : Machine) (w : World)
      → Clean (script_world setting (lines_read read) m w) → Safe (script_world setting (lines_read read) m w).hashed → HoldsAt T m w
      → StandsAmong held stored (script_read setting read m).stops → StandsTied T held stored (script_stages setting (lines_read read) m w)
  read_stopped setting same (Err answer) m w clean safe holds stands = unmoved_stopped m w clean safe holds stands
  read_stopped setting same (Ok text) m w clean safe holds stands = script_stopped setting same (lines_of text) 0 m w clean safe holds stands

  as_stopped : (setting : Setting) (o : Option Scripted) (request : Request) (m : Machine) (w : World) → IsIndex setting.index → IfSome o (λ script. IsIndex script.index) → IsProperRequest request
      → RequestUnder path o request → Clean (world_as setting o request m w) → Safe (world_as setting o request m w).hashed → HoldsAt T m w
      → StandsAmong held stored (run_as setting o request m).stops → StandsTied T held stored (stages_as setting o request m w)
  as_stopped setting None request m w index inner proper under clean safe holds stands =
      command_stopped path T laws owns held stored setting request m w index proper under clean safe holds stands
  as_stopped setting (Some script) request m w index inner proper under clean safe holds stands =
      read_stopped (script_setting setting script) (script_inside path setting script under inner) (script_text m.files script.file) m w clean safe holds stands

  spelled_stopped : (setting : Setting) (o : Option Request) (m : Machine) (w : World) → IsIndex setting.index → IfSome o IsProperRequest → SpelledUnder path o
      → Clean (spelled_world setting o m w) → Safe (spelled_world setting o m w).hashed → HoldsAt T m w → StandsAmong held stored (run_spelled setting o m).stops
      → StandsTied T held stored (spelled_stages setting o m w)
  spelled_stopped setting None m w index proper under clean safe holds stands = unmoved_stopped m w clean safe holds stands
  spelled_stopped setting (Some request) m w index proper under clean safe holds stands =
      as_stopped setting (script_in request) request m w index (script_index request proper) proper under clean safe holds stands

  pub run_stopped : (words : List (List ℕ)) (m : Machine) (w : World) → IsUnder words path → Clean (run_world words m w) → Safe (run_world words m w).hashed
      → HoldsAt T m w → StandsAmong held stored (run_line words m).stops → StandsTied T held stored (run_stages words m w)
  unfolding run_line run_world run_stages IsUnder
  run_stopped [] m w under clean safe holds stands = unmoved_stopped m w clean safe holds stands
  run_stopped (state ∷ words) m w under clean safe holds stands =
      spelled_stopped (outside state) (request_of (state ∷ words) None) m w (omega arith, omega arith) (spelled_proper (state ∷ words) None) under clean safe holds stands

-- so all that is kept is kept by what a stopped run leaves
pub run_resumes : (path : List ℕ) (held : Option FileMap) (stored : Option Stored) (words : List (List ℕ)) (m : Machine) (w : World) → IsUnder words path
    → Clean (run_world words m w) → Safe (run_world words m w).hashed → IsOwnKeptAt path m w
    → StandsAmong held stored (run_line words m).stops → StandsKept path held stored (run_stages words m w)
run_resumes path held stored words m w under clean safe kept stands =
    stands_kept path held stored (run_stages words m w) (run_stopped path (IsOwnKept path) (own_tie path) (λ n v k. k) held stored words m w under clean safe kept stands)
