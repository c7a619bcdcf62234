-- Before any change a machine stands among the stops of what it begins.
use Rattle.std.proofs.Common.{◌≡◌, ℕ, List, inl, sym, subst}
use Rattle.std.specs.Prelude.{Option, None, Some, Result, Ok, Err, IfErr, IfSome}
use Rattle.pl_base.specs.FileMap.{FileMap}
use Rattle.tpm_device.specs.Stored.{Stored}
use Rattle.pcrlock_answer.specs.declared.answer.Answer.{Answer}
use Rattle.pcrlock_words.specs.declared.request.Request.{Request}
use Rattle.pcrlock_words.specs.Requests.{request_of}
use Rattle.pcrlock_words.specs.ProperRequest.{IsProperRequest}
use Rattle.pcrlock_words.proofs.Proper.{spelled_proper}
use Rattle.pcrlock_line.specs.declared.stop.Stop.{Stop}
use Rattle.pcrlock_line.specs.Machine.{Machine, Tells}
use Rattle.pcrlock_line.specs.Stopped.{StandsAt, StandsAmong}
use Rattle.pcrlock_line.proofs.Devices.{stands}
use Rattle.pcrlock_run.specs.Lines.{lines_of}
use Rattle.pcrlock_run.specs.Setting.{Setting}
use Rattle.pcrlock_run.specs.ScriptText.{script_text}
use Rattle.pcrlock_run.specs.Script.{answered, line}
use Rattle.pcrlock_run.specs.Whole.{script_read, run_script, Scripted, script_in, script_setting, run_as, run_spelled}
use Rattle.pcrlock_run.proofs.Acts.{command_first}
use Rattle.pcrlock_run.proofs.Folds.{begins_at}

-- what holds after a stop, in another result
pub stopped_so : {A : Type 0} (P : Type 0) (result : Result A Stop) (stop : Stop) → result ≡ Err stop → P → IfErr result (λ _. P)
stopped_so P result stop is p = subst (λ (r : Result _ Stop). IfErr r (λ _. P)) (sym is) p

pub stop_of : {A : Type 0} (P : Type 0) (result : Result A Stop) (stop : Stop) → result ≡ Err stop → IfErr result (λ _. P) → P
stop_of P result stop is h = let Q : Result _ Stop → Type 0 = λ r. IfErr r (λ _. P) in subst Q is h

pub answered_first : (held : Option FileMap) (stored : Option Stored) (setting : Setting) (o : Option Request) (m : Machine) → IfSome o IsProperRequest → StandsAt held stored m → StandsAmong held stored (answered setting o m).stops
answered_first held stored setting None m proper at = inl at
answered_first held stored setting (Some request) m proper at = command_first held stored setting request m proper at

pub line_first : (held : Option FileMap) (stored : Option Stored) (draws : Option (List (List ℕ))) (setting : Setting) (words : List (List ℕ)) (m : Machine) → Tells held stored draws m → StandsAmong held stored (line setting words m).stops
unfolding line
line_first held stored draws setting words m tells =
    answered_first held stored setting (request_of words setting.policy) m (spelled_proper words setting.policy) (stands held stored draws m tells)

read_first : (held : Option FileMap) (stored : Option Stored) (setting : Setting) (read : Result (List ℕ) Answer) (m : Machine) → StandsAt held stored m → StandsAmong held stored (script_read setting read m).stops
read_first held stored setting (Err answer) m at = inl at
read_first held stored setting (Ok text) m at = begins_at held stored setting (lines_of text) 0 m (inl at)

pub script_first : (held : Option FileMap) (stored : Option Stored) (setting : Setting) (file : List ℕ) (m : Machine) → StandsAt held stored m → StandsAmong held stored (run_script setting file m).stops
script_first held stored setting file m at = read_first held stored setting (script_text m.files file) m at

as_first : (held : Option FileMap) (stored : Option Stored) (setting : Setting) (o : Option Scripted) (request : Request) (m : Machine) → IsProperRequest request → StandsAt held stored m → StandsAmong held stored (run_as setting o request m).stops
as_first held stored setting None request m proper at = command_first held stored setting request m proper at
as_first held stored setting (Some script) request m proper at = script_first held stored (script_setting setting script) script.file m at

begun : (held : Option FileMap) (stored : Option Stored) (setting : Setting) (o : Option Request) (m : Machine) → IfSome o IsProperRequest → StandsAt held stored m → StandsAmong held stored (run_spelled setting o m).stops
begun held stored setting None m proper at = inl at
begun held stored setting (Some request) m proper at = as_first held stored setting (script_in request) request m proper at

pub spelled_first : (held : Option FileMap) (stored : Option Stored) (draws : Option (List (List ℕ))) (setting : Setting) (words : List (List ℕ)) (m : Machine) → Tells held stored draws m
    → StandsAmong held stored (run_spelled setting (request_of words None) m).stops
spelled_first held stored draws setting words m tells =
    begun held stored setting (request_of words None) m (spelled_proper words None) (stands held stored draws m tells)
