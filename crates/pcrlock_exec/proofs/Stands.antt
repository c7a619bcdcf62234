-- What stands after a stop at the commands.
use Rattle.std.proofs.Common.{◌≡◌, ℕ, ◌≤◌, zero, suc, List, [], ◌∷◌, map, take, inl, inr, arith}
use Rattle.std.specs.Prelude.{Option, Some, Result, Ok, Err}
use Rattle.pl_base.specs.FileMap.{FileMap}
use Rattle.tpm_model.specs.declared.command.Command.{Command}
use Rattle.tpm_model.specs.declared.parts.Parts.{Parts}
use Rattle.tpm_model.specs.Respond.{respond}
use Rattle.tpm_worlds.specs.CommandLists.{state_after}
use Rattle.tpm_device.specs.Stored.{Stored, Holds}
use Rattle.pcrlock_answer.specs.declared.answer.Answer.{Answer}
use Rattle.pcrlock_line.specs.declared.stop.Stop.{Stop}
use Rattle.pcrlock_line.specs.Begun.{by_device}
use Rattle.pcrlock_line.specs.Causes.{HasCauses}
use Rattle.pcrlock_line.specs.Machine.{Machine, Live, machine}
use Rattle.pcrlock_line.specs.Stopped.{StandsAt, StandsAmong}
use Rattle.pcrlock_line.proofs.Composed.{on_files, on_tpm, stops, then}
use Rattle.pcrlock_line.proofs.Devices.{stands_live, stops_first}
use Rattle.pcrlock_line.proofs.Standing.{holds_same}
use Rattle.pcrlock_exec.specs.Exec.{at_state, exec_outcome, exec_states, executed_line}
use Rattle.pcrlock_exec.specs.Sending.{IsPartWay}
use Rattle.pcrlock_line.specs.Running.{Keeps}

-- the machine at a state that is stored
stands_at : (held : Option FileMap) (kept : Option Stored) (m : Live) (s : Parts) → held ≡ Some m.files → Keeps kept s → StandsAt held kept (at_state m s)
stands_at held kept m s files keeps = record { files = files; device = Holds s; tells = keeps.stored; same = holds_same s }

-- the first of the machines stands
first_among : (held : Option FileMap) (kept : Option Stored) (m : Live) (commands : List Command) (s : Parts) → held ≡ Some m.files → Keeps kept s
    → StandsAmong held kept (map (at_state m) (exec_states commands s))
first_among held kept m [] s files keeps = inl (stands_at held kept m s files keeps)
first_among held kept m (c ∷ commands) s files keeps = inl (stands_at held kept m s files keeps)

-- so does the one after some of the commands
among : (held : Option FileMap) (kept : Option Stored) (m : Live) (n : ℕ) (commands : List Command) (s : Parts) → held ≡ Some m.files → Keeps kept (state_after (take n commands) s)
    → StandsAmong held kept (map (at_state m) (exec_states commands s))
among held kept m zero commands s files keeps = first_among held kept m commands s files keeps
among held kept m (suc n) [] s files keeps = first_among held kept m [] s files keeps
among held kept m (suc n) (c ∷ commands) s files keeps = inr (among held kept m n commands (respond c s).1 files keeps)

pub stops_of : (held : Option FileMap) (kept : Option Stored) (m : Live) (commands : List Command) → held ≡ Some m.files → IsPartWay kept commands m.state
    → StandsAmong held kept (map (at_state m) (exec_states commands m.state))
stops_of held kept m commands files part = among held kept m part.count commands m.state files part.keeps

-- ---- a stop before any command

pub first_at : (held : Option FileMap) (kept : Option Stored) (m : Live) (commands : List Command) → StandsAt held kept (machine m) → StandsAmong held kept (executed_line commands m).stops
first_at held kept m [] at = inl at
first_at held kept m (c ∷ commands) at = inl at

pub stands_before : (held : Option FileMap) (kept : Option Stored) (path : List ℕ) (m : Machine) (commands : List Command) → StandsAt held kept m
    → StandsAmong held kept (by_device m.device path m (executed_line commands)).stops
stands_before held kept path m commands at =
    stops_first held kept path m (executed_line commands) at
    (λ s e. first_at held kept (record { files = m.files; state = s; draws = m.draws }) commands (stands_live held kept m s e at))

pub stands_unread : (held : Option FileMap) (kept : Option Stored) (path : List ℕ) (m : Machine) (read : Result (List Command) Answer) → StandsAt held kept m
    → StandsAmong held kept (exec_outcome path read m).stops
stands_unread held kept path m (Ok commands) at = stands_before held kept path m commands at
stands_unread held kept path m (Err answer) at = inl at

-- ---- counts of faults

-- after the file was read
pub read_causes : {A B : Type 0} (f h t u : ℕ) (first : Result A Stop) (result : Result B Stop) → HasCauses (f, 0, 0, 0) (h, 0, 0, 0) first → HasCauses (0, 0, t, 0) (0, 0, u, 0) result
    → HasCauses (f, 0, t, 0) (h, 0, u, 0) result
read_causes f h t u first result read causes =
    then (f, 0, t, 0) (h, 0, t, 0) (h, 0, u, 0) first result (on_files 0 t 0 f h first read) (on_tpm h 0 0 t u result causes)

pub unread_causes : {A B : Type 0} (f h t : ℕ) (first : Result A Stop) (stop : Stop) → HasCauses (f, 0, 0, 0) (h, 0, 0, 0) first → first ≡ Err stop → HasCauses {A = B} (f, 0, t, 0) (h, 0, t, 0) (Err stop)
unread_causes f h t first stop read is = stops (f, 0, t, 0) (h, 0, t, 0) first stop (on_files 0 t 0 f h first read) is
