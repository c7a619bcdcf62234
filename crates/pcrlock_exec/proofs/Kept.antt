-- `tpm-exec` in a run.
use Rattle.std.proofs.Common.{◌≡◌, ℕ, List, [], ◌∷◌, ◌++◌, map, inl, inr, sym, ap, ◌∙◌, append-nil, append_assoc}
use Rattle.std.specs.Prelude.{Option, Result, Ok, Err}
use Rattle.pl_base.specs.FileMap.{FileMap}
use Rattle.tpm_model.specs.declared.command.Command.{Command}
use Rattle.tpm_model.specs.declared.parts.Parts.{Parts}
use Rattle.tpm_model.specs.Events.{Other, event_strings, world_after}
use Rattle.tpm_model.specs.Respond.{respond}
use Rattle.tpm_model.specs.Strings.{command_strings}
use Rattle.tpm_model.specs.World.{World, hashed_world}
use Rattle.tpm_worlds.specs.CommandLists.{state_after}
use Rattle.tpm_worlds.proofs.Steady.{hashed_stays}
use Rattle.tpm_device.specs.Stored.{Stored, Holds, TooLarge, Malformed, BadRule}
use Rattle.pcrlock_answer.specs.declared.answer.Answer.{Answer}
use Rattle.pcrlock_line.specs.Begun.{by_device}
use Rattle.pcrlock_line.specs.Machine.{Machine, Live}
use Rattle.pcrlock_line.specs.Stopped.{StandsAt, StandsAmong}
use Rattle.pcrlock_line.specs.Worlds.{IsTied, by_state}
use Rattle.pcrlock_line.proofs.Devices.{stops_last}
use Rattle.pcrlock_exec.specs.Exec.{at_state, exec_outcome, exec_states, exec_strings, exec_world, executed_line, tpm_exec_line}
use Rattle.pcrlock_exec.specs.Input.{commands_at}
use Rattle.pcrlock_exec.specs.Worlds.{read_world, tpm_exec_world}
use Rattle.pcrlock_exec.proofs.Stands.{stands_unread}
use Rattle.pcrlock_exec.proofs.Steps.{tied_after_all}

-- ---- stops

-- before any command
pub exec_first : (held : Option FileMap) (kept : Option Stored) (state commands : List ℕ) (m : Machine) → StandsAt held kept m → StandsAmong held kept (tpm_exec_line state commands m).stops
exec_first held kept state commands m at = stands_unread held kept state m (commands_at m.files commands) at

-- after the last one
last_from : (held : Option FileMap) (kept : Option Stored) (m : Live) (commands : List Command) (s : Parts) → StandsAt held kept (at_state m (state_after commands s)) → StandsAmong held kept (map (at_state m) (exec_states commands s))
last_from held kept m [] s at = inl at
last_from held kept m (c ∷ commands) s at = inr (last_from held kept m commands (respond c s).1 at)

outcome_last : (held : Option FileMap) (kept : Option Stored) (state : List ℕ) (read : Result (List Command) Answer) (m : Machine) → StandsAt held kept (exec_outcome state read m).after → StandsAmong held kept (exec_outcome state read m).stops
outcome_last held kept state (Err answer) m at = inl at
outcome_last held kept state (Ok commands) m at = stops_last held kept state m (executed_line commands)
    (λ s e now. last_from held kept (record { files = m.files; state = s; draws = m.draws }) commands s now) at

pub exec_last : (held : Option FileMap) (kept : Option Stored) (state commands : List ℕ) (m : Machine) → StandsAt held kept (tpm_exec_line state commands m).after → StandsAmong held kept (tpm_exec_line state commands m).stops
exec_last held kept state commands m at = outcome_last held kept state (commands_at m.files commands) m at

-- ---- the world

device_tied : (kept : Stored) (state : List ℕ) (commands : List Command) (m : Machine) (w : World) → IsTied kept w
    → IsTied (by_device kept state m (executed_line commands)).after.device (by_state kept m w (λ (live : Live) (v : World). exec_world commands live.state v))
device_tied (Holds s) state commands m w t = tied_after_all commands s w t
device_tied (TooLarge size) state commands m w t = absurd t
device_tied (Malformed place) state commands m w t = absurd t
device_tied (BadRule rule) state commands m w t = absurd t

outcome_tied : (state : List ℕ) (read : Result (List Command) Answer) (m : Machine) (w : World) → IsTied m.device w → IsTied (exec_outcome state read m).after.device (read_world read m w)
outcome_tied state (Err answer) m w t = t
outcome_tied state (Ok commands) m w t = device_tied m.device state commands m w t

-- it stays tied to what is stored
pub exec_kept : (state commands : List ℕ) (m : Machine) (w : World) → IsTied m.device w → IsTied (tpm_exec_line state commands m).after.device (tpm_exec_world commands m w)
exec_kept state commands m w t = outcome_tied state (commands_at m.files commands) m w t

one_hashed : (c : Command) (s : Parts) (w : World) → (world_after (Other c) s w).hashed ≡ w.hashed ++ command_strings c s
one_hashed c s w = hashed_stays (Other c) (respond c s).0 (respond c s).1 (hashed_world (event_strings (Other c) s) w)

-- and it has the strings of the commands behind those before
pub exec_hashed : (commands : List Command) (s : Parts) (w : World) → (exec_world commands s w).hashed ≡ w.hashed ++ exec_strings commands s
exec_hashed [] s w = sym (append-nil w.hashed)
exec_hashed (c ∷ commands) s w =
    exec_hashed commands (respond c s).1 (world_after (Other c) s w)
    ∙ ap (λ strings. strings ++ exec_strings commands (respond c s).1) (one_hashed c s w)
    ∙ append_assoc w.hashed (command_strings c s) (exec_strings commands (respond c s).1)
