-- A client that leaves.
use Rattle.std.specs.Prelude.{◌≡◌, ◌⊎◌, ℕ, ◌≤◌, List, [], ◌∷◌, length, take, Option, None, Some, Result, Ok, Err}
use Rattle.tpm_model.specs.declared.command.Command.TheVariants as command
use Rattle.tpm_model.specs.declared.parts.Parts.{Parts}
use Rattle.tpm_model.specs.Respond.{respond}
use Rattle.tpm_device.specs.Stored.{Stored, Holds}
use Rattle.tpm_device.specs.declared.device.ExecError.{ExecError}
use Rattle.tpm_device.specs.declared.device.ExecError.TheVariants as exec
use Rattle.tpm_broker.specs.declared.rows.Handles.{Handles}

-- the TPM's state after these sessions are flushed, in order
abbrev pub after_flushes : List Handles → Parts → Parts
after_flushes [] s = s
after_flushes (handles ∷ rest) s = after_flushes rest (respond (command.FlushSession handles.tpm) s).1

-- all sessions were flushed; at want of memory the first n were
abbrev pub LeaveGives : List Handles → ℕ → Parts → Result ℕ ExecError → Option Parts → Type 0
LeaveGives sessions n s (Ok count) live = live ≡ Some (after_flushes sessions s)
LeaveGives sessions n s (Err exec.Failed) live = Unit {0}
LeaveGives sessions n s (Err exec.Memory) live = live ≡ Some (after_flushes (take n sessions) s)

-- the session was flushed; want of memory leaves the state
abbrev pub FlushGives : Option Handles → Parts → Result (Unit {0}) ExecError → Option Parts → Type 0
FlushGives None s result live = Unit {0}
FlushGives (Some handles) s (Ok _) live = live ≡ Some (respond (command.FlushSession handles.tpm) s).1
FlushGives (Some handles) s (Err exec.Failed) live = Unit {0}
FlushGives (Some handles) s (Err exec.Memory) live = live ≡ Some s

-- what is stored after all sessions were flushed; after an error, after some of the first
abbrev pub LeaveStores : List Handles → Parts → Result ℕ ExecError → Option Stored → Type 0
LeaveStores sessions s (Ok count) stored = stored ≡ Some (Holds (after_flushes sessions s))
LeaveStores sessions s (Err stop) stored = (n : ℕ) × (n ≤ length sessions) × (stored ≡ Some (Holds (after_flushes (take n sessions) s)))

-- what is stored after the session was flushed; after a failure that state or the one before
abbrev pub FlushStores : Option Handles → Parts → Result (Unit {0}) ExecError → Option Stored → Type 0
FlushStores None s result stored = Unit {0}
FlushStores (Some handles) s (Ok _) stored = stored ≡ Some (Holds (respond (command.FlushSession handles.tpm) s).1)
FlushStores (Some handles) s (Err exec.Failed) stored = (stored ≡ Some (Holds s)) ⊎ (stored ≡ Some (Holds (respond (command.FlushSession handles.tpm) s).1))
FlushStores (Some handles) s (Err exec.Memory) stored = stored ≡ Some (Holds s)
