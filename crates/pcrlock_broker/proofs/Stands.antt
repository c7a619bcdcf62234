-- What stands after a stop.
use Rattle.std.proofs.Common.{◌≡◌, ℕ, List, refl, sym, ap, ◌∙◌, inl, inr}
use Rattle.std.specs.Prelude.{Option, Some, Result, Ok, Err}
use Rattle.pl_base.specs.FileMap.{FileMap}
use Rattle.tpm_model.specs.declared.command.Command.{Command}
use Rattle.tpm_model.specs.declared.parts.Parts.{Parts}
use Rattle.tpm_device.specs.Stored.{Stored}
use Rattle.pcrlock_answer.specs.declared.answer.Answer.{Answer}
use Rattle.pcrlock_line.specs.Begun.{by_device}
use Rattle.pcrlock_line.specs.Machine.{Live, Machine, machine}
use Rattle.pcrlock_line.specs.Stopped.{StandsAt, StandsAmong}
use Rattle.pcrlock_line.proofs.Devices.{stands_live, stops_first}
use Rattle.pcrlock_exec.specs.Exec.{executed_line}
use Rattle.pcrlock_exec.proofs.Stands.{first_at}
use Rattle.pcrlock_broker.specs.Broker.{asked_line, brokered, brokered_line}

-- a stop before any command
pub stands_before : (held : Option FileMap) (kept : Option Stored) (path : List ℕ) (m : Machine) (count : ℕ) (list : List (ℕ × Command)) → StandsAt held kept m
    → StandsAmong held kept (by_device m.device path m (brokered_line count list)).stops
stands_before held kept path m count list at =
    stops_first held kept path m (brokered_line count list) at
    (λ s e. let live : Live = record { files = m.files; state = s; draws = m.draws } in first_at held kept live (brokered count list s) (stands_live held kept m s e at))

pub stands_unread : (held : Option FileMap) (kept : Option Stored) (path : List ℕ) (m : Machine) (count : ℕ) (read : Result (List (ℕ × Command)) Answer) → StandsAt held kept m
    → StandsAmong held kept (asked_line path count read m).stops
stands_unread held kept path m count (Ok list) at = stands_before held kept path m count list at
stands_unread held kept path m count (Err answer) at = inl at
