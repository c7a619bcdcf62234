-- Sending a list of commands to a device that tells its state.
use Rattle.std.specs.Prelude.{◌≤◌, ℕ, List, length, take, Option}
use Rattle.tpm_model.specs.declared.command.Command.{Command}
use Rattle.tpm_model.specs.declared.parts.Parts.{Parts}
use Rattle.tpm_device.specs.Stored.{Stored}
use Rattle.pcrlock_line.specs.Running.{Keeps}
use Rattle.tpm_worlds.specs.CommandLists.{state_after}

-- the state after some of the commands, the first ones, is stored
pub record IsPartWay (kept : Option Stored) (commands : List Command) (s : Parts) : Type 0 where
  pub count : ℕ
  pub few : count ≤ length commands
  pub keeps : Keeps kept (state_after (take count commands) s)
