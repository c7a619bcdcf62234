-- A device that tells its state, from client to client.
use Rattle.std.specs.Prelude.{◌≡◌, ◌≤◌, ℕ, List, length, take, Option}
use Rattle.tpm_model.specs.declared.command.Command.{Command}
use Rattle.tpm_model.specs.declared.parts.Parts.{Parts}
use Rattle.tpm_model.specs.declared.response.Response.{Response}
use Rattle.tpm_device.specs.Stored.{Stored}
use Rattle.tpm_broker.specs.Clients.{Client}
use Rattle.tpm_broker.specs.Lists.{state_left}
use Rattle.tpm_broker.specs.Served.{Served}
use Rattle.pcrlock_line.specs.Running.{Keeps, Runs}

-- the answer is this one, these clients are left, and the device runs on with this state
pub record IsServed (out : Served) (response : Response) (clients : List Client) (now : Option Parts) (kept : Option Stored) : Type 0 where
  pub answer : response ≡ out.answer
  pub left : clients ≡ out.clients
  pub runs : Runs now kept out.state

-- the state after some of the commands, the first ones, is stored
pub record IsServedPartWay (kept : Option Stored) (asked : List (ℕ × Command)) (clients : List Client) (s : Parts) : Type 0 where
  pub count : ℕ
  pub few : count ≤ length asked
  pub keeps : Keeps kept (state_left (take count asked) clients s)
