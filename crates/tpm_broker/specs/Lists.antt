-- Commands of clients that come one after the other.
use Rattle.std.specs.Prelude.{◌≡◌, ℕ, ◌≤◌, List, [], ◌∷◌, length, take, Option, Some, Result, Ok, Err}
use Rattle.tpm_model.specs.declared.command.Command.{Command}
use Rattle.tpm_model.specs.declared.response.Response.{Response}
use Rattle.tpm_model.specs.declared.parts.Parts.{Parts}
use Rattle.tpm_device.specs.Stored.{Stored, Holds}
use Rattle.tpm_device.specs.declared.device.ExecError.{ExecError}
use Rattle.tpm_broker.specs.Clients.{Client}
use Rattle.tpm_broker.specs.Served.{served}

-- the answers, in order
abbrev pub answers_to : List (ℕ × Command) → List Client → Parts → List Response
answers_to [] clients s = []
answers_to (asked ∷ rest) clients s = let out = served asked.0 asked.1 clients s in out.answer ∷ answers_to rest out.clients out.state

-- the clients that are left
abbrev pub clients_left : List (ℕ × Command) → List Client → Parts → List Client
clients_left [] clients s = clients
clients_left (asked ∷ rest) clients s = let out = served asked.0 asked.1 clients s in clients_left rest out.clients out.state

-- the TPM's state that is left
abbrev pub state_left : List (ℕ × Command) → List Client → Parts → Parts
state_left [] clients s = s
state_left (asked ∷ rest) clients s = let out = served asked.0 asked.1 clients s in state_left rest out.clients out.state

-- what is stored after all commands; after an error, after some of the first
abbrev pub ListStores : List (ℕ × Command) → List Client → Parts → Result (List Response) ExecError → Option Stored → Type 0
ListStores asked clients s (Ok responses) stored = stored ≡ Some (Holds (state_left asked clients s))
ListStores asked clients s (Err stop) stored = (n : ℕ) × (n ≤ length asked) × (stored ≡ Some (Holds (state_left (take n asked) clients s)))
