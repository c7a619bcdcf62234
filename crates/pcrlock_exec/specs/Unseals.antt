-- How the unseals among the commands of `tpm-exec` open.
use Rattle.std.specs.Prelude.{◌≡◌, ℕ, List, Ok}
use Rattle.tpm_model.specs.declared.command.Command.{Command}
use Rattle.tpm_model.specs.World.{World}
use Rattle.tpm_unseals.specs.ByPolicy.{EachOpens}
use Rattle.pcrlock_line.specs.Machine.{Machine, Live, machine}
use Rattle.pcrlock_exec.specs.Exec.{events_of}
use Rattle.pcrlock_exec.specs.Input.{commands_at}

-- each Unseal of an object of the program, among the commands of the file, opens by what the object is bound to
abbrev pub ExecOpens : List ℕ → Machine → World → Type 0
ExecOpens commands m w =
    (live : Live) (list : List Command) → m ≡ machine live → commands_at m.files commands ≡ Ok list → EachOpens (events_of list) live.state w
