-- The world that `tpm-exec` leaves.
use Rattle.std.specs.Prelude.{ℕ, List, Result, Ok, Err}
use Rattle.tpm_model.specs.declared.command.Command.{Command}
use Rattle.tpm_model.specs.World.{World}
use Rattle.pcrlock_answer.specs.declared.answer.Answer.{Answer}
use Rattle.pcrlock_line.specs.Machine.{Machine, Live}
use Rattle.pcrlock_line.specs.Worlds.{by_state}
use Rattle.pcrlock_exec.specs.Exec.{exec_world}
use Rattle.pcrlock_exec.specs.Input.{commands_at}

-- by what reading the file of commands gave
abbrev pub read_world : Result (List Command) Answer → Machine → World → World
read_world (Err answer) m w = w
read_world (Ok commands) m w = by_state m.device m w (λ (live : Live) (v : World). exec_world commands live.state v)

-- the world after `tpm-exec` with the file of commands
abbrev pub tpm_exec_world : List ℕ → Machine → World → World
tpm_exec_world commands m w = read_world (commands_at m.files commands) m w
