-- Each Unseal among the commands of `tpm-exec` opens by what its object is bound to, where all is kept.
use Rattle.std.proofs.Common.{◌≡◌, ℕ, List, ap, subst, ◌∙◌}
use Rattle.std.specs.Prelude.{Result, Ok}
use Rattle.tpm_model.specs.declared.command.Command.{Command}
use Rattle.tpm_model.specs.Events.{Clean}
use Rattle.tpm_model.specs.World.{World}
use Rattle.tpm_worlds.specs.EventLists.{Safe}
use Rattle.pcrlock_answer.specs.declared.answer.Answer.{Answer}
use Rattle.pcrlock_line.specs.Machine.{Machine}
use Rattle.pcrlock_deeds.specs.Acts.{HoldsAt}
use Rattle.pcrlock_deeds.specs.Kept.{IsKept}
use Rattle.pcrlock_exec.specs.Exec.{exec_world}
use Rattle.pcrlock_exec.specs.Unseals.{ExecOpens}
use Rattle.pcrlock_exec.specs.Worlds.{read_world, tpm_exec_world}
use Rattle.pcrlock_exec.proofs.Steps.{each_opens}

pub exec_opens : (policy commands : List ℕ) (m : Machine) (w : World) → HoldsAt (IsKept policy) m w → Clean (tpm_exec_world commands m w) → Safe (tpm_exec_world commands m w) → ExecOpens commands m w
exec_opens policy commands m w kept clean safe = λ live list is read.
    let k : IsKept policy live w = subst (λ (x : Machine). HoldsAt (IsKept policy) x w) is kept in
    let world : tpm_exec_world commands m w ≡ exec_world list live.state w =
    ap (λ (r : Result (List Command) Answer). read_world r m w) read ∙ ap (λ (x : Machine). read_world (Ok list) x w) is in
    each_opens list live.state w k.own.orderly k.own.own k.sessions (subst Clean world clean) (subst Safe world safe)
