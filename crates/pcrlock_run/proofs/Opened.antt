-- Each Unseal among the TPM commands of a run opens by what its object is bound to, where all is kept.
use Rattle.std.proofs.Common.{ℕ, List, subst}
use Rattle.tpm_model.specs.Events.{Clean}
use Rattle.tpm_model.specs.World.{World}
use Rattle.pcrlock_words.specs.declared.request.Request.TheVariants as requests
use Rattle.pcrlock_line.specs.Machine.{Machine}
use Rattle.pcrlock_deeds.specs.Kept.{IsKept}
use Rattle.pcrlock_deeds.proofs.Tying.{kept_tie}
use Rattle.pcrlock_exec.proofs.Acts.{exec_world_is}
use Rattle.pcrlock_exec.proofs.Opened.{exec_opens}
use Rattle.pcrlock_run.specs.Acts.{act_of}
use Rattle.pcrlock_run.specs.EachRequest.{RunHas}
use Rattle.pcrlock_run.specs.Leaves.{Safe}
use Rattle.pcrlock_run.specs.Under.{IsKeptAt, IsUnder}
use Rattle.pcrlock_run.specs.Unseals.{UnsealsOpen}
use Rattle.pcrlock_run.specs.Worlds.{run_world}
use Rattle.pcrlock_run.proofs.Exact.{HoldsOf, run_has}

unseals_open : (path : List ℕ) → HoldsOf path (IsKept path) UnsealsOpen
unfolding act_of
unseals_open path setting (requests.TpmExec commands) m w proper under clean safe kept =
    exec_opens path commands m w kept (subst Clean (exec_world_is commands m w) clean) (subst (λ (v : World). Safe v.hashed) (exec_world_is commands m w) safe)
unseals_open path setting other m w proper under clean safe kept = tt

pub run_opens : (path : List ℕ) (words : List (List ℕ)) (m : Machine) (w : World) → IsUnder words path → Clean (run_world words m w) → Safe (run_world words m w).hashed
    → IsKeptAt path m w → RunHas UnsealsOpen words m w
run_opens path words m w under clean safe kept = run_has path (IsKept path) (kept_tie path) (λ n v k. k.own) UnsealsOpen (unseals_open path) words m w under clean safe kept
