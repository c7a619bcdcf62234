use Rattle.std.proofs.Common.{sym, subst}
use Rattle.tpm_worlds.specs.FreshWorld.{fresh_world}
use Rattle.tpm_worlds.specs.WholeEvents.{FullTie}
use Rattle.tpm_worlds.proofs.WholeLists.{fresh_full}
use Rattle.tpm_worlds.proofs.unused.fresh_state.Goals as goal

pub returns-clause-fresh : goal.returns-clause-fresh
returns-clause-fresh c = subst (λ s. FullTie s (fresh_world c.args.banks)) (sym c.fresh.ensures.value) (fresh_full c.args.banks)
