use Rattle.tpm_model.proofs.KeepsRules.{fresh_rules}
use Rattle.tpm_model.proofs.Unused.{fresh_tied}
use Rattle.tpm_model.proofs.state.State.fresh.Goals as goal

pub invariant_of-result : goal.invariant_of-result
invariant_of-result c = rw (c.started.ensures, c.new.ensures, c.new-2.ensures, c.new-3.ensures) (fresh_rules c.args.banks c.requires)

pub returns-clause-tied : goal.returns-clause-tied
returns-clause-tied c = rw (c.started.ensures, c.new.ensures, c.new-2.ensures, c.new-3.ensures) (fresh_tied c.args.banks)
