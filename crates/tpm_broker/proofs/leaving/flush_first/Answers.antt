use Rattle.std.proofs.Common.{sym, ◌∙◌}
use Rattle.std.specs.Prelude.{slice_get}
use Rattle.tpm_model.specs.declared.command.Command.TheVariants.{FlushSession}
use Rattle.tpm_broker.proofs.Flushes.{not_flushed, not_stored}
use Rattle.tpm_broker.proofs.leaving.flush_first.Goals as goal

pub returns-in-Err-clause-told : goal.returns-in-Err-clause-told
returns-in-Err-clause-told g c = λ s live.
    not_flushed (slice_get c.args.rows.now.sessions 0) (FlushSession c.in-Some.session) s c.in-Err.stop _ _ (c.in-Err.ensures.told s live)

pub returns-in-Err-clause-stored : goal.returns-in-Err-clause-stored
returns-in-Err-clause-stored g c = λ s live holds.
    not_stored (slice_get c.args.rows.now.sessions 0) c.in-Some.session s c.in-Err.stop _ (sym c.first.ensures ∙ c.in-Some.is) (c.in-Err.ensures.stored s live holds)
