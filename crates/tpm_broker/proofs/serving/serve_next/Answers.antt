use Rattle.std.proofs.Common.{inl}
use Rattle.tpm_broker.specs.Served.{served}
use Rattle.tpm_broker.proofs.InOrder.{either_stored, memory_leaves}
use Rattle.tpm_broker.proofs.serving.serve_next.Goals as goal

pub returns-in-Err-clause-stopped : goal.returns-in-Err-clause-stopped
returns-in-Err-clause-stopped g c = λ s live.
    inl (
      c.in-Err.ensures.stopped,
      λ e.
          memory_leaves (served c.args.asked.now.0 c.args.asked.now.1 c.args.broker.now s) s c.in-Err.stop c.execute.new.self (g.T.Tpm.live c.execute.new.tpm) (c.in-Err.ensures.told s live) e,
    )

pub returns-in-Err-clause-stored : goal.returns-in-Err-clause-stored
returns-in-Err-clause-stored g c = λ s live holds.
    either_stored (served c.args.asked.now.0 c.args.asked.now.1 c.args.broker.now s) s c.in-Err.stop (g.T.Tpm.stored c.execute.new.tpm) (c.in-Err.ensures.stored s live holds)
