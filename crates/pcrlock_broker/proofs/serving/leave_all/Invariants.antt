use Rattle.std.proofs.Common.{◌≡◌, ℕ, ◌≤◌, true, length, take}
use Rattle.tpm_model.specs.declared.parts.Parts.{Parts}
use Rattle.tpm_worlds.specs.CommandLists.{state_after}
use Rattle.tpm_broker.specs.Clients.{client_at}
use Rattle.pcrlock_line.specs.Running.{Runs}
use Rattle.pcrlock_broker.specs.Broker.{flushes}
use Rattle.pcrlock_broker.proofs.serving.leave_all.Given as goal

-- the device is ready, the clients that are left are as they were, and where the device tells its state, the sessions of
-- those before are flushed
abbrev pub invariant-loop-client : goal.invariant-loop-client
invariant-loop-client g l = record {
  readiness : g.T.Tpm.ready l.tpm ≡ true;
  later : g.T.Tpm.faults l.fn.tpm ≤ g.T.Tpm.faults l.tpm;
  count : length l.broker ≡ length l.fn.broker;
  same : (j : ℕ) → l.client ≤ j → client_at j l.broker ≡ client_at j l.fn.broker;
  runs : (s : Parts) → Runs (g.T.Tpm.live l.fn.tpm) (g.T.Tpm.stored l.fn.tpm) s
      → Runs (g.T.Tpm.live l.tpm) (g.T.Tpm.stored l.tpm) (state_after (flushes (take l.client l.fn.broker)) s);
}
