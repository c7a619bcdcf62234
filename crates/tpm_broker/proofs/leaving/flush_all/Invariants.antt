use Rattle.std.proofs.Common.{◌≡◌, ◌≤◌, true, take}
use Rattle.std.specs.Prelude.{Some, IfSome}
use Rattle.tpm_model.specs.declared.parts.Parts.{Parts}
use Rattle.tpm_model.specs.Rules.{HasRules}
use Rattle.tpm_device.specs.Stored.{Holds}
use Rattle.tpm_broker.specs.Clients.{without_first}
use Rattle.tpm_broker.specs.Leaving.{after_flushes}
use Rattle.tpm_broker.proofs.leaving.flush_all.Given as goal

abbrev pub invariant-loop : goal.invariant-loop
invariant-loop g l = record {
  ready : g.T.Tpm.ready l.tpm ≡ true;
  later : g.T.Tpm.faults l.fn.tpm ≤ g.T.Tpm.faults l.tpm;
  rest : l.rows ≡ without_first l.counter l.fn.rows;
  untouched : l.counter ≡ 0 → l.tpm ≡ l.fn.tpm;
  rules : (s : Parts) → g.T.Tpm.live l.fn.tpm ≡ Some s → HasRules s → IfSome (g.T.Tpm.live l.tpm) HasRules;
  stored : (s : Parts) → g.T.Tpm.live l.fn.tpm ≡ Some s → g.T.Tpm.stored l.fn.tpm ≡ Some (Holds s)
      → g.T.Tpm.stored l.tpm ≡ Some (Holds (after_flushes (take l.counter l.fn.rows.sessions) s));
  told : (s : Parts) → g.T.Tpm.live l.fn.tpm ≡ Some s → g.T.Tpm.live l.tpm ≡ Some (after_flushes (take l.counter l.fn.rows.sessions) s);
}
