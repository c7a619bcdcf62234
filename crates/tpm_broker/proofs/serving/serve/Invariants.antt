use Rattle.std.proofs.Common.{◌≡◌, ◌≤◌, true, length, take}
use Rattle.std.specs.Prelude.{Some, IfSome}
use Rattle.tpm_model.specs.declared.parts.Parts.{Parts}
use Rattle.tpm_model.specs.Rules.{HasRules}
use Rattle.tpm_device.specs.Stored.{Holds}
use Rattle.tpm_broker.specs.Lists.{state_left}
use Rattle.tpm_broker.proofs.InOrder.{SoFar}
use Rattle.tpm_broker.proofs.serving.serve.Given as goal

-- the first commands were answered, and left these clients and this state
abbrev pub invariant-loop-one : goal.invariant-loop-one
invariant-loop-one g l = record {
  ready : g.T.Tpm.ready l.tpm ≡ true;
  later : g.T.Tpm.faults l.fn.tpm ≤ g.T.Tpm.faults l.tpm;
  count : length l.broker ≡ length l.fn.broker;
  rules : (s : Parts) → g.T.Tpm.live l.fn.tpm ≡ Some s → IfSome (g.T.Tpm.live l.tpm) HasRules;
  stored : (s : Parts) → g.T.Tpm.live l.fn.tpm ≡ Some s → g.T.Tpm.stored l.fn.tpm ≡ Some (Holds s)
      → g.T.Tpm.stored l.tpm ≡ Some (Holds (state_left (take l.one-index l.asked) l.fn.broker s));
  told : (s : Parts) → g.T.Tpm.live l.fn.tpm ≡ Some s → SoFar (take l.one-index l.asked) l.fn.broker s l.responses l.broker (g.T.Tpm.live l.tpm);
}
