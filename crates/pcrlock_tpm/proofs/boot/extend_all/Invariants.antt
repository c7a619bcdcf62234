use Rattle.std.proofs.Common.{◌≡◌, ◌≤◌, true, take}
use Rattle.pcr_replay.specs.Row.{rows}
use Rattle.tpm_model.specs.declared.parts.Parts.{Parts}
use Rattle.pcrlock_tpm.specs.Boot.{measured}
use Rattle.pcrlock_line.specs.Running.{Runs}
use Rattle.pcrlock_tpm.proofs.boot.extend_all.Given as goal

-- the device is ready, and where it tells its state, that is the one after the records so far
abbrev pub invariant-loop-record : goal.invariant-loop-record
invariant-loop-record g l = record {
  readiness : g.T.Tpm.ready l.tpm ≡ true;
  later : g.T.Tpm.faults l.fn.tpm ≤ g.T.Tpm.faults l.tpm;
  told : (s : Parts) → Runs (g.T.Tpm.live l.fn.tpm) (g.T.Tpm.stored l.fn.tpm) s → s.update_counter ≡ 0
      → Runs (g.T.Tpm.live l.tpm) (g.T.Tpm.stored l.tpm) (measured (take l.record-index (rows l.list)) s);
}
