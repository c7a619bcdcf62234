use Rattle.std.proofs.Common.{◌≡◌, ◌≤◌, true, take}
use Rattle.tpm_model.specs.declared.parts.Parts.{Parts}
use Rattle.tpm_worlds.specs.CommandLists.{state_after}
use Rattle.pcrlock_exec.specs.Exec.{exec_text}
use Rattle.pcrlock_line.specs.Running.{Runs}
use Rattle.pcrlock_exec.proofs.exec.send_all.Given as goal

-- the device is ready, and where it tells its state, that is the one after the commands so far, whose
-- answers the text has
abbrev pub invariant-loop-command : goal.invariant-loop-command
invariant-loop-command g l = record {
  readiness : g.T.Tpm.ready l.tpm ≡ true;
  later : g.T.Tpm.faults l.fn.tpm ≤ g.T.Tpm.faults l.tpm;
  runs : (s : Parts) → Runs (g.T.Tpm.live l.fn.tpm) (g.T.Tpm.stored l.fn.tpm) s
      → Runs (g.T.Tpm.live l.tpm) (g.T.Tpm.stored l.tpm) (state_after (take l.command-index l.commands) s);
  text : (s : Parts) → Runs (g.T.Tpm.live l.fn.tpm) (g.T.Tpm.stored l.fn.tpm) s → l.text.items ≡ exec_text (take l.command-index l.commands) s;
}
