use Rattle.std.proofs.Common.{◌≡◌, ◌≤◌, Bool, true, length, take}
use Rattle.std.specs.Prelude.{Ok}
use Rattle.tpm_model.specs.declared.parts.Parts.{Parts}
use Rattle.tpm_device.specs.Running.{IsLive}
use Rattle.race_core.specs.Playing.{GivesAll}
use Rattle.race_core.proofs.playing.play.Given as goal

-- the events so far were played
abbrev pub invariant-loop-event : goal.invariant-loop-event
invariant-loop-event g l = record {
  readiness : g.T.Tpm.ready l.tpm ≡ true;
  later : g.T.Tpm.faults l.fn.tpm ≤ g.T.Tpm.faults l.tpm;
  clients : length l.race.clients ≡ length l.fn.race.clients;
  told : (s : Parts) (keeps : Bool) → IsLive keeps s (g.T.Tpm.live l.fn.tpm) (g.T.Tpm.stored l.fn.tpm)
      → GivesAll keeps (take l.event-index l.events) (record { race = l.fn.race; state = s }) (Ok tt) l.race (g.T.Tpm.live l.tpm) (g.T.Tpm.stored l.tpm);
}
