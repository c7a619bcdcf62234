use Rattle.std.proofs.Common.{◌≡◌, ◌≤◌, ℕ, Bool, true, length, take}
use Rattle.hash_bank.specs.Banks.{has_bank}
use Rattle.tpm_model.specs.declared.parts.Parts.{Parts}
use Rattle.tpm_model.specs.declared.sessions.Session.{Session}
use Rattle.policy_session.specs.OpenSession.{IsOpen, with_open}
use Rattle.tpm_device.specs.Running.{IsLive}
use Rattle.policy_session.proofs.Reading.{IsReading}
use Rattle.policy_session.proofs.present.read_present.Given as goal

-- the device is ready, and the values of the PCRs so far stand in the room
abbrev pub invariant-loop-pcr : goal.invariant-loop-pcr
invariant-loop-pcr g l = record {
  readiness : g.T.Tpm.ready l.tpm ≡ true;
  later : g.T.Tpm.faults l.fn.tpm ≤ g.T.Tpm.faults l.tpm;
  room : length l.values ≡ 24;
  few : l.count ≤ l.pcr;
  ran : (s : Parts) (x : Session) (session : ℕ) (keeps : Bool) → IsLive keeps (with_open x s) (g.T.Tpm.live l.fn.tpm) (g.T.Tpm.stored l.fn.tpm) → IsOpen session x s
      → has_bank s.banks l.bank ≡ true
      → IsReading l.bank l.pcrs x s keeps l.pcr l.left (take l.count l.values) (g.T.Tpm.live l.tpm) (g.T.Tpm.stored l.tpm);
}
