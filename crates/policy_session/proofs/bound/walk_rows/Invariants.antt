use Rattle.std.proofs.Common.{◌≡◌, ◌≤◌, Bool, true}
use Rattle.tpm_model.specs.declared.parts.Parts.{Parts}
use Rattle.tpm_model.specs.declared.sessions.Session.{Session}
use Rattle.policy_session.specs.OpenSession.{with_open}
use Rattle.tpm_device.specs.Running.{IsLive}
use Rattle.policy_session.specs.Standing.{StandsAt, commands_left}
use Rattle.policy_session.proofs.Turns.{IsOnward}
use Rattle.policy_session.proofs.bound.walk_rows.Given as goal

-- the device is ready, and the walk comes to what it came to from its first place
abbrev pub invariant-rows : goal.invariant-rows
invariant-rows g l = record {
  readiness : g.T.Tpm.ready l.tpm ≡ true;
  later : g.T.Tpm.faults l.fn.tpm ≤ g.T.Tpm.faults l.tpm;
  ran : (s : Parts) (x : Session) (keeps : Bool) → IsLive keeps (with_open x s) (g.T.Tpm.live l.fn.tpm) (g.T.Tpm.stored l.fn.tpm) → StandsAt l.fn.started x s
      → IsOnward l.fn.started x s keeps l.walk (g.T.Tpm.live l.tpm) (g.T.Tpm.stored l.tpm);
}

abbrev pub decreases-rows : goal.decreases-rows
decreases-rows g l = commands_left l.walk
