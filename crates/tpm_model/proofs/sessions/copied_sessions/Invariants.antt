use Rattle.std.proofs.Common.{◌≡◌, take}
use Rattle.tpm_model.proofs.sessions.copied_sessions.Given as goal

-- those so far
abbrev pub invariant-loop-session : goal.invariant-loop-session
invariant-loop-session l = l.copies ≡ take l.session-index l.sessions
