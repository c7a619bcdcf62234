use Rattle.std.proofs.Common.{◌≡◌, map, drop}
use Rattle.tpm_model.specs.declared.sessions.Session.{Session}
use Rattle.nv_index.specs.Handles.{are_handles}
use Rattle.tpm_model.proofs.session_rules.are_session_handles.Given as goal

-- what is left ascends from the next handle exactly where all ascend from the first
abbrev pub invariant-loop-session : goal.invariant-loop-session
invariant-loop-session l =
    are_handles l.next l.end (map (λ (x : Session). x.handle) (drop l.session-index l.sessions)) ≡ are_handles l.first l.end (map (λ (x : Session). x.handle) l.sessions)
