use Rattle.std.proofs.Common.{◌≡◌, drop}
use Rattle.std.specs.List.{list_all}
use Rattle.tpm_model.specs.SessionRules.{has_members}
use Rattle.tpm_model.proofs.session_rules.keeps_or_member.Given as goal

-- what is left passes exactly where all pass
abbrev pub invariant-loop-session : goal.invariant-loop-session
invariant-loop-session l = list_all (has_members) (drop l.session-index l.sessions) ≡ list_all (has_members) l.sessions
