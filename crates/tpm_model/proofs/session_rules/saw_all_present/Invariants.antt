use Rattle.std.proofs.Common.{◌≡◌, drop}
use Rattle.std.specs.List.{list_all}
use Rattle.tpm_model.specs.SessionRules.{saw_present}
use Rattle.tpm_model.proofs.session_rules.saw_all_present.Given as goal

-- what is left passes exactly where all pass
abbrev pub invariant-loop-entry : goal.invariant-loop-entry
invariant-loop-entry l = list_all (saw_present l.parts l.hash) (drop l.entry-index l.trail) ≡ list_all (saw_present l.parts l.hash) l.trail
