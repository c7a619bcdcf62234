use Rattle.std.proofs.Common.{◌≡◌, take}
use Rattle.tpm_model.specs.Rules.{HasRules}
use Rattle.tpm_worlds.specs.CommandLists.{responses_to, state_after}
use Rattle.tpm_worlds.proofs.stepping.step_all.Given as goal

-- the commands so far were answered, and left this state
abbrev pub invariant-loop-command : goal.invariant-loop-command
invariant-loop-command l = record {
  rules : HasRules l.state;
  told : l.responses ≡ responses_to (take l.command-index l.commands) l.fn.state;
  left : l.state ≡ state_after (take l.command-index l.commands) l.fn.state;
}
