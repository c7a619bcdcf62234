use Rattle.std.proofs.Common.{inl, inr, ◌+◌, ◌<◌, length, sym, ap, ◌∙◌, subst, arith}
use Rattle.std.proofs.lemmas.List.{take_all}
use Rattle.tpm_model.proofs.FromRules.{orderly_from}
use Rattle.tpm_worlds.specs.CommandLists.{state_after}
use Rattle.tpm_worlds.specs.EventLists.{world_after_all}
use Rattle.tpm_worlds.specs.SealedTie.{SealedTie}
use Rattle.tpm_worlds.specs.WholeEvents.{FullTie, OwnTie}
use Rattle.tpm_worlds.proofs.CommandLists.{responses_next, state_next}
use Rattle.tpm_worlds.proofs.EachUnseal.{each_unseal, tie_after_all}
use Rattle.tpm_worlds.proofs.WholeLists.{full_after_all, own_after_all}
use Rattle.tpm_worlds.proofs.stepping.step_all.Goals as goal

pub returns-in-Err-clause-stopped : goal.returns-in-Err-clause-stopped
returns-in-Err-clause-stopped c =
    let i = c.loop-command.command-index in
    let within : i < length c.args.commands.now = c.loop-command-test.true in
    elim c.in-Err.ensures.stopped [
      | inl same ↦ (i, omega arith, same ∙ c.loop-command.invariant.left)
      | inr one ↦ (i + 1, omega arith, one ∙ state_next c.args.commands.now i c.command-item.result c.args.state.now c.loop-command.state within c.command-item.is c.loop-command.invariant.left)
    ]

pub returns-in-Err-clause-unseals : goal.returns-in-Err-clause-unseals
returns-in-Err-clause-unseals c = λ events w _ tie fair safe. each_unseal events c.args.state.now w c.pcrs-pcrs.ensures.rules tie fair safe

pub loop-command-preserved : goal.loop-command-preserved
loop-command-preserved c =
    let i = c.loop-command.command-index in
    let commands = c.args.commands.now in
    let item = c.command-item.result in
    let within : i < length commands = c.loop-command-test.true in
    let so_far = c.loop-command.invariant in
    record {
      rules = c.in-Ok.ensures.rules.1;
      told = c.in-Ok.ensures.answered ∙ responses_next commands i item c.args.state.now c.loop-command.state c.loop-command.responses within c.command-item.is so_far.left so_far.told;
      left = c.in-Ok.ensures.left ∙ state_next commands i item c.args.state.now c.loop-command.state within c.command-item.is so_far.left;
    }

pub returns-clause-unseals : goal.returns-clause-unseals
returns-clause-unseals c = λ events w _ tie fair safe. each_unseal events c.args.state.now w c.pcrs-pcrs.ensures.rules tie fair safe

pub returns-clause-kept : goal.returns-clause-kept
returns-clause-kept c = λ events w same tie fair.
    subst (λ s. SealedTie s (world_after_all events c.args.state.now w))
    (ap (λ commands. state_after commands c.args.state.now) same
    ∙ sym (c.loop-command.invariant.left ∙ ap (λ commands. state_after commands c.args.state.now) (take_all c.loop-command.command-index c.args.commands.now c.loop-command-test.false)))
    (tie_after_all events c.args.state.now w c.pcrs-pcrs.ensures.rules tie fair)

pub returns-clause-own : goal.returns-clause-own
returns-clause-own c = λ events w same tie sound clean safe.
    let every = take_all c.loop-command.command-index c.args.commands.now c.loop-command-test.false in
    subst (λ s. OwnTie s (world_after_all events c.args.state.now w))
    (ap (λ commands. state_after commands c.args.state.now) same ∙ sym (c.loop-command.invariant.left ∙ ap (λ commands. state_after commands c.args.state.now) every))
    (own_after_all events c.args.state.now w (orderly_from c.args.state.now c.pcrs-pcrs.ensures.rules) sound tie clean safe)

pub returns-clause-whole : goal.returns-clause-whole
returns-clause-whole c = λ events w same tie sound clean safe.
    let every = take_all c.loop-command.command-index c.args.commands.now c.loop-command-test.false in
    subst (λ s. FullTie s (world_after_all events c.args.state.now w))
    (ap (λ commands. state_after commands c.args.state.now) same ∙ sym (c.loop-command.invariant.left ∙ ap (λ commands. state_after commands c.args.state.now) every))
    (full_after_all events c.args.state.now w c.pcrs-pcrs.ensures.rules sound tie clean safe)
