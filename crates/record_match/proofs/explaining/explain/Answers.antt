use Rattle.std.proofs.Common.{◌≡◌, ℕ, List, sym, ap, ◌∙◌}
use Rattle.component_tree.specs.PlainTree.{plain}
use Rattle.record_match.specs.Steps.{steps_of}
use Rattle.record_match.specs.Walk.{first_choice}
use Rattle.record_match.specs.Follow.{missing_from}
use Rattle.record_match.proofs.Recognised.{recognised_lacking, recognised_explained, recognised_missing, recognised_not}
use Rattle.record_match.proofs.explaining.explain.Goals as goal

abbrev Steps : Type 0
Steps = List (List (List (List ℕ)))

pub returns-in-Some : goal.returns-in-Some
returns-in-Some c = recognised_lacking c.args.bank c.args.pcr (plain c.args.components.now) c.args.list.now c.in-Some.at c.in-Some.ensures

pub returns-in-Some-2 : goal.returns-in-Some-2
returns-in-Some-2 c =
    let steps : c.as_slice-steps.result.now ≡ steps_of c.args.bank c.args.pcr (plain c.args.components.now) = c.as_slice-steps.ensures ∙ c.in_ok-steps.ensures.value in
    recognised_explained c.args.bank c.args.pcr (plain c.args.components.now) c.args.list.now c.in-Some-2.choice c.in_default.ensures
    (sym c.in-Some-2.is ∙ c.in_ok-choice.ensures ∙ ap (λ (s : Steps). first_choice s c.args.list.now) steps)

pub returns-in-Some-first_missing : goal.returns-in-Some-first_missing
returns-in-Some-first_missing c =
    let steps : c.as_slice-steps.result.now ≡ steps_of c.args.bank c.args.pcr (plain c.args.components.now) = c.as_slice-steps.ensures ∙ c.in_ok-steps.ensures.value in
    recognised_missing c.args.bank c.args.pcr (plain c.args.components.now) c.args.list.now c.in-Some-first_missing.component c.in_default.ensures
    (sym c.in_default-2.is ∙ c.in_ok-choice.ensures ∙ ap (λ (s : Steps). first_choice s c.args.list.now) steps)
    (c.in-Some-first_missing.ensures ∙ ap (missing_from c.args.list.now 0 0) steps)

pub returns : goal.returns
returns c =
    let steps : c.as_slice-steps.result.now ≡ steps_of c.args.bank c.args.pcr (plain c.args.components.now) = c.as_slice-steps.ensures ∙ c.in_ok-steps.ensures.value in
    recognised_not c.args.bank c.args.pcr (plain c.args.components.now) c.args.list.now c.in_default.ensures
    (sym c.in_default-2.is ∙ c.in_ok-choice.ensures ∙ ap (λ (s : Steps). first_choice s c.args.list.now) steps)
    (c.in-None.ensures ∙ ap (missing_from c.args.list.now 0 0) steps)
