use Rattle.std.proofs.Common.{◌≡◌, ℕ, List, Result, None, sym, ap, ◌∙◌, subst}
use Rattle.std.specs.Result.{result_map_both}
use Rattle.std.proofs.lemmas.Result.{IfOk-weaker}
use Rattle.component_tree.specs.PlainTree.{plain}
use Rattle.predictor.specs.declared.error.ForeseeError.{ForeseeError}
use Rattle.predictor.specs.Cuts.{inside_of}
use Rattle.predictor.specs.Foreseen.{foreseen_joint, lacking_in_any, Refuses}
use Rattle.predictor.specs.Reaching.{values_in}
use Rattle.predictor.proofs.WindowLemmas.{are_first, joint_lacks, joint_has}
use Rattle.predictor.proofs.foreseeing.reach.Goals as goal

pub returns-in-Some-clause-states : goal.returns-in-Some-clause-states
returns-in-Some-clause-states c =
    subst (λ (e : ForeseeError). Refuses e (foreseen_joint c.args.bank c.args.locality c.args.pcrs.now c.args.window.now (plain c.args.tree.now.components))) (sym c.no_digest.ensures)
    (joint_lacks c.args.bank c.args.locality c.args.pcrs.now c.args.window.now (plain c.args.tree.now.components) c.components_inside-components.result.now c.in-Some.at c.components_inside-components.ensures.value c.in-Some.ensures)

pub returns-clause-states : goal.returns-clause-states
returns-clause-states c =
    let states : Result (List (List (List ℕ))) ForeseeError = result_map_both {E = ForeseeError} {D = ForeseeError} values_in (λ e. e) c.spread.result in
    joint_has c.args.bank c.args.locality c.args.pcrs.now c.args.window.now (plain c.args.tree.now.components) c.components_inside-components.result.now c.inside-first.result states
    c.components_inside-components.ensures.value c.in_default.ensures c.inside-first.ensures c.spread.ensures.states

pub returns-clause-reached : goal.returns-clause-reached
returns-clause-reached c =
    IfOk-weaker c.spread.result _ _
    (λ list h. are_first c.args.bank c.args.locality c.args.pcrs.now c.args.window.now (plain c.args.tree.now.components) c.components_inside-components.result.now c.inside-first.result list
    c.components_inside-components.ensures.value c.inside-first.ensures h) c.spread.ensures.reached

pub returns-clause-whole : goal.returns-clause-whole
returns-clause-whole c =
    let none : lacking_in_any c.args.bank c.args.pcrs.now (inside_of c.args.window.now.end (plain c.args.tree.now.components)) ≡ None =
    ap (lacking_in_any c.args.bank c.args.pcrs.now) (sym c.components_inside-components.ensures.value) ∙ sym c.in_default.ensures in
    IfOk-weaker c.spread.result _ _ (λ list h. none) c.spread.ensures.reached
