use Rattle.std.proofs.Common.{List, sym, ap, ◌∙◌, subst, map, Ok}
use Rattle.component_tree.specs.PlainTree.{plain}
use Rattle.policy_digest.specs.Levels.{first_of}
use Rattle.predictor.specs.declared.error.ForeseeError.{ForeseeError}
use Rattle.predictor.specs.declared.reached.Reached.{Reached}
use Rattle.predictor.specs.Foreseen.{foreseen, Refuses}
use Rattle.predictor.specs.Reaching.{values_in}
use Rattle.predictor.proofs.WindowLemmas.{one_lacks, one_ok, one_err}
use Rattle.predictor.proofs.Sound.{one_counted}
use Rattle.predictor.proofs.foreseeing.foresee.Goals as goal

pub returns-in-Some-clause-value : goal.returns-in-Some-clause-value
returns-in-Some-clause-value c =
    subst (λ (e : ForeseeError). Refuses e (foreseen c.args.bank c.args.locality c.args.pcr c.args.window.now (plain c.args.tree.now.components))) (sym c.no_digest.ensures)
    (one_lacks c.args.bank c.args.locality c.args.pcr c.args.window.now (plain c.args.tree.now.components) c.components_inside-components.result.now c.in-Some.at c.components_inside-components.ensures.value c.in-Some.ensures)

pub returns-in_ok-first_values-in-Ok-clause-value : goal.returns-in_ok-first_values-in-Ok-clause-value
returns-in_ok-first_values-in-Ok-clause-value c =
    one_ok c.args.bank c.args.locality c.args.pcr c.args.window.now (plain c.args.tree.now.components) c.components_inside-components.result.now c.inside-first.result (values_in c.in-Ok.states) c.in_ok-first_values-in-Ok.field-0
    c.components_inside-components.ensures.value c.in_default.ensures c.inside-first.ensures c.in-Ok.ensures.states (c.in_ok-first_values-in-Ok.ensures ∙ ap (λ (l : List Reached). map first_of (values_in l)) c.as_slice.ensures)

pub returns-in-Err-clause-value : goal.returns-in-Err-clause-value
returns-in-Err-clause-value c =
    one_err c.args.bank c.args.locality c.args.pcr c.args.window.now (plain c.args.tree.now.components) c.components_inside-components.result.now c.inside-first.result c.in-Err.error
    c.components_inside-components.ensures.value c.in_default.ensures c.inside-first.ensures c.in-Err.ensures.states

pub returns-in_ok-first_values-in-Ok-clause-counted : goal.returns-in_ok-first_values-in-Ok-clause-counted
returns-in_ok-first_values-in-Ok-clause-counted c =
    one_counted c.args.bank c.args.locality c.args.pcr c.args.window.now c.args.tree.now.components (Ok c.in_ok-first_values-in-Ok.field-0) (returns-in_ok-first_values-in-Ok-clause-value c)
