use Rattle.std.proofs.Common.{◌≡◌, ℕ, List, length, map, sym, ap, ◌∙◌, subst, Ok, arith}
use Rattle.std.specs.List.{All}
use Rattle.std.proofs.lemmas.List.{length-map}
use Rattle.component_tree.specs.PlainTree.{plain}
use Rattle.predictor.specs.declared.reached.Reached.{Reached}
use Rattle.predictor.proofs.Growth.{map-map}
use Rattle.predict_proof.specs.Proved.{HasShape, Proved}
use Rattle.predict_proof.specs.declared.proof.Proof.{Proof}
use Rattle.predict_proof.specs.Proving.{all_proofs, proof_of, values_in, IsFirstOf}
use Rattle.predict_proof.proofs.AllProved.{first_of_all, first_of_mask, first_proved, first_shaped}
use Rattle.predict_proof.proofs.Lines.{all_lines}
use Rattle.predict_proof.proofs.proving.prove.Goals as goal

pub returns-in_ok-proofs_of-in-Ok-clause-states : goal.returns-in_ok-proofs_of-in-Ok-clause-states
returns-in_ok-proofs_of-in-Ok-clause-states c =
    let states : List Reached = c.in-Ok.states in
    let made : c.in_ok-proofs_of-in-Ok.field-0 ≡ map (proof_of c.args.pcrs) states = c.in_ok-proofs_of-in-Ok.ensures ∙ ap (map (proof_of c.args.pcrs)) c.as_slice.ensures in
    c.in-Ok.ensures.states ∙ ap Ok (sym (ap values_in made ∙ map-map (proof_of c.args.pcrs) (λ (q : Proof). q.values) states))

pub returns-in_ok-proofs_of-in-Ok-clause-proofs : goal.returns-in_ok-proofs_of-in-Ok-clause-proofs
returns-in_ok-proofs_of-in-Ok-clause-proofs c =
    c.in_ok-proofs_of-in-Ok.ensures ∙ ap (map (proof_of c.args.pcrs)) (c.as_slice.ensures ∙ c.in-Ok.ensures.reached)

pub returns-in_ok-proofs_of-in-Ok-clause-first : goal.returns-in_ok-proofs_of-in-Ok-clause-first
returns-in_ok-proofs_of-in-Ok-clause-first c =
    let tree = plain c.args.tree.now.components in
    subst (All (IsFirstOf (all_proofs c.args.bank c.args.locality c.args.pcrs c.args.window.now tree))) (sym (returns-in_ok-proofs_of-in-Ok-clause-proofs c))
    (first_of_all c.args.bank c.args.locality c.args.pcrs c.args.window.now tree)

pub returns-in_ok-proofs_of-in-Ok-clause-few : goal.returns-in_ok-proofs_of-in-Ok-clause-few
returns-in_ok-proofs_of-in-Ok-clause-few c =
    let states : List Reached = c.in-Ok.states in
    let made : c.in_ok-proofs_of-in-Ok.field-0 ≡ map (proof_of c.args.pcrs) states = c.in_ok-proofs_of-in-Ok.ensures ∙ ap (map (proof_of c.args.pcrs)) c.as_slice.ensures in
    omega (arith, ap length made, length-map states (proof_of c.args.pcrs), c.in-Ok.ensures.counted.1)

pub returns-in_ok-proofs_of-in-Ok-clause-of_mask : goal.returns-in_ok-proofs_of-in-Ok-clause-of_mask
returns-in_ok-proofs_of-in-Ok-clause-of_mask c =
    subst (All (λ (q : Proof). q.pcrs ≡ c.args.pcrs)) (sym (returns-in_ok-proofs_of-in-Ok-clause-proofs c))
    (first_of_mask c.args.bank c.args.locality c.args.pcrs c.args.window.now (plain c.args.tree.now.components))

pub returns-in_ok-proofs_of-in-Ok-clause-shaped : goal.returns-in_ok-proofs_of-in-Ok-clause-shaped
returns-in_ok-proofs_of-in-Ok-clause-shaped c =
    subst (All (HasShape c.args.bank)) (sym (returns-in_ok-proofs_of-in-Ok-clause-proofs c))
    (first_shaped c.args.bank c.args.locality c.args.pcrs c.args.window.now (plain c.args.tree.now.components) c.requires.some c.requires.in_range)

pub returns-in_ok-proofs_of-in-Ok-clause-proved : goal.returns-in_ok-proofs_of-in-Ok-clause-proved
returns-in_ok-proofs_of-in-Ok-clause-proved c =
    let tree = plain c.args.tree.now.components in
    subst (All (Proved c.args.bank c.args.locality c.args.window.now tree)) (sym (returns-in_ok-proofs_of-in-Ok-clause-proofs c))
    (first_proved c.args.bank c.args.locality c.args.pcrs c.args.window.now tree c.requires.in_range c.in-Ok.ensures.whole)

pub returns-in_ok-proofs_of-in-Ok-clause-lines : goal.returns-in_ok-proofs_of-in-Ok-clause-lines
returns-in_ok-proofs_of-in-Ok-clause-lines c =
    all_lines c.args.bank c.args.locality c.args.window.now c.args.tree.now.components c.args.tree.now.ascending c.args.tree.now.few_components (omega arith) c.in_ok-proofs_of-in-Ok.field-0
    (returns-in_ok-proofs_of-in-Ok-clause-shaped c) (returns-in_ok-proofs_of-in-Ok-clause-proved c)
