use Rattle.std.proofs.Common.{◌≡◌, ℕ, ◌<◌, ◌≤◌, List, length, map, get_or, sym, ◌∙◌, subst, arith, below_more}
use Rattle.std.specs.List.{All}
use Rattle.std.proofs.lemmas.List.{get_or_default}
use Rattle.std.proofs.lemmas.List.Elements.{All-map}
use Rattle.component_tree.specs.declared.tree.Component.{Component}
use Rattle.component_tree.specs.declared.tree.Variant.{Variant}
use Rattle.component_tree.specs.PlainTree.{plain_component, plain_variant}
use Rattle.record_match.specs.Noted.{NotesComponent, NotesVariant}
use Rattle.record_match.proofs.NotedLemmas.{all_mapped, kept_component}
use Rattle.record_match.proofs.noting.note_all.Goals as goal

pub loop-number-preserved : goal.loop-number-preserved
loop-number-preserved c = λ k d below.
    let components = c.args.components.now in
    let n = c.loop-number.number in
    let item = c.index-components-number.result in
    let old = c.loop-number.numbers in
    let new = c.note_variants.new.numbers in
    let same : item ≡ get_or components n d = c.index-components-number.is ∙ get_or_default components n item d c.loop-number-test.true in
    let here : NotesComponent new n (plain_component item) =
    subst (λ (vs : List Variant). All (NotesVariant new n) (map plain_variant vs)) c.as_slice.ensures (All-map (NotesVariant new n) plain_variant c.as_slice.result.now c.in_ok-note_variants.ensures.noted) in
    below_more (λ (i : ℕ). NotesComponent new i (plain_component (get_or components i d))) n (λ i before. kept_component old new i (plain_component (get_or components i d)) c.in_ok-note_variants.ensures.lowers (c.loop-number.invariant i d before)) (subst (λ (x : Component). NotesComponent new n (plain_component x)) same here) k below

pub returns : goal.returns
returns c =
    let whole : length c.args.components.now ≤ c.loop-number.number = c.loop-number-test.false in
    all_mapped plain_component (NotesComponent c.loop-number.numbers) c.args.components.now (λ k d inside. c.loop-number.invariant k d (omega (arith, inside, whole)))
