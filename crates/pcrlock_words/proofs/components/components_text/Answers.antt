use Rattle.std.proofs.Common.{List, ap, ◌∙◌, flat_map}
use Rattle.std.proofs.lemmas.List.{take_all}
use Rattle.component_tree.specs.PlainTree.{plain_component}
use Rattle.component_tree.specs.declared.tree.Component.{Component}
use Rattle.pcrlock_words.specs.ComponentText.{component_text, components_text}
use Rattle.pcrlock_words.proofs.Lists.{flat_map-map}
use Rattle.pcrlock_words.proofs.components.components_text.Goals as goal

pub returns : goal.returns
unfolding components_text
returns c =
    let items = c.as_slice-component-items.result.now in
    ap (λ v. v.items) c.into_bytes.ensures.value
    ∙ c.loop-component.invariant
    ∙ ap (λ (components : List Component). flat_map (λ component. component_text (plain_component component)) components) (take_all c.loop-component.component-index items c.loop-component-test.false ∙ c.as_slice-component-items.ensures)
    ∙ flat_map-map component_text plain_component c.args.tree.now.components
