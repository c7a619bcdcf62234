use Rattle.std.proofs.Common.{◌++◌, List, ap, ◌∙◌, flat_map, string_bytes}
use Rattle.std.proofs.lemmas.List.{take_all}
use Rattle.component_tree.specs.PlainTree.{plain_variant}
use Rattle.component_tree.specs.declared.tree.Variant.{Variant}
use Rattle.pcrlock_words.specs.ComponentText.{variant_text}
use Rattle.pcrlock_words.proofs.Lists.{flat_map-map}
use Rattle.pcrlock_words.proofs.components.write_component.Goals as goal

pub returns : goal.returns
returns c =
    let id = c.args.component.now.id in
    let items = c.as_slice-variant-items.result.now in
    let lines = λ (variants : List Variant). string_bytes c.args.text.now ++ flat_map (λ variant. variant_text id (plain_variant variant)) variants in
    c.loop-variant.invariant
    ∙ ap lines (take_all c.loop-variant.variant-index items c.loop-variant-test.false ∙ c.as_slice-variant-items.ensures)
    ∙ ap (λ text. string_bytes c.args.text.now ++ text) (flat_map-map (variant_text id) plain_variant c.args.component.now.variants)
