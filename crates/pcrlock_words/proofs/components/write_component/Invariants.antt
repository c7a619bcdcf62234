use Rattle.std.proofs.Common.{◌≡◌, ◌++◌, take, flat_map, string_bytes}
use Rattle.component_tree.specs.PlainTree.{plain_variant}
use Rattle.pcrlock_words.specs.ComponentText.{variant_text}
use Rattle.pcrlock_words.proofs.components.write_component.Given as goal

abbrev pub invariant-loop-variant : goal.invariant-loop-variant
invariant-loop-variant l =
    string_bytes l.text ≡ string_bytes l.fn.text ++ flat_map (λ variant. variant_text l.component.id (plain_variant variant)) (take l.variant-index l.variant-items)
