use Rattle.std.proofs.Common.{◌≡◌, take, flat_map, string_bytes}
use Rattle.component_tree.specs.PlainTree.{plain_component}
use Rattle.pcrlock_words.specs.ComponentText.{component_text}
use Rattle.pcrlock_words.proofs.components.components_text.Given as goal

abbrev pub invariant-loop-component : goal.invariant-loop-component
invariant-loop-component l = string_bytes l.text ≡ flat_map (λ component. component_text (plain_component component)) (take l.component-index l.component-items)
