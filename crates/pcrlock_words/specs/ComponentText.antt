-- The lines of `list-components`.
use Rattle.std.specs.Prelude.{ℕ, List, ◌++◌, codes, length, flat_map}
use Rattle.std.specs.Fmt.{decimal}
use Rattle.component_tree.specs.PlainTree.{PlainComponent, PlainVariant}
use Rattle.pcrlock_answer.specs.Texts.{line_end}

-- a variant of a component, with how many records it has
abbrev pub variant_text : List ℕ → PlainVariant → List ℕ
variant_text id variant =
    id ++ codes " " ++ variant.name ++ codes " " ++ decimal (length variant.records) ++ line_end

-- the variants of a component
abbrev pub component_text : PlainComponent → List ℕ
component_text component = flat_map (variant_text component.id) component.variants

-- the variants of a tree's components
unfoldable pub components_text : List PlainComponent → List ℕ
components_text components = flat_map component_text components
