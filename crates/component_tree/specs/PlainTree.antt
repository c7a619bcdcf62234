-- Components as plain data, without where they lie in memory.
use Rattle.std.specs.Prelude.{ℕ, List, length, map, sum_by}
use Rattle.cel_record.specs.Spelled.{Spelled, spelled}
use Rattle.component_tree.specs.declared.tree.Variant.{Variant}
use Rattle.component_tree.specs.declared.tree.Component.{Component}

-- a variant's name and its records
pub record PlainVariant : Type 0 where
  pub name : List ℕ
  pub records : List Spelled

-- a component's id and its variants
pub record PlainComponent : Type 0 where
  pub id : List ℕ
  pub variants : List PlainVariant

abbrev pub plain_variant : Variant → PlainVariant
plain_variant v = record { name = v.name; records = map spelled v.records }

abbrev pub plain_component : Component → PlainComponent
plain_component c = record { id = c.id; variants = map plain_variant c.variants }

abbrev pub plain : List Component → List PlainComponent
plain components = map plain_component components

-- how many records the variants have in all
abbrev pub records_in_all : List PlainComponent → ℕ
records_in_all components = sum_by (λ c. sum_by (λ v. length v.records) c.variants) components
