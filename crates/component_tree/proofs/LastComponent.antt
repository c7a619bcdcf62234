-- The last component as it stands in memory, and as plain data.
use Rattle.std.proofs.Common.{◌≡◌, ℕ, suc, ◌-◌, List, [], ◌∷◌, ◌++◌, map, length, take, Some, sym, ap, ◌∙◌, arith}
use Rattle.std.specs.Prelude.{slice_get, option_map, remove, IfSome}
use Rattle.std.proofs.lemmas.List.{length-map, map_push, take-map, append-nil, drop_all}
use Rattle.std.proofs.lemmas.Option.{slice_get-map}
use Rattle.component_tree.specs.declared.tree.Variant.{Variant}
use Rattle.component_tree.specs.declared.tree.Component.{Component}
use Rattle.component_tree.specs.PlainTree.{PlainVariant, PlainComponent, plain, plain_component, plain_variant}
use Rattle.component_tree.specs.Reading.{last_of, grown}

pub last_plain : (cs : List Component) → last_of (plain cs) ≡ option_map plain_component (slice_get cs (length cs - 1))
last_plain cs = rw (length-map cs plain_component) (slice_get-map plain_component cs (length cs - 1))

-- the last component taken out, and put back with one more variant
pub grown_is : (cs left new : List Component) (i : ℕ) (c made : Component) (v : Variant) → suc i ≡ length cs → slice_get cs i ≡ Some c
    → left ≡ remove cs i → new ≡ left ++ made ∷ [] → made.id ≡ c.id → made.variants ≡ c.variants ++ v ∷ []
    → IfSome (last_of (plain cs)) (λ last. plain new ≡ grown (plain cs) last (plain_variant v))
grown_is cs left new i c made v long at rest is same_id variants =
    let place : length cs - 1 ≡ i = omega arith in
    let last : last_of (plain cs) ≡ Some (plain_component c) = last_plain cs ∙ ap (λ (k : ℕ). option_map plain_component (slice_get cs k)) place ∙ ap (option_map plain_component) at in
    let front : map plain_component left ≡ take i (plain cs) =
    ap (map plain_component) rest ∙ ap (λ (behind : List Component). map plain_component (take i cs ++ behind)) (drop_all (suc i) cs (omega arith)) ∙ ap (map plain_component) (append-nil (take i cs)) ∙ sym (take-map plain_component i cs) in
    let taken : take (length (plain cs) - 1) (plain cs) ≡ take i (plain cs) = ap (λ (k : ℕ). take (k - 1) (plain cs)) (length-map cs plain_component) ∙ ap (λ (k : ℕ). take k (plain cs)) place in
    let grown_variants : map plain_variant made.variants ≡ map plain_variant c.variants ++ plain_variant v ∷ [] = ap (map plain_variant) variants ∙ map_push plain_variant c.variants v in
    let whole : plain new ≡ grown (plain cs) (plain_component c) (plain_variant v) =
    ap plain is ∙ map_push plain_component left made
    ∙ ap (λ (xs : List PlainComponent). xs ++ plain_component made ∷ []) (front ∙ sym taken)
    ∙ ap (λ (id : List ℕ). take (length (plain cs) - 1) (plain cs) ++ record { id = id; variants = map plain_variant made.variants } ∷ []) same_id
    ∙ ap (λ (vs : List PlainVariant). take (length (plain cs) - 1) (plain cs) ++ record { id = c.id; variants = vs } ∷ []) grown_variants in
    rw last whole
