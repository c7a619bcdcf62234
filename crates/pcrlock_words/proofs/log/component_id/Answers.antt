use Rattle.std.proofs.Common.{◌≡◌, ℕ, List, length, Option, Some, [], refl, sym, ap, ◌∙◌}
use Rattle.std.specs.Prelude.{option_map, slice_get}
use Rattle.std.specs.Option.{option_map_or}
use Rattle.std.proofs.lemmas.Bool.{ltb-true}
use Rattle.std.proofs.lemmas.Option.{slice_get_read, slice_get-map}
use Rattle.component_tree.specs.declared.tree.Component.{Component}
use Rattle.component_tree.specs.PlainTree.{PlainComponent, plain, plain_component}
use Rattle.pcrlock_words.specs.LogText.{id_at}
use Rattle.pcrlock_words.proofs.log.component_id.Goals as goal

-- the id of a component that is there
id_of : (components : List Component) (number : ℕ) (component : Component) → slice_get components number ≡ Some component → id_at (plain components) number ≡ component.id
id_of components number component found =
    ap (λ (p : Option PlainComponent). option_map_or (λ (c : PlainComponent). c.id) p []) (slice_get-map plain_component components number ∙ ap (option_map plain_component) found)

pub returns-in-Some : goal.returns-in-Some
returns-in-Some c =
    let items : List Component = c.as_slice.result.now in
    let found : slice_get items c.args.number ≡ Some c.in-Some.component.now =
    slice_get_read items (length items) c.args.number c.in-Some.component.now refl (ltb-true c.args.number (length items) (sym c.in-Some.ensures.lookup.0)) c.in-Some.ensures.lookup.1 in
    c.text.ensures
    ∙ sym (id_of c.args.tree.now.components c.args.number c.in-Some.component.now (ap (λ (xs : List Component). slice_get xs c.args.number) (sym c.as_slice.ensures) ∙ found))
