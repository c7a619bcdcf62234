use Rattle.std.proofs.Common.{◌≡◌, sym, ap, ◌∙◌, ◌∷◌, subst, arith, List, map, Option}
use Rattle.std.specs.Prelude.{option_map}
use Rattle.cel_record.specs.declared.record.CelRecord.{CelRecord}
use Rattle.std.specs.List.Sorted.{IsStrictlySortedBy}
use Rattle.std.specs.Map.{keys_of}
use Rattle.std.specs.Map.Iter.{deref_pair}
use Rattle.std.proofs.lemmas.Map.Iter.{rest_more}
use Rattle.cel_record.specs.Spelled.{Spelled, spelled}
use Rattle.component_tree.specs.Places.{place_cmp}
use Rattle.component_tree.specs.PlainTree.{plain}
use Rattle.component_tree.specs.Reading.{loaded}
use Rattle.component_tree.specs.Taken.{Taken, AreThere}
use Rattle.component_tree.proofs.Trees.{up_to_rest, sorted_rest, loaded_rest, with_file_found, tree_few, tree_ascends, tree_total}
use Rattle.component_tree.proofs.loading.load.Goals as goal

-- the records of a file, as plain data
abbrev plainly : Option (List CelRecord) → Option (List Spelled)
plainly found = option_map (λ rs. map spelled rs) found

pub loop-place-preserved : goal.loop-place-preserved
loop-place-preserved g c =
    let left : c.loop-place.place-iterator ≡ (c.in-Some.place.now, c.in-Some.path.now) ∷ c.next.new.self =
    rest_more deref_pair c.loop-place.place-iterator c.next.new.self c.next.result (c.in-Some.place, c.in-Some.path) c.in-Some.is c.next.ensures.steps in
    let sorted = sorted_rest c.in-Some.place.now (keys_of c.next.new.self) (subst (λ (es : Taken). IsStrictlySortedBy place_cmp (keys_of es)) left c.loop-place.invariant.sorted) in
    record {
      can_next = tt;
      is_finite = tt;
      later = omega (arith, c.loop-place.invariant.later, c.read_place.ensures.cause.later);
      same = c.read_place.ensures.same ∙ c.loop-place.invariant.same;
      told = λ files held.
          let there = subst (AreThere files) left (c.loop-place.invariant.there files held) in
          loaded_rest files (plain c.loop-place.components) (plain c.add_found.new.components) c.in-Some.place.now c.in-Some.path.now c.next.new.self _
          (sym (ap (λ (es : Taken). loaded files (plain c.loop-place.components) es) left) ∙ c.loop-place.invariant.told files held)
          (with_file_found files (plain c.loop-place.components) (plain c.add_found.new.components) c.in-Some.place.now c.in-Some.path.now (plainly c.in-Ok.found)
          (c.in-Ok.ensures.told files (c.loop-place.invariant.same ∙ held) there.0) c.in-Ok-add_found.ensures.gives);
      there = λ files held. (subst (AreThere files) left (c.loop-place.invariant.there files held)).1;
      within = c.in-Ok-add_found.ensures.within;
      counted = c.in-Ok-add_found.ensures.counted;
      sorted = sorted.1;
      up_to = up_to_rest c.in-Some.place.now (plain c.add_found.new.components) c.next.new.self c.in-Ok-add_found.ensures.in_order sorted.0;
    }

pub invariant_of-result : goal.invariant_of-result
invariant_of-result g c = record {
  few_components = tree_few c.loop-place.components c.loop-place.invariant.within;
  ascending = tree_ascends c.loop-place.components c.loop-place.invariant.within;
  few_records = tree_total c.loop-place.components c.loop-place.invariant.within;
}
