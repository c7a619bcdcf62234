use Rattle.std.proofs.Common.{◌≡◌, ◌≤◌, [], Some}
use Rattle.std.specs.Map.{keys_of}
use Rattle.std.specs.List.{AllByRecursion}
use Rattle.std.specs.List.Sorted.{IsStrictlySortedBy}
use Rattle.pl_base.specs.FileMap.{FileMap}
use Rattle.component_tree.specs.Places.{place_cmp}
use Rattle.component_tree.specs.PlainTree.{plain, records_in_all}
use Rattle.component_tree.specs.Reading.{loaded}
use Rattle.component_tree.specs.Taken.{AreThere}
use Rattle.component_tree.specs.Growth.{IsWithin, IsUpTo}
use Rattle.component_tree.proofs.loading.load.Given as goal

-- the files are those from before, and those that are left are there; the components keep what a tree keeps, and stand before all places that are left;
-- what is left makes of them what all files give
abbrev pub invariant-loop-place : goal.invariant-loop-place
invariant-loop-place g l = record {
  can_next : (goal.iterator-loop-place g).can_next l.place-iterator;
  is_finite : (goal.iterator-loop-place g).is_finite l.place-iterator;
  later : g.F.Files.faults l.fn.files ≤ g.F.Files.faults l.files;
  same : g.F.Files.held l.files ≡ g.F.Files.held l.fn.files;
  told : (map : FileMap) → g.F.Files.held l.fn.files ≡ Some map → loaded map (plain l.components) l.place-iterator ≡ loaded map [] l.taken.first.entries;
  there : (map : FileMap) → g.F.Files.held l.fn.files ≡ Some map → AreThere map l.place-iterator;
  within : IsWithin (plain l.components);
  counted : l.total ≡ records_in_all (plain l.components);
  sorted : IsStrictlySortedBy place_cmp (keys_of l.place-iterator);
  up_to : AllByRecursion (λ e. IsUpTo e.0.id (plain l.components)) l.place-iterator;
}
