use Rattle.std.proofs.Common.{◌≡◌, ◌≤◌, drop, Some}
use Rattle.pl_base.specs.FileMap.{FileMap}
use Rattle.component_tree.specs.Taken.{with_folder, with_entries}
use Rattle.component_tree.proofs.walk.walk_folder.Given as goal

-- the files are those from before, and what is left makes of what was taken so far what the folder makes of what was taken before
abbrev pub invariant-loop-entry : goal.invariant-loop-entry
invariant-loop-entry g l = record {
  later : g.F.Files.faults l.fn.files ≤ g.F.Files.faults l.files;
  same : g.F.Files.held l.files ≡ g.F.Files.held l.fn.files;
  told : (map : FileMap) → g.F.Files.held l.fn.files ≡ Some map → with_entries map l.taken.first.entries l.folder (drop l.entry-index l.entry-items) ≡ with_folder map l.fn.taken.first.entries l.folder;
}
