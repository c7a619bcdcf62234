use Rattle.std.proofs.Common.{◌≡◌, ◌≤◌, drop, Some}
use Rattle.pl_base.specs.FileMap.{FileMap}
use Rattle.component_tree.specs.Taken.{with_folders, taken_in}
use Rattle.component_tree.proofs.walk.walk.Given as goal

-- the files are those from before, and what is left makes of what was taken so far what all folders give
abbrev pub invariant-loop-folder : goal.invariant-loop-folder
invariant-loop-folder g l = record {
  later : g.F.Files.faults l.fn.files ≤ g.F.Files.faults l.files;
  same : g.F.Files.held l.files ≡ g.F.Files.held l.fn.files;
  told : (map : FileMap) → g.F.Files.held l.fn.files ≡ Some map → with_folders map l.taken.first.entries (drop l.folder-index l.folders) ≡ taken_in map l.folders;
}
