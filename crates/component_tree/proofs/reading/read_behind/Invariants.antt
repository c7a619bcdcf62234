use Rattle.std.proofs.Common.{◌≡◌, ◌≤◌}
use Rattle.component_tree.proofs.reading.read_behind.Given as goal

-- the files are those from before
abbrev pub invariant-loop-path : goal.invariant-loop-path
invariant-loop-path g l = record {
  later : g.F.Files.faults l.fn.files ≤ g.F.Files.faults l.files;
  same : g.F.Files.held l.files ≡ g.F.Files.held l.fn.files;
}
