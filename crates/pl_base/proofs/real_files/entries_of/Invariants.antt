use Rattle.std.proofs.Common.{◌≤◌, vec_len}
use Rattle.pl_base.proofs.real_files.entries_of.Given as goal

abbrev pub invariant-loop-found : goal.invariant-loop-found
invariant-loop-found g l = vec_len l.entries ≤ l.limit
