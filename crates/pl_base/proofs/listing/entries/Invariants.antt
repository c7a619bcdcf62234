use Rattle.std.proofs.Common.{◌≡◌, ◌++◌}
use Rattle.pl_base.specs.Listing.{entries_of}
use Rattle.pl_base.proofs.listing.entries.Given as goal

-- the entries made and those of the names to come are the entries of all names
abbrev pub invariant-loop-name : goal.invariant-loop-name
invariant-loop-name l = l.entries.items ++ entries_of l.name-iterator ≡ entries_of l.names.entries
