use Rattle.std.proofs.Common.{◌≡◌, ℕ, List}
use Rattle.std.specs.BTreeMap.{get_by_text, keys}
use Rattle.std.specs.Map.{keys_of}
use Rattle.pl_base.specs.Listing.{joined, told_by_all}
use Rattle.pl_base.proofs.listing.names_below.Given as goal

-- what was noted and what the other paths tell make what all tell
abbrev pub invariant-loop-held : goal.invariant-loop-held
invariant-loop-held l = (name : List ℕ) → joined (get_by_text l.names name) (told_by_all l.path name (keys_of l.held-iterator)) ≡ told_by_all l.path name (keys l.files)
