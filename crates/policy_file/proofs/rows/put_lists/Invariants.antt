use Rattle.std.proofs.Common.{◌≡◌, ◌++◌, take}
use Rattle.std.specs.List.{flat_map}
use Rattle.policy_digest.specs.Strings.{values_string}
use Rattle.policy_file.proofs.rows.put_lists.Given as goal

abbrev pub invariant-loop-values : goal.invariant-loop-values
invariant-loop-values l = l.out.items ≡ l.initial.out.items ++ flat_map values_string (take l.values-index l.lists)
